-- Pieces that calls write, one after another.
use Rattle.std.proofs.Common.{◌≡◌, ℕ, List, ◌++◌, sym, subst, ◌∙◌, inl, inr, ◌⊎◌, Ok, Err, refl}
use Rattle.std.specs.Prelude.{Result}
use Rattle.archive_shape_layout.specs.Writing.{WriterMembers, Written, Failed, Writes}
use Rattle.archive_shape_layout.specs.declared.error.Error.{Error}
use Rattle.archive_shape_layout.specs.declared.error.Error.TheVariants.{OutOfMemory}
use Rattle.archive_shape_layout.proofs.Joined.{cut_none, cut_first, cut_after, written_both, failed_first, failed_after}
use Rattle.archive_forms_laws.specs.Serializing.{Stopped, Lays, of_data}

module _ {W : Type 0} (s : WriterMembers W) where
  abbrev pub Wrote : W → W → List ℕ → Type 0
  Wrote old new piece = Written s.OBSERVABLE s.COUNTS s.contents s.pos s.failures s.last_error s.known old new piece

  abbrev pub Fails : W → W → List ℕ → Error → Type 0
  Fails old new piece e = Failed s.OBSERVABLE s.COUNTS s.contents s.pos s.failures s.last_error s.known old new piece e

  -- a call ended before its piece was written
  abbrev pub Stops : W → W → List ℕ → (Error → Type 0) → Error → Type 0
  Stops old new piece refused e = Fails old new piece e ⊎ Stopped s.OBSERVABLE s.contents s.failures old new piece refused e

  -- nothing was written
  pub stopped_before : (old : W) (piece : List ℕ) (refused : Error → Type 0) (e : Error) → (e ≡ OutOfMemory) ⊎ refused e → Stops old old piece refused e
  stopped_before old piece refused e r = inr (record { is_cut = λ t. cut_none (s.contents old) piece; is_quiet = refl; reason = r })

  -- what is refused is refused for more
  pub wider : (P Q : Error → Type 0) {e : Error} → (P e → Q e) → (e ≡ OutOfMemory) ⊎ P e → (e ≡ OutOfMemory) ⊎ Q e
  wider P Q f (inl m) = inl m
  wider P Q f (inr r) = inr (f r)

  -- a call stopped in the first piece
  pub stopped_first : {old new : W} {a : List ℕ} (b piece : List ℕ) (P Q : Error → Type 0) {e : Error} → piece ≡ a ++ b → (P e → Q e) → Stops old new a P e → Stops old new piece Q e
  stopped_first {old = old} {new = new} b piece P Q {e = e} is f h = let S : List ℕ → Type 0 = λ l. Stops old new l Q e in subst S (sym is) (first h)
    where
      first : {a : List ℕ} → Stops old new a P e → Stops old new (a ++ b) Q e
      first (inl g) = inl (failed_first b g)
      first (inr g) = inr (record { is_cut = λ t. cut_first b (g.is_cut t); is_quiet = g.is_quiet; reason = wider P Q f g.reason })

  -- a piece was written, and a call stopped in the next one
  pub stopped_after : {old mid new : W} {a b : List ℕ} (piece : List ℕ) (P Q : Error → Type 0) {e : Error} → piece ≡ a ++ b → (P e → Q e) → Wrote old mid a → Stops mid new b P e → Stops old new piece Q e
  stopped_after {old = old} {mid = mid} {new = new} {a = a} {b = b} piece P Q {e = e} is f w h = let S : List ℕ → Type 0 = λ l. Stops old new l Q e in subst S (sym is) (after h)
    where
      after : Stops mid new b P e → Stops old new (a ++ b) Q e
      after (inl g) = inl (failed_after w g)
      after (inr g) = inr (record { is_cut = λ t. cut_after (s.contents old) a (w.gains t) (g.is_cut t); is_quiet = g.is_quiet ∙ w.is_quiet; reason = wider P Q f g.reason })

  pub wrote_both : {old mid new : W} {a b : List ℕ} (piece : List ℕ) → piece ≡ a ++ b → Wrote old mid a → Wrote mid new b → Wrote old new piece
  wrote_both {old = old} {new = new} piece is f g = let P : List ℕ → Type 0 = λ l. Wrote old new l in subst P (sym is) (written_both f g)

  -- a call that writes a piece, and refuses nothing
  pub writes_lays : {B : Type 0} (old new : W) (piece other : List ℕ) (ok : B → Type 0) (refused : Error → Type 0) (result : Result B Error)
      → piece ≡ other → ((r : B) → ok r) → Writes s old new other result → Lays s old new piece ok refused result
  writes_lays old new piece other ok refused (Ok r) is f w = let P : List ℕ → Type 0 = λ l. Wrote old new l in (subst P (sym is) w, f r)
  writes_lays old new piece other ok refused (Err e) is f w = let P : List ℕ → Type 0 = λ l. Stops old new l refused e in subst P (sym is) (inl w)

-- ---- own bytes as data

module _ {W : Type 0} (s : WriterMembers W) where
  pub as_data : {old new : W} {piece : List ℕ} → Wrote s old new piece → Wrote (of_data s) old new piece
  as_data h = record { gains = h.gains; moves = h.moves; is_quiet = h.is_quiet; keeps = λ key. refl }

  pub fails_as_data : {old new : W} {piece : List ℕ} {e : Error} → Fails s old new piece e → Fails (of_data s) old new piece e
  fails_as_data h = record { is_cut = h.is_cut; is_short = h.is_short; is_counted = h.is_counted; is_last = h.is_last; keeps = λ key. refl }

  pub stops_as_data : {old new : W} {piece : List ℕ} {refused : Error → Type 0} {e : Error} → Stops s old new piece refused e → Stops (of_data s) old new piece refused e
  stops_as_data (inl h) = inl (fails_as_data h)
  stops_as_data (inr h) = inr h
