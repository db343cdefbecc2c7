-- Pieces of data that calls write, one after the other.
use Rattle.std.proofs.Common.{ℕ, List, [], ◌++◌, append-nil, subst, ◌∙◌, inl, inr, ◌⊎◌, refl}
use Rattle.archive_shape_layout.specs.Writing.{WriterMembers, Written, Failed}
use Rattle.archive_shape_layout.specs.declared.error.Error.{Error}
use Rattle.archive_shape_layout.proofs.Joined.{cut_none, cut_first, cut_after, failed_first, failed_after}
use Rattle.archive_forms_laws.specs.Serializing.{Stopped, of_data}
use Rattle.archive_forms_writing.proofs.Laying.{wider}

module _ {W : Type 0} (s : WriterMembers W) where
  abbrev pub Wrote : W → W → List ℕ → Type 0
  Wrote old new piece = Written s.OBSERVABLE s.COUNTS s.contents s.pos s.failures s.last_error (of_data s).known old new piece

  -- a call ended before its piece was written
  abbrev pub Stops : W → W → List ℕ → (Error → Type 0) → Error → Type 0
  Stops old new piece refused e =
      Failed s.OBSERVABLE s.COUNTS s.contents s.pos s.failures s.last_error (of_data s).known old new piece e
      ⊎ Stopped s.OBSERVABLE s.contents s.failures old new piece refused e

  -- nothing was written
  pub stops_before : (old : W) (piece : List ℕ) (refused : Error → Type 0) (e : Error) → refused e → Stops old old piece refused e
  stops_before old piece refused e r = inr (record { is_cut = λ t. cut_none (s.contents old) piece; is_quiet = refl; reason = inr r })

  -- a call stopped in the first of two pieces
  pub stops_first : {old new : W} {a : List ℕ} (b : List ℕ) (P Q : Error → Type 0) {e : Error} → (P e → Q e) → Stops old new a P e → Stops old new (a ++ b) Q e
  stops_first b P Q f (inl g) = inl (failed_first b g)
  stops_first b P Q f (inr g) = inr (record { is_cut = λ t. cut_first b (g.is_cut t); is_quiet = g.is_quiet; reason = wider s P Q f g.reason })

  -- the first was written, and a call stopped in the second
  pub stops_after : {old mid new : W} {a b : List ℕ} (P Q : Error → Type 0) {e : Error} → (P e → Q e) → Wrote old mid a → Stops mid new b P e → Stops old new (a ++ b) Q e
  stops_after P Q f w (inl g) = inl (failed_after w g)
  stops_after {old = old} {a = a} P Q f w (inr g) = inr (record { is_cut = λ t. cut_after (s.contents old) a (w.gains t) (g.is_cut t); is_quiet = g.is_quiet ∙ w.is_quiet; reason = wider s P Q f g.reason })

  -- the whole was written
  pub stops_behind : (old new : W) (a : List ℕ) (refused : Error → Type 0) (e : Error) → refused e → Wrote old new a → Stops old new a refused e
  stops_behind old new a refused e r w =
      let P : List ℕ → Type 0 = λ l. Stops old new l refused e in
      subst P (append-nil a) (stops_after refused refused (λ q. q) w (stops_before new [] refused e r))
