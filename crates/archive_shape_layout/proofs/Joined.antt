-- Pieces that are written one after the other.
use Rattle.std.proofs.Common.{Ok, Err, ◌<◌, arith, ◌∷◌, zero, suc, flat_map, take, drop, get_or, ◌≡◌, ℕ, ◌+◌, Bool, List, [], ◌++◌, append_assoc, append-nil, length, length-append, ap, ◌∙◌, sym, refl, add_assoc, add-zero, subst}
use Rattle.std.proofs.lemmas.List.{take-append-drop}
use Rattle.archive_shape_layout.specs.Progress.{Progress}
use Rattle.archive_shape_layout.specs.declared.error.Error.{Error}
use Rattle.std.specs.Prelude.{Result}
use Rattle.archive_shape_layout.specs.Writing.{Cut, IsCounted, Written, Failed, Appends}

-- nothing of the piece was written
pub cut_none : (x piece : List ℕ) → Cut x x piece
cut_none x piece = record { written = []; lost = piece; new_is = sym (append-nil x); piece_is = refl }

-- the first bytes of the piece were written
pub cut_take : (x piece : List ℕ) (n : ℕ) → Cut x (x ++ take n piece) piece
cut_take x piece n = record { written = take n piece; lost = drop n piece; new_is = refl; piece_is = sym (take-append-drop n piece) }

pub cut_first : {old new a : List ℕ} (b : List ℕ) → Cut old new a → Cut old new (a ++ b)
cut_first b h = record {
  written = h.written;
  lost = h.lost ++ b;
  new_is = h.new_is;
  piece_is = ap (λ x. x ++ b) h.piece_is ∙ append_assoc h.written h.lost b;
}

pub cut_after : {mid new b : List ℕ} (old a : List ℕ) → mid ≡ old ++ a → Cut mid new b → Cut old new (a ++ b)
cut_after old a e h = record {
  written = a ++ h.written;
  lost = h.lost;
  new_is = h.new_is ∙ ap (λ x. x ++ h.written) e ∙ append_assoc old a h.written;
  piece_is = ap (λ x. a ++ x) h.piece_is ∙ sym (append_assoc a h.written h.lost);
}

-- a piece lies after those before it and before those after it
pub flat_map-split : {X : Type 0} (f : X → List ℕ) (xs : List X) (i : ℕ) (d : X) → i < length xs
    → flat_map f xs ≡ flat_map f (take i xs) ++ (f (get_or xs i d) ++ flat_map f (drop (suc i) xs))
flat_map-split f [] i d lt = absurd (omega (arith, lt))
flat_map-split f (x ∷ xs) zero d lt = refl
flat_map-split f (x ∷ xs) (suc i) d lt = ap (λ l. f x ++ l) (flat_map-split f xs i d (omega (arith, lt))) ∙ sym (append_assoc (f x) (flat_map f (take i xs)) (f (get_or xs i d) ++ flat_map f (drop (suc i) xs)))

module _ {W : Type 0} {observable counts : Bool} {contents : W → List ℕ} {pos failures : W → ℕ} {last_error : W → Error} {known : W → ℕ → Progress ℕ} where
  pub written_none : (w : W) → Written observable counts contents pos failures last_error known w w []
  written_none w = record { gains = λ t. sym (append-nil (contents w)); moves = sym (add-zero (pos w)); is_quiet = refl; keeps = λ key. refl }

  -- a piece, and then another
  pub written_both : {old mid new : W} {a b : List ℕ} → Written observable counts contents pos failures last_error known old mid a
      → Written observable counts contents pos failures last_error known mid new b
      → Written observable counts contents pos failures last_error known old new (a ++ b)
  written_both {old = old} {a = a} {b = b} f g = record {
    gains = λ t. g.gains t ∙ ap (λ x. x ++ b) (f.gains t) ∙ append_assoc (contents old) a b;
    moves = g.moves ∙ ap (λ n. n + length b) f.moves ∙ add_assoc (pos old) (length a) (length b) ∙ ap (λ n. pos old + n) (sym (length-append a b));
    is_quiet = g.is_quiet ∙ f.is_quiet;
    keeps = λ key. g.keeps key ∙ f.keeps key;
  }

  -- the first piece failed
  pub failed_first : {old new : W} {a : List ℕ} {e : Error} (b : List ℕ)
      → Failed observable counts contents pos failures last_error known old new a e
      → Failed observable counts contents pos failures last_error known old new (a ++ b) e
  failed_first {a = a} b h = record {
    is_cut = λ t. cut_first b (h.is_cut t);
    is_short = λ t u. omega (arith, h.is_short t u, length-append a b);
    is_counted = h.is_counted;
    is_last = h.is_last;
    keeps = h.keeps;
  }

  -- a piece was written, and the next one failed
  pub failed_after : {old mid new : W} {a b : List ℕ} {e : Error}
      → Written observable counts contents pos failures last_error known old mid a
      → Failed observable counts contents pos failures last_error known mid new b e
      → Failed observable counts contents pos failures last_error known old new (a ++ b) e
  failed_after {old = old} {new = new} {a = a} {b = b} {e = e} f h = record {
    is_cut = λ t. cut_after (contents old) a (f.gains t) (h.is_cut t);
    is_short = λ t u. omega (arith, h.is_short t u, ap length (f.gains t), length-append (contents old) a, length-append a b);
    is_counted = let P : ℕ → Type 0 = λ n. IsCounted counts n (failures new) e in subst P f.is_quiet h.is_counted;
    is_last = h.is_last;
    keeps = λ key. h.keeps key ∙ f.keeps key;
  }

  -- the pieces before one were written, and that one failed
  pub failed_among : {X : Type 0} {old mid new : W} {e : Error} (f : X → List ℕ) (xs : List X) (i : ℕ) (d : X) → i < length xs
      → Written observable counts contents pos failures last_error known old mid (flat_map f (take i xs))
      → Failed observable counts contents pos failures last_error known mid new (f (get_or xs i d)) e
      → Failed observable counts contents pos failures last_error known old new (flat_map f xs) e
  failed_among {old = old} {new = new} {e = e} f xs i d lt h k =
      let P : List ℕ → Type 0 = λ piece. Failed observable counts contents pos failures last_error known old new piece e in
      subst P (sym (flat_map-split f xs i d lt)) (failed_after h (failed_first (flat_map f (drop (suc i) xs)) k))

  -- a piece was written, and then a call writes another
  pub appends_after : {A : Type 0} {old mid : W} (new : W) {a : List ℕ} (b : List ℕ) (result : Result A Error)
      → Written observable counts contents pos failures last_error known old mid a
      → Appends observable counts contents pos failures last_error known mid new b result
      → Appends observable counts contents pos failures last_error known old new (a ++ b) result
  appends_after new b (Ok x) h k = written_both h k
  appends_after new b (Err e) h k = failed_after h k
