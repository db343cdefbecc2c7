-- What a call that writes the own bytes of a value changes.
use Rattle.std.proofs.Common.{◌≡◌, ℕ, ◌+◌, ◌≤◌, ◌<◌, ◌^◌, List, ◌++◌, length, Ok, Err, sym, ap, subst, ◌∙◌, arith, le_refl, ◌⊎◌, inl, inr, ⊎_elim}
use Rattle.std.specs.Prelude.{Result, MatchResult, IsUtf8}
use Rattle.std.specs.Int.{w32, to_le_bytes}
use Rattle.archive_shape_layout.specs.Shape.{Shape, size_of}
use Rattle.archive_shape_layout.specs.Shape.Shape.{text}
use Rattle.archive_shape_layout.specs.Edit.{Spares}
use Rattle.archive_shape.specs.Bytes.{overwrite}
use Rattle.archive_shape.specs.Offsets.{FitsOffset, offset_bytes}
use Rattle.archive_shape.proofs.Spared.{spares_same, spares_overwritten}
use Rattle.archive_shape_layout.specs.declared.error.Error.{Error}
use Rattle.archive_shape_layout.specs.declared.error.Error.TheVariants.{IsizeOverflow, LengthTooLarge}
use Rattle.archive_forms_laws.specs.Spelling.{Spelling}
use Rattle.archive_forms_laws.specs.Pointers.{box_spelling, slice_spelling}
use Rattle.archive_forms_laws.specs.Texts.{is_short, text_own, text_own_fits, text_own_refused, text_spelling}
use Rattle.archive_forms_laws.specs.Serializing.{Resolves}

module _ {A R : Type 0} (w : Spelling A R) (s : Shape) (x : A) (r : R) where
  -- whether the value is resolved or refused, the bytes outside its own stay
  pub resolved_spares :
      (pos start : ℕ) (old new : List ℕ) (result : Result (Unit {0}) Error)
      → start + size_of s ≤ length old
      → (w.own_fits x r pos → length (w.own x r pos) ≡ size_of s)
      → Resolves w s x r pos start old new result
      → Spares old new start (size_of s)
  resolved_spares pos start old new (Ok u) room sized h =
      let long = sized h.0 in
      subst (λ l. Spares old l start (size_of s)) (sym h.1) (spares_overwritten old start (w.own x r pos) start (size_of s) (le_refl start) (omega (arith, long)) room)
  resolved_spares pos start old new (Err e) room sized h = h.1

  -- another shape of as many bytes
  pub resolved_as :
      (t : Shape) (pos start : ℕ) (old new : List ℕ) (result : Result (Unit {0}) Error)
      → size_of s ≡ size_of t
      → Resolves w s x r pos start old new result
      → Resolves w t x r pos start old new result
  resolved_as t pos start old new (Ok u) is h = h
  resolved_as t pos start old new (Err e) is h = (h.0, subst (Spares old new start) is h.1)

  -- at a place that is this one
  pub resolved_there :
      (pos start at from : ℕ) (old before new after : List ℕ) (result : Result (Unit {0}) Error)
      → at ≡ pos → from ≡ start → before ≡ old → new ≡ after
      → Resolves w s x r at from before new result
      → Resolves w s x r pos start old after result
  resolved_there pos start at from old before new after result is_pos is_start is_old is_new h =
      subst (λ p. Resolves w s x r p start old after result) is_pos
      (subst (λ n. Resolves w s x r at n old after result) is_start
      (subst (λ l. Resolves w s x r at from l after result) is_old
      (subst (λ l. Resolves w s x r at from before l result) is_new h)))

-- a pointer to one value, where nothing is written if it is refused
pub box_resolved :
    {A R : Type 0} (s t : Shape) (w : Spelling A R) (x : A) (to pos start : ℕ) (old new : List ℕ) (result : Result (Unit {0}) Error)
    → MatchResult result
    (λ _. FitsOffset pos to × (new ≡ overwrite old start (offset_bytes pos to)))
    (λ e. (e ≡ IsizeOverflow) × ((FitsOffset pos to → ⊥) × (new ≡ old)))
    → Resolves (box_spelling s w) t x to pos start old new result
box_resolved s t w x to pos start old new (Ok u) h = h
box_resolved s t w x to pos start old new (Err e) h = ((h.1.0, h.0), spares_same old new start (size_of t) h.1.1)

-- a pointer to n elements or bytes, with their number
pub counted_resolved :
    (size len n to pos start : ℕ) (old new : List ℕ) (result : Result (Unit {0}) Error)
    → len ≡ n
    → MatchResult result
    (λ _. (FitsOffset pos to × (len < 2 ^ 32)) × (new ≡ overwrite old start (offset_bytes pos to ++ to_le_bytes w32 len)))
    (λ e. (((e ≡ LengthTooLarge) × (2 ^ 32 ≤ len)) ⊎ ((e ≡ IsizeOverflow) × (len < 2 ^ 32) × (FitsOffset pos to → ⊥))) × (new ≡ old))
    → MatchResult result
    (λ _. (FitsOffset pos to × (n < 2 ^ 32)) × (new ≡ overwrite old start (offset_bytes pos to ++ to_le_bytes w32 n)))
    (λ e. (((FitsOffset pos to → ⊥) × (e ≡ IsizeOverflow)) ⊎ ((2 ^ 32 ≤ n) × (e ≡ LengthTooLarge))) × Spares old new start size)
counted_resolved size len n to pos start old new (Ok u) is h =
    let F : ℕ → Type 0 = λ m. m < 2 ^ 32 in
    ((h.0.0, subst F is h.0.1), h.1 ∙ ap (λ m. overwrite old start (offset_bytes pos to ++ to_le_bytes w32 m)) is)
counted_resolved size len n to pos start old new (Err e) is h =
    let F : ℕ → Type 0 = λ m. 2 ^ 32 ≤ m in
    (⊎_elim (λ k. inr (subst F is k.1, k.0)) (λ k. inl (k.2, k.0)) h.0, spares_same old new start size h.1)

pub slice_resolved :
    {A R : Type 0} (s t : Shape) (w : Spelling A R) (xs : List A) (len to pos start : ℕ) (old new : List ℕ) (result : Result (Unit {0}) Error)
    → len ≡ length xs
    → MatchResult result
    (λ _. (FitsOffset pos to × (len < 2 ^ 32)) × (new ≡ overwrite old start (offset_bytes pos to ++ to_le_bytes w32 len)))
    (λ e. (((e ≡ LengthTooLarge) × (2 ^ 32 ≤ len)) ⊎ ((e ≡ IsizeOverflow) × (len < 2 ^ 32) × (FitsOffset pos to → ⊥))) × (new ≡ old))
    → Resolves (slice_spelling s w) t xs to pos start old new result
slice_resolved s t w xs len to pos start old new result is h = counted_resolved (size_of t) len (length xs) to pos start old new result is h

-- a text, inline or out of line
pub text_resolved :
    (t : List ℕ) (to pos start : ℕ) (old new : List ℕ) (result : Result (Unit {0}) Error)
    → IsUtf8 t
    → MatchResult result
    (λ _. text_own_fits (is_short t) t to pos × (new ≡ overwrite old start (text_own (is_short t) t to pos)))
    (λ e. text_own_refused (is_short t) t to pos e × (new ≡ old))
    → Resolves text_spelling text t to pos start old new result
text_resolved t to pos start old new (Ok u) utf8 h = ((utf8, h.0), h.1)
text_resolved t to pos start old new (Err e) utf8 h = (h.0, spares_same old new start (size_of text) h.1)
