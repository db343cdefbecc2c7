-- Own bytes that are written over all bytes of a piece.
use Rattle.std.proofs.Common.{◌≡◌, ℕ, List, length, sym, ap, subst, ◌∙◌, Ok, Err}
use Rattle.std.specs.Prelude.{Result, MatchResult}
use Rattle.archive_shape_layout.specs.Shape.{Shape, size_of}
use Rattle.archive_shape.specs.Bytes.{overwrite}
use Rattle.archive_shape_layout.specs.declared.error.Error.{Error}
use Rattle.archive_forms_laws.specs.Spelling.{Spelling}
use Rattle.archive_forms_laws.specs.Serializing.{Resolves}
use Rattle.archive_forms_writing.proofs.Joining.{whole_over}

module _ {A R : Type 0} (s : Shape) (w : Spelling A R) (x : A) (r : R) (sized : (pos : ℕ) → w.own_fits x r pos → length (w.own x r pos) ≡ size_of s) where
  -- what a value is resolved to in a place that is all of the bytes
  pub whole_resolved : (pos at start : ℕ) (old new final : List ℕ) (result : Result (Unit {0}) Error)
      → at ≡ pos → start ≡ 0 → length old ≡ size_of s → new ≡ final → Resolves w s x r at start old new result
      → MatchResult result (λ _. w.own_fits x r pos × (final ≡ w.own x r pos)) (w.own_refused x r pos)
  whole_resolved pos at start old new final (Ok u) is first whole ends h =
      let F : ℕ → Type 0 = λ n. w.own_fits x r n in
      let all : overwrite old start (w.own x r at) ≡ w.own x r at = whole_over old start (w.own x r at) first (sized at h.0 ∙ sym whole) in
      (subst F is h.0, sym ends ∙ h.1 ∙ all ∙ ap (w.own x r) is)
  whole_resolved pos at start old new final (Err e) is first whole ends h = let F : ℕ → Type 0 = λ n. w.own_refused x r n e in subst F is h.0
