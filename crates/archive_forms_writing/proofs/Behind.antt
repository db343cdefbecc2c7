-- Own bytes that are written after data, from the next position of their alignment on.
use Rattle.std.proofs.Common.{◌≡◌, ℕ, ◌-◌, ◌^◌, ◌≤◌, ◌<◌, List, ◌++◌, refl, ap, subst, ◌∙◌, arith, length, inl, inr, Ok, ◌⊎◌}
use Rattle.std.proofs.lemmas.List.{length-replicate}
use Rattle.archive_shape_layout.specs.Bytes.{align_up}
use Rattle.archive_shape_layout.specs.Shape.{Shape, align_of}
use Rattle.archive_shape_layout.proofs.Framed.{le_align_up}
use Rattle.archive_shape.specs.Bytes.{zeros}
use Rattle.archive_shape_layout.specs.Writing.{WriterMembers}
use Rattle.archive_shape_layout.specs.declared.error.Error.{Error}
use Rattle.archive_shape_layout.specs.declared.error.Error.TheVariants.{PositionTooLarge}
use Rattle.archive_forms_laws.specs.State.{State}
use Rattle.archive_forms_laws.specs.Spelling.{Spelling}
use Rattle.archive_forms_laws.specs.Regions.{owns, owns_fit, owns_refused}
use Rattle.archive_forms_writing.specs.Behind.{LaysBehind}
use Rattle.archive_forms_writing.proofs.Laying.{Wrote, Fails, Stops, wrote_both, stopped_after, stopped_first, stopped_before}

module _ {A R W : Type 0} (w : Spelling A R) (sh : Shape) (s : WriterMembers W) (xs : List A) (st : State) (old : W) where
  -- where the elements begin, the zeros before them, and why they are refused
  abbrev start : ℕ
  start = align_up (s.pos old) (align_of sh)

  abbrev before : List ℕ
  before = zeros (start - s.pos old)

  abbrev far_refused : Error → Type 0
  far_refused e = (2 ^ 32 ≤ start) × (e ≡ PositionTooLarge)

  abbrev refused : Error → Type 0
  refused e = far_refused e ⊎ owns_refused w sh xs st start e

  before_is : (align : ℕ) → align ≡ align_of sh → zeros (align_up (s.pos old) align - s.pos old) ≡ before
  before_is align e = ap (λ a. zeros (align_up (s.pos old) a - s.pos old)) e

  -- a call stopped in the zeros
  pub behind_failed : (new : W) (align : ℕ) (e : Error) → align ≡ align_of sh → Fails s old new (zeros (align_up (s.pos old) align - s.pos old)) e
      → Stops s old new (before ++ owns w xs st start) refused e
  behind_failed new align e is g =
      let none : Error → Type 0 = λ _. ⊥ in
      let P : List ℕ → Type 0 = λ l. Fails s old new l e in
      stopped_first s (owns w xs st start) (before ++ owns w xs st start) none refused refl (λ r. absurd r) (inl (subst P (before_is align is) g))

  -- the elements would begin past the last position
  pub behind_far : (mid : W) (align to : ℕ) → align ≡ align_of sh → to ≡ align_up (s.pos old) align → 2 ^ 32 ≤ to
      → Wrote s old mid (zeros (align_up (s.pos old) align - s.pos old))
      → Stops s old mid (before ++ owns w xs st start) refused PositionTooLarge
  behind_far mid align to is at far g =
      let P : List ℕ → Type 0 = λ l. Wrote s old mid l in
      let begins : to ≡ start = at ∙ ap (align_up (s.pos old)) is in
      let high : 2 ^ 32 ≤ start = omega (arith, begins, far) in
      stopped_after s (before ++ owns w xs st start) far_refused refused refl (λ r. inl r) (subst P (before_is align is) g)
      (stopped_before s mid (owns w xs st start) far_refused PositionTooLarge (inr (high, refl)))

  module _ (mid : W) (align : ℕ) (is : align ≡ align_of sh) (g : Wrote s old mid (zeros (align_up (s.pos old) align - s.pos old))) where
    zeros_wrote : Wrote s old mid before
    zeros_wrote = let P : List ℕ → Type 0 = λ l. Wrote s old mid l in subst P (before_is align is) g

    begins_at : s.pos mid ≡ start
    begins_at =
        let up : s.pos old ≤ start = le_align_up (s.pos old) (align_of sh) in
        let filled : length before ≡ start - s.pos old = length-replicate _ _ in
        omega (arith, zeros_wrote.moves, up, filled)

    -- they were written
    pub behind_written : (new : W) (to : ℕ) → to ≡ align_up (s.pos old) align → to < 2 ^ 32
        → Wrote s mid new (owns w xs st (s.pos mid)) → owns_fit w sh xs st (s.pos mid)
        → LaysBehind sh w s xs st old new (s.pos old) (Ok to)
    behind_written new to at low h fit =
        let P : ℕ → Type 0 = λ n. Wrote s mid new (owns w xs st n) in
        let F : ℕ → Type 0 = λ n. owns_fit w sh xs st n in
        let begins : to ≡ start = at ∙ ap (align_up (s.pos old)) is in
        let small : start < 2 ^ 32 = omega (arith, begins, low) in
        (wrote_both s (before ++ owns w xs st start) refl zeros_wrote (subst P begins_at h), (begins, small, subst F begins_at fit))

    -- a call stopped in them
    pub behind_stopped : (new : W) (e : Error) → Stops s mid new (owns w xs st (s.pos mid)) (owns_refused w sh xs st (s.pos mid)) e
        → Stops s old new (before ++ owns w xs st start) refused e
    behind_stopped new e h =
        let P : ℕ → Type 0 = λ n. Stops s mid new (owns w xs st n) (owns_refused w sh xs st n) e in
        stopped_after s (before ++ owns w xs st start) (owns_refused w sh xs st start) refused refl (λ r. inr r) zeros_wrote (subst P begins_at h)
