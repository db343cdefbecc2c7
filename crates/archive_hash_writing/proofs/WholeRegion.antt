-- The region of a table that is written after the data of its items.
use Rattle.std.proofs.Common.{◌≡◌, ℕ, ◌+◌, ◌-◌, ◌*◌, ◌^◌, ◌<◌, List, ◌++◌, append_assoc, refl, sym, ap, subst, ◌∙◌, arith, length, inl, inr, ◌⊎◌, Option, Ok}
use Rattle.std.proofs.lemmas.List.{length-replicate}
use Rattle.archive_shape_layout.specs.Bytes.{align_up}
use Rattle.archive_shape_layout.specs.Shape.{Shape, size_of, align_of}
use Rattle.archive_shape_layout.proofs.Framed.{le_align_up}
use Rattle.archive_shape.specs.Bytes.{zeros}
use Rattle.archive_shape_layout.specs.Writing.{WriterMembers}
use Rattle.archive_shape_layout.specs.declared.error.Error.{Error}
use Rattle.archive_shape_layout.specs.declared.error.Error.TheVariants.{PositionTooLarge}
use Rattle.archive_forms_laws.specs.State.{State}
use Rattle.archive_forms_laws.specs.Spelling.{Spelling}
use Rattle.archive_forms_writing.proofs.Laying.{Wrote, Fails, Stops, wrote_both, stopped_after, stopped_first, stopped_before}
use Rattle.archive_hash_writing.specs.Tables.{buckets, buckets_fit, buckets_refused, state_after_items, region_from, controls_at, IsPlaced}
use Rattle.archive_hash_writing.specs.Laying.{LaysRegion}

-- zeros up to a position of an alignment end there
pub aligned_at : {W : Type 0} (s : WriterMembers W) (old mid : W) (align from : ℕ) → from ≡ align_up (s.pos old) align → Wrote s old mid (zeros (align_up (s.pos old) align - s.pos old)) → s.pos mid ≡ from
aligned_at s old mid align from e g =
    let up = le_align_up (s.pos old) align in
    let moves = g.moves in
    let filled : length (zeros (align_up (s.pos old) align - s.pos old)) ≡ align_up (s.pos old) align - s.pos old = length-replicate _ _ in
    omega arith

module _ {A R W : Type 0} (w : Spelling A R) (sh : Shape) (s : WriterMembers W) (os : List (Option A)) (controls : List ℕ) (st : State) (old : W) (at : s.pos old ≡ (state_after_items sh w os st).pos) (align : ℕ) (is : align ≡ align_of sh) where
  -- the zeros before it, what it is, and why it is refused
  abbrev gap : List ℕ
  gap = zeros (region_from sh w os st - (state_after_items sh w os st).pos)

  abbrev all_buckets : List ℕ
  all_buckets = buckets sh w os st (controls_at sh w os st)

  abbrev refused_buckets : Error → Type 0
  refused_buckets e = buckets_refused sh w os st (controls_at sh w os st) e

  abbrev far : Error → Type 0
  far e = (IsPlaced sh w os controls st → ⊥) × (e ≡ PositionTooLarge)

  abbrev refused : Error → Type 0
  refused e = far e ⊎ refused_buckets e

  gap_is : zeros (align_up (s.pos old) align - s.pos old) ≡ gap
  gap_is = ap (λ a. zeros (align_up (s.pos old) a - s.pos old)) is ∙ ap (λ p. zeros (align_up p (align_of sh) - p)) at

  pub starts : (from : ℕ) → from ≡ align_up (s.pos old) align → from ≡ region_from sh w os st
  starts from e = e ∙ ap (align_up (s.pos old)) is ∙ ap (λ p. align_up p (align_of sh)) at

  -- the zeros could not be written
  pub gap_failed : (new : W) (e : Error) → Fails s old new (zeros (align_up (s.pos old) align - s.pos old)) e → Stops s old new (gap ++ (all_buckets ++ controls)) refused e
  gap_failed new e g =
      let none : Error → Type 0 = λ _. ⊥ in
      let P : List ℕ → Type 0 = λ l. Fails s old new l e in
      stopped_first s (all_buckets ++ controls) (gap ++ (all_buckets ++ controls)) none refused refl (λ r. absurd r) (inl (subst P gap_is g))

  module _ (mid : W) (from : ℕ) (aligned : from ≡ align_up (s.pos old) align) (g : Wrote s old mid (zeros (align_up (s.pos old) align - s.pos old))) where
    wrote_gap : Wrote s old mid gap
    wrote_gap = let P : List ℕ → Type 0 = λ l. Wrote s old mid l in subst P gap_is g

    ends : s.pos mid + length os * size_of sh ≡ controls_at sh w os st
    ends = let here = aligned_at s old mid align from aligned g in let there = starts from aligned in omega arith

    -- the region would lie too far
    pub region_far : (places n : ℕ) → places ≡ length os → n ≡ length controls → ((from < 2 ^ 32) × (from + places * size_of sh + n < 2 ^ 64) → ⊥)
        → Stops s old mid (gap ++ (all_buckets ++ controls)) refused PositionTooLarge
    region_far places n e f never =
        let there = starts from aligned in
        let same : places * size_of sh ≡ length os * size_of sh = ap (λ k. k * size_of sh) e in
        let not_placed : IsPlaced sh w os controls st → ⊥ = λ p. never (omega (arith, p.0, there), omega (arith, p.1, there, same, f)) in
        stopped_after s (gap ++ (all_buckets ++ controls)) far refused refl (λ r. inl r) wrote_gap (stopped_before s mid (all_buckets ++ controls) far PositionTooLarge (inr (not_placed, refl)))

    -- a call stopped in the buckets
    pub buckets_stopped : (new : W) (e : Error) → let end = s.pos mid + length os * size_of sh in Stops s mid new (buckets sh w os st end) (buckets_refused sh w os st end) e
        → Stops s old new (gap ++ (all_buckets ++ controls)) refused e
    buckets_stopped new e h =
        let P : ℕ → Type 0 = λ n. Stops s mid new (buckets sh w os st n) (buckets_refused sh w os st n) e in
        stopped_after s (gap ++ (all_buckets ++ controls)) refused_buckets refused refl (λ r. inr r) wrote_gap
        (stopped_first s controls (all_buckets ++ controls) refused_buckets refused_buckets refl (λ r. r) (subst P ends h))

    module _ (next : W) (h : Wrote s mid next (buckets sh w os st (s.pos mid + length os * size_of sh))) where
      wrote_buckets : Wrote s old next (gap ++ all_buckets)
      wrote_buckets = let P : ℕ → Type 0 = λ n. Wrote s mid next (buckets sh w os st n) in wrote_both s (gap ++ all_buckets) refl wrote_gap (subst P ends h)

      -- the controls could not be written
      pub controls_failed : (new : W) (e : Error) → Fails s next new controls e → Stops s old new (gap ++ (all_buckets ++ controls)) refused e
      controls_failed new e k =
          let none : Error → Type 0 = λ _. ⊥ in
          let tail : Stops s next new controls none e = inl k in
          stopped_after s (gap ++ (all_buckets ++ controls)) none refused (sym (append_assoc gap all_buckets controls)) (λ r. absurd r) wrote_buckets tail

      -- all of it was written
      pub region_laid : (new : W) (to places : ℕ) → places ≡ length os → to ≡ from + places * size_of sh → from < 2 ^ 32 → to + length controls < 2 ^ 64 → buckets_fit sh w os st (s.pos mid + length os * size_of sh) → Wrote s next new controls
          → LaysRegion sh w s os controls st old new (Ok to)
      region_laid new to places n e low room fit k =
          let F : ℕ → Type 0 = λ n. buckets_fit sh w os st n in
          let there = starts from aligned in
          let same : places * size_of sh ≡ length os * size_of sh = ap (λ m. m * size_of sh) n in
          let is_to : to ≡ controls_at sh w os st = omega arith in
          (wrote_both s (gap ++ (all_buckets ++ controls)) (sym (append_assoc gap all_buckets controls)) wrote_buckets k, (is_to, (omega arith, omega (arith, is_to, room)), subst F ends fit))
