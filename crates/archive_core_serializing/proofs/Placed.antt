-- The own bytes of a value, after the zeros up to their position.
use Rattle.std.proofs.Common.{◌≡◌, ℕ, ◌-◌, ◌++◌, length, arith, ap, subst, refl, ◌∙◌}
use Rattle.std.proofs.lemmas.List.{length-replicate}
use Rattle.archive_shape_layout.specs.Bytes.{align_up}
use Rattle.archive_shape_layout.specs.Shape.{Shape, align_of}
use Rattle.archive_shape_layout.proofs.Framed.{le_align_up}
use Rattle.archive_shape.specs.Bytes.{zeros}
use Rattle.archive_shape_layout.specs.Writing.{WriterMembers}
use Rattle.archive_shape_layout.specs.declared.error.Error.{Error}
use Rattle.archive_shape_layout.proofs.Joined.{written_both}
use Rattle.archive_forms_laws.specs.Spelling.{Spelling}
use Rattle.archive_forms_laws.specs.Regions.{placed_fits, placed_refused}
use Rattle.archive_forms_writing.proofs.Laying.{Wrote, Stops, stopped_after}

module _ {A R W : Type 0} (w : Spelling A R) (sh : Shape) (s : WriterMembers W) (x : A) (r : R) (old mid new : W) (align : ℕ) (aligned : align ≡ align_of sh) (gap : Wrote s old mid (zeros (align_up (s.pos old) align - s.pos old))) where
  abbrev at : ℕ
  at = align_up (s.pos old) (align_of sh)

  same : align_up (s.pos old) align ≡ at
  same = ap (λ n. align_up (s.pos old) n) aligned

  moved : s.pos mid ≡ at
  moved =
      let up = le_align_up (s.pos old) align in
      let filled : length (zeros (align_up (s.pos old) align - s.pos old)) ≡ align_up (s.pos old) align - s.pos old = length-replicate _ _ in
      let here : s.pos mid ≡ align_up (s.pos old) align = omega (arith, gap.moves) in
      here ∙ same

  zeros_wrote : Wrote s old mid (zeros (at - s.pos old))
  zeros_wrote = let P : ℕ → Type 0 = λ n. Wrote s old mid (zeros (n - s.pos old)) in subst P same gap

  -- they were written
  pub placed_wrote : (to : ℕ) → to ≡ align_up (s.pos old) align → Wrote s mid new (w.own x r (s.pos mid)) → placed_fits w sh x r (s.pos mid)
      → Wrote s old new (zeros (at - s.pos old) ++ w.own x r at) × ((to ≡ at) × placed_fits w sh x r at)
  placed_wrote to is h fits =
      let P : ℕ → Type 0 = λ n. Wrote s mid new (w.own x r n) in
      let F : ℕ → Type 0 = λ n. placed_fits w sh x r n in
      (written_both zeros_wrote (subst P moved h), (is ∙ same, subst F moved fits))

  -- they were not
  pub placed_stopped : {e : Error} → Stops s mid new (w.own x r (s.pos mid)) (placed_refused w sh x r (s.pos mid)) e
      → Stops s old new (zeros (at - s.pos old) ++ w.own x r at) (placed_refused w sh x r at) e
  placed_stopped {e = e} h =
      let P : ℕ → Type 0 = λ n. Stops s mid new (w.own x r n) (placed_refused w sh x r n) e in
      stopped_after s (zeros (at - s.pos old) ++ w.own x r at) (placed_refused w sh x r at) (placed_refused w sh x r at) refl (λ k. k) zeros_wrote (subst P moved h)
