-- What was archived is written at the root of the bytes, and can be read there.
use Rattle.std.proofs.Common.{ℕ, List, [], ◌∷◌, refl, subst, arith}
use Rattle.archive_shape_layout.specs.Shape.{Shape}
use Rattle.archive_shape_layout.specs.Content.{Names}
use Rattle.archive_shape_layout.specs.Visited.AllStand.{none_stand}
use Rattle.archive_shape_canonical.specs.Settled.{Fit, free}
use Rattle.archive_shape.proofs.Pieces.{stands_left}
use Rattle.archive_forms_laws.specs.State.{IsConsistent}
use Rattle.archive_forms_laws.specs.Spelling.{Spelling}
use Rattle.archive_forms_laws.specs.Spells.{Spells}
use Rattle.archive_forms_laws.specs.Regions.{pieces, region_at}
use Rattle.archive_forms_laws.specs.WrittenAt.{IsReadableAt}
use Rattle.archive_forms_laws.proofs.Regions.{owns_pass, region_up}
use Rattle.archive_forms_writing.proofs.Reached.{head, owns_stand}
use Rattle.archive_core.specs.Written.{from_position}
use Rattle.archive_core.specs.Roots.{RootIsWritten, RootIsReadable}
use Rattle.archive_core.proofs.From.{root_at, root_stands}

module _ {A R : Type 0} (s : Shape) (knows : Names → Type 0) (w : Spelling A R) (spells : (fit : Fit) → Spells fit s knows w) where
  pub root_readable_law : RootIsReadable s w
  unfolding head
  root_readable_law x bytes names keys e f =
      let st = from_position 0 in
      let consistent : IsConsistent st = record { before = tt; descending = tt; own_keys = tt; new_keys = tt } in
      let t = region_at w s (x ∷ []) st in
      let at = root_at free s knows w x [] bytes 0 (spells free) f refl e in
      let p = root_stands s w x [] bytes 0 refl e in
      let len = at.0 in
      let written = head free s knows w keys bytes x [] st t consistent tt f.0 (owns_pass free s knows w (x ∷ []) st t f.2)
      (stands_left bytes 0 (pieces w (x ∷ []) st) _ p) (owns_stand free s knows w keys bytes (x ∷ []) st p) in
      subst (λ n. IsReadableAt names keys s w bytes n x) at.1
      (record { written = written; stand = none_stand refl; behind = region_up free s knows w (x ∷ []) st; within = omega (arith, len) })

  pub root_law : RootIsWritten s w
  root_law x bytes keys e f = (root_readable_law x bytes [] keys e f).written
