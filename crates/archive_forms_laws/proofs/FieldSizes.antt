-- Sizes of structs, by sizes of fields that saturate at `usize::MAX`.
use Rattle.std.specs.Prelude.{◌≡◌, ℕ, ◌+◌, ◌-◌, ◌^◌, ◌<◌, min, max}
use Rattle.std.proofs.Common.{arith, ap, ◌∙◌}
use Rattle.archive_shape_layout.specs.Bytes.{align_up}
use Rattle.archive_shape_layout.specs.Shape.{Shape, Shapes, size_of, align_of, fields_end}
use Rattle.archive_shape_layout.specs.Shape.Shape.{tuple}
use Rattle.archive_shape_layout.specs.Shape.Shapes.{no_shapes, more_shapes}
use Rattle.archive_forms_laws.proofs.Sizes.{filled_cut}

-- where a field ends, after an offset that saturates
pub field_cut : (s : Shape) (offset cut size align : ℕ) → cut ≡ min offset (2 ^ 64 - 1) → size ≡ min (size_of s) (2 ^ 64 - 1) → align ≡ align_of s
    → min (align_up cut align + size) (2 ^ 64 - 1) ≡ min (align_up offset (align_of s) + size_of s) (2 ^ 64 - 1)
field_cut s offset cut size align is sized aligned =
    let up = filled_cut offset cut align is in
    let same : align_up offset align ≡ align_up offset (align_of s) = ap (align_up offset) aligned in
    omega (arith, up, same, sized)

-- the size of a struct whose last field ends there
pub struct_cut : (ss : Shapes) (end align : ℕ) → end ≡ min (fields_end ss 0) (2 ^ 64 - 1) → align ≡ align_of (tuple ss)
    → min (align_up end align) (2 ^ 64 - 1) ≡ min (size_of (tuple ss)) (2 ^ 64 - 1)
struct_cut ss end align is aligned =
    filled_cut (fields_end ss 0) end align is ∙ ap (λ a. min (align_up (fields_end ss 0) a) (2 ^ 64 - 1)) aligned

-- ---- alignments

-- that of a struct of one field
pub alone_aligned : (s : Shape) (align : ℕ) → align ≡ align_of s → 0 < align → align ≡ align_of (tuple (more_shapes s no_shapes))
alone_aligned s align aligned positive = omega (arith, aligned, positive)

-- that of a field before others
pub before_aligned : (s : Shape) (ss : Shapes) (align others : ℕ) → align ≡ align_of s → others ≡ align_of (tuple ss) → max align others ≡ align_of (tuple (more_shapes s ss))
before_aligned s ss align others aligned rest = omega (arith, aligned, rest)
