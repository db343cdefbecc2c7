-- The positions of the fields of tuples, by sizes and offsets that are at most `usize::MAX`.
use Rattle.std.proofs.Common.{◌≡◌, ℕ, ◌+◌, ◌-◌, ◌≤◌, ◌<◌, ◌^◌, min, ap, ◌∙◌, arith, zero-add}
use Rattle.archive_shape_layout.specs.Bytes.{align_up}
use Rattle.archive_shape_layout.specs.Shape.{Shape, Shapes, size_of, align_of, fields_end}
use Rattle.archive_shape_layout.specs.Shape.Shape.{tuple}
use Rattle.archive_shape_layout.specs.Shape.Shapes.{more_shapes}
use Rattle.archive_shape_layout.proofs.Framed.{le_align_up, le_fields_end}
use Rattle.archive_forms_laws.proofs.Sizes.{filled_cut}
use Rattle.archive_shape_layout.proofs.PointerSizes.{first_multiple}

-- the offset at which the fields of a tuple end
tuple_ends : (first : Shape) (others : Shapes) → fields_end others (size_of first) ≤ size_of (tuple (more_shapes first others))
tuple_ends first others =
    let from : align_up 0 (align_of first) + size_of first ≡ size_of first = ap (λ n. n + size_of first) (first_multiple (align_of first)) ∙ zero-add (size_of first) in
    let same : fields_end (more_shapes first others) 0 ≡ fields_end others (size_of first) = ap (fields_end others) from in
    let padded = le_align_up (fields_end (more_shapes first others) 0) (align_of (tuple (more_shapes first others))) in
    omega (arith, same, padded)

-- a field after an offset, with others after it, of a tuple that a buffer may have: by the offset and the alignment as
-- they are computed
pub field_stands :
    (first s : Shape) (rest others : Shapes) (offset cut align next : ℕ)
    → fields_end (more_shapes s rest) offset ≡ fields_end others (size_of first)
    → size_of (tuple (more_shapes first others)) < 2 ^ 63
    → cut ≡ min offset (2 ^ 64 - 1)
    → align ≡ align_of s
    → next ≡ min (align_up cut align) (2 ^ 64 - 1)
    → (next ≡ align_up offset (align_of s)) × (next + size_of s ≤ size_of (tuple (more_shapes first others)))
field_stands first s rest others offset cut align next last small is aligned computed =
    let up : next ≡ min (align_up offset (align_of s)) (2 ^ 64 - 1) = computed ∙ filled_cut offset cut align is ∙ ap (λ a. min (align_up offset a) (2 ^ 64 - 1)) aligned in
    let behind : align_up offset (align_of s) + size_of s ≤ fields_end (more_shapes s rest) offset = le_fields_end rest (align_up offset (align_of s) + size_of s) in
    let ends = tuple_ends first others in
    (omega (arith, up, behind, last, ends, small), omega (arith, up, behind, last, ends, small))
