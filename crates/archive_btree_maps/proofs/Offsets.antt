-- Offsets in a node, by sizes and offsets that stop at `usize::MAX`.
use Rattle.std.proofs.Common.{◌≡◌, ℕ, ◌+◌, ◌-◌, ◌^◌, min, ap, ◌∙◌, arith}
use Rattle.archive_shape_layout.specs.Bytes.{align_up}
use Rattle.archive_forms_laws.proofs.Sizes.{filled_cut}

-- a field after an area after an offset
pub field_behind :
    (start cut y area end align other r : ℕ)
    → cut ≡ min start (2 ^ 64 - 1)
    → area ≡ min y (2 ^ 64 - 1)
    → end ≡ min (cut + area) (2 ^ 64 - 1)
    → align ≡ other
    → r ≡ min (align_up end align) (2 ^ 64 - 1)
    → r ≡ min (align_up (start + y) other) (2 ^ 64 - 1)
field_behind start cut y area end align other r is covers ends aligned filled =
    filled
    ∙ filled_cut (start + y) end align (omega arith)
    ∙ ap (λ a. min (align_up (start + y) a) (2 ^ 64 - 1)) aligned

-- a field after an offset
pub field_at :
    (start cut align other r : ℕ)
    → cut ≡ min start (2 ^ 64 - 1)
    → align ≡ other
    → r ≡ min (align_up cut align) (2 ^ 64 - 1)
    → r ≡ min (align_up start other) (2 ^ 64 - 1)
field_at start cut align other r is aligned filled =
    filled ∙ filled_cut start cut align is ∙ ap (λ a. min (align_up start a) (2 ^ 64 - 1)) aligned
