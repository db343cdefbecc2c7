-- The controls of a table of `cap` places.
use Rattle.std.specs.Prelude.{◌≡◌, ℕ, ◌+◌, true, cond, nat_lt, List, length, slice_set}
use Rattle.archive_shape_layout.specs.Content.{control_count, wraps}

-- their number is that of the layout, and those from `cap` on are as in the layout
pub record AreControls (controls : List ℕ) (cap : ℕ) : Type 0 where
  pub count : length controls ≡ control_count cap
  pub repeated : wraps cap controls 0 controls ≡ true

-- a control written at a place, and again a capacity further on where there is a control
abbrev pub with_control : List ℕ → ℕ → ℕ → ℕ → List ℕ
with_control controls cap place tag =
    let written = slice_set controls place tag in
    cond (nat_lt (place + cap) (length controls)) (slice_set written (place + cap) tag) written
