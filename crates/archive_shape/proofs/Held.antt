-- Where the regions that a value claims lie.
use Rattle.std.proofs.Common.{ℕ, ◌+◌, ◌≤◌, List, length, All, arith}
use Rattle.archive_shape_layout.specs.Shape.{Shape}
use Rattle.archive_shape_layout.specs.Value.{Value}
use Rattle.archive_shape_layout.specs.Content.{Names}
use Rattle.archive_shape_layout.specs.Holds.{Region, Ascends}
use Rattle.archive_shape_layout.proofs.Evaluated.{ascends_lowered, ascends_raised}
use Rattle.archive_shape_layout.proofs.Rooted.{inside_high}
use Rattle.archive_shape.specs.Key.{HeldAt}

module _ {s : Shape} {knows : Names → Type 0} {bytes : List ℕ} {pos : ℕ} {v : Value} (h : HeldAt s knows bytes pos v) where
  -- they ascend before it
  pub held_ascend : Ascends 0 pos h.regions
  held_ascend = ascends_lowered 0 h.low pos h.regions (omega arith) h.claimed.ascends

  -- and lie in the buffer
  pub claims_within : All (λ r. r.start + r.size ≤ length bytes) h.regions
  claims_within =
      let own = h.own_within in
      inside_high 0 (length bytes) h.regions (ascends_raised 0 pos (length bytes) h.regions (omega (arith, own)) held_ascend)
