-- The item at a place of a table, whose items are borrowed.
use Rattle.std.specs.Prelude.{Option, Some, None}
use denote.Bor.{Bor}

-- a place that holds a borrowed item holds the item
abbrev pub standing : {A : Type 0} → Option (Bor A) → Option A
standing None = None
standing (Some item) = Some item.now
