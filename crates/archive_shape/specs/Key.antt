-- What a key has in the layout.
use Rattle.std.specs.Prelude.{◌≡◌, ℕ, ◌+◌, ◌≤◌, List, length}
use Rattle.std.specs.declared.cmp.Ordering.{Ordering}
use Rattle.archive_shape_layout.specs.Shape.{Shape, size_of}
use Rattle.archive_shape_layout.specs.Value.{Value}
use Rattle.archive_shape_layout.specs.Content.{Names}
use Rattle.archive_shape_layout.specs.Content.Part.{at}
use Rattle.archive_shape_layout.specs.Holds.{Region, Visit, OpenShared, Holds}
use Rattle.archive_shape_layout.specs.Visited.{ClaimedAfter}

-- the members that an archived key has by its bounds, as a record
abbrev pub KeyMembers : Type 0 → Type 1
KeyMembers Q = record {
  SIZE : ℕ;
  ALIGN : ℕ;
  shape : Shape;
  knows : Names → Type 0;
  named : Names;
  is_key : List ℕ → ℕ → Type 0;
  key_of : List ℕ → ℕ → Q → Type 0;
  stands_for : Value → Q → Type 0;
  order : Q → Q → Ordering;
}

-- under names that a type knows, the layout has this value at a position: its own bytes lie in the buffer, the regions
-- that it claims ascend before them, and what was visited has its value and lies before these regions
pub record HeldAt (shape : Shape) (knows : Names → Type 0) (bytes : List ℕ) (pos : ℕ) (value : Value) : Type 0 where
  pub names : Names
  pub known : knows names
  pub level : ℕ
  pub inside : List OpenShared
  pub regions : List Region
  pub before : List Visit
  pub after : List Visit
  pub own_within : pos + size_of shape ≤ length bytes
  pub low : ℕ
  pub claimed : ClaimedAfter names bytes before low pos regions
  pub holds : Holds names bytes level inside (at pos shape) value regions before after

-- two keys of one value, at any positions, compare alike with every query
abbrev pub AreAlike : {Q : Type 0} → Shape → (Names → Type 0) → (List ℕ → ℕ → Q → Type 0) → (Q → Q → Ordering) → Type 0
AreAlike {Q = Q} shape knows key_of order =
    (bytes other : List ℕ) (pos other_pos : ℕ) (value : Value)
    → HeldAt shape knows bytes pos value
    → HeldAt shape knows other other_pos value
    → (a b : Q)
    → key_of bytes pos a
    → key_of other other_pos b
    → (query : Q)
    → order a query ≡ order b query
