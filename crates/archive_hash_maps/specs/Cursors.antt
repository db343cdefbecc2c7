-- What cursors have left, after any write over items or values.
use Rattle.std.specs.Prelude.{ℕ, List}
use Rattle.archive_shape_layout.specs.Shape.{Shape}
use Rattle.archive_shape_layout.specs.Content.{Names}
use Rattle.archive_hash_maps.specs.Walks.{BegunTable, BegunMap, GoesOn}
use Rattle.archive_hash_maps.specs.declared.walking.raw_cursor.RawIterSeal.{RawIterSeal}
use Rattle.archive_hash_maps.specs.declared.walking.cursors.IterMut.{IterMut}
use Rattle.archive_hash_maps.specs.declared.walking.cursors.ValuesMut.{ValuesMut}

module _ {s : Shape} {knows : Names → Type 0} (m : BegunTable s knows) {T : Type 0} where
  -- a cursor over items has the items at these positions left
  abbrev pub HasItems : RawIterSeal T → List ℕ → Type 0
  HasItems c ps = GoesOn m c.walk ps

module _ {k v : Shape} {knows others : Names → Type 0} (m : BegunMap k v knows others) {K V : Type 0} where
  -- a cursor over entries has the entries at these positions left
  abbrev pub HasEntries : IterMut K V → List ℕ → Type 0
  HasEntries c ps = GoesOn m c.walk ps

  -- a cursor over values has the values of such entries left
  abbrev pub HasValues : ValuesMut K V → List ℕ → Type 0
  HasValues c ps = HasEntries c.entries ps
