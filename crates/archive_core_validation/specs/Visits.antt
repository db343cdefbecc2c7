-- The shared positions that a table has.
use Rattle.std.specs.Prelude.{ℕ}
use Rattle.std.specs.Option.{option_map}
use Rattle.std.specs.Ordering.{nat_cmp}
use Rattle.std.specs.BTreeMap.{BTreeMap, get}
use Rattle.archive_shape_layout.specs.RuntimeShape.{pointee_of}
use Rattle.archive_shape.specs.PartFault.{Entry}
use Rattle.archive_shape.specs.Kept.{Seen}
use Rattle.archive_core_validation.specs.declared.shared_validator.SharedEntry.{SharedEntry}

-- the entry of a position that was visited
abbrev pub as_entry : SharedEntry → Entry
as_entry e = record { pointee = pointee_of e.pointee; len = e.len; done = e.done }

-- the entry of each position
unfoldable pub seen_in : BTreeMap ℕ SharedEntry → Seen
seen_in met pos = option_map as_entry (get nat_cmp met pos)
