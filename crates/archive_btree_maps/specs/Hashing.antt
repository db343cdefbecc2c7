-- What is hashed of maps: each pair in order, the key and then the value. The number of the pairs is not hashed.
use Rattle.std.specs.List.{flat_map}
use Rattle.std.specs.Hash.{Alike}
use Rattle.archive_forms_laws.specs.Views.{elements_of}
use Rattle.archive_forms_laws.specs.Orders.{Equality, Hashed, no_fields_hashed, more_fields_hashed, tuple_hashed}
use Rattle.archive_btree_maps.specs.MapComparing.{map_equality}

abbrev pub pair_hashed : Hashed → Hashed → Hashed
pair_hashed G H = tuple_hashed (more_fields_hashed G (more_fields_hashed H no_fields_hashed))

abbrev pub map_hashed : Hashed → Hashed → Hashed
map_hashed G H v = flat_map (pair_hashed G H) (elements_of v)

-- equal maps are hashed alike where the keys and the values are
abbrev pub MapsAreHashedAlike : Type 0
MapsAreHashedAlike = (E F : Equality) (G H : Hashed) → Alike E G → Alike F H → Alike (map_equality E F) (map_hashed G H)
