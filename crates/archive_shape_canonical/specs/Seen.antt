-- The bytes and values that decide where the layout leaves a choice: the kind of a node and the number of items of each
-- of its children, the controls of a table and the keys of its items. The values of items are not among them.
use Rattle.std.specs.Prelude.{ℕ, List, [], ◌∷◌, ◌++◌, drop, slice_index}
use Rattle.archive_shape_layout.specs.Bytes.{window}
use Rattle.archive_shape_layout.specs.Value.{Value, Values}
use Rattle.archive_shape_layout.specs.Value.Value.{natural, integer, boolean, string, group, chosen, counted, back}
use Rattle.archive_shape_layout.specs.Value.Values.{no_values, more_values}
use Rattle.archive_shape_layout.specs.Content.{Part, control_count}
use Rattle.archive_shape_layout.specs.Content.Part.{at, behind, node, child, entry, buckets, place_at}

-- of bytes: the kind of a node, the controls of buckets
abbrev pub seen_bytes_of : List ℕ → Part → List ℕ
seen_bytes_of bytes (node level most k v pos) = slice_index (drop pos bytes) 0 ∷ []
seen_bytes_of bytes (buckets target len cap it) = window bytes target (control_count cap)
seen_bytes_of bytes (at pos s) = []
seen_bytes_of bytes (behind pos p len) = []
seen_bytes_of bytes (child level most k v pos) = []
seen_bytes_of bytes (entry k key_pos v value_pos) = []
seen_bytes_of bytes (place_at pos limit) = []

abbrev pub first_seen_bytes : List ℕ → List Part → List ℕ
first_seen_bytes bytes [] = []
first_seen_bytes bytes (p ∷ ps) = seen_bytes_of bytes p

-- a part's own, and those of the first part in it
abbrev pub seen_bytes : List ℕ → Part → List Part → List ℕ
seen_bytes bytes p ps = seen_bytes_of bytes p ++ first_seen_bytes bytes ps

-- of an item its key alone
abbrev pub key_alone : Value → Value
key_alone (group no_values) = group no_values
key_alone (group (more_values k vs)) = group (more_values k no_values)
key_alone (chosen t vs) = chosen t no_values
key_alone (natural n) = natural n
key_alone (integer z) = integer z
key_alone (boolean b) = boolean b
key_alone (string bs) = string bs
key_alone (counted t v) = counted t v
key_alone (back t) = back t

abbrev pub keys_alone : Values → Values
keys_alone no_values = no_values
keys_alone (more_values v vs) = more_values (key_alone v) (keys_alone vs)

-- of a group of items their keys
abbrev pub by_keys : Value → Value
by_keys (group vs) = group (keys_alone vs)
by_keys (chosen t vs) = chosen t no_values
by_keys (natural n) = natural n
by_keys (integer z) = integer z
by_keys (boolean b) = boolean b
by_keys (string bs) = string bs
by_keys (counted t v) = counted t v
by_keys (back t) = back t

abbrev pub all_by_keys : Values → Values
all_by_keys no_values = no_values
all_by_keys (more_values v vs) = more_values (by_keys v) (all_by_keys vs)

-- of a group the number of its members
abbrev pub blanks : Values → Values
blanks no_values = no_values
blanks (more_values v vs) = more_values (natural 0) (blanks vs)

abbrev pub blank : Value → Value
blank (group vs) = group (blanks vs)
blank _ = natural 0

abbrev pub all_blank : Values → Values
all_blank no_values = no_values
all_blank (more_values v vs) = more_values (blank v) (all_blank vs)

-- where the first part is a node or buckets
abbrev pub first_seen_values : List Part → Values → Values
first_seen_values [] vs = no_values
first_seen_values (at pos s ∷ ps) vs = no_values
first_seen_values (behind pos p len ∷ ps) vs = no_values
first_seen_values (node level most k v pos ∷ ps) vs = all_by_keys vs
first_seen_values (child level most k v pos ∷ ps) vs = no_values
first_seen_values (entry k key_pos v value_pos ∷ ps) vs = no_values
first_seen_values (buckets target len cap it ∷ ps) vs = all_by_keys vs
first_seen_values (place_at pos limit ∷ ps) vs = no_values

-- of values: the keys of the items that a part leads to, and of a node the number of items of each child
abbrev pub seen_values : Part → List Part → Values → Values
seen_values (at pos s) ps vs = first_seen_values ps vs
seen_values (behind pos p len) ps vs = no_values
seen_values (node level most k v pos) ps vs = all_blank vs
seen_values (child level most k v pos) ps vs = first_seen_values ps vs
seen_values (entry k key_pos v value_pos) ps vs = no_values
seen_values (buckets target len cap it) ps vs = no_values
seen_values (place_at pos limit) ps vs = no_values
