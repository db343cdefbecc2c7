-- How sets are compared, and what is hashed of them: their keys, one by one.
use Rattle.std.specs.List.{flat_map}
use Rattle.std.specs.Ordering.{on}
use Rattle.std.specs.Cmp.{IsEquivalence}
use Rattle.std.specs.Cmp.Lexicographic.{pointwise}
use Rattle.std.specs.Hash.{Alike}
use Rattle.archive_forms_laws.specs.Orders.{Equality, Hashed}
use Rattle.archive_btree_maps.specs.Keys.{keys_of}

-- the same number of keys, equal one by one
abbrev pub set_equality : Equality → Equality
set_equality E = on keys_of (pointwise E)

-- each key in order; their number is not hashed
abbrev pub set_hashed : Hashed → Hashed
set_hashed G v = flat_map G (keys_of v)

-- equality of sets is an equivalence where that of the keys is
abbrev pub SetsAreEquivalences : Type 0
SetsAreEquivalences = (E : Equality) → IsEquivalence E → IsEquivalence (set_equality E)

-- equal sets are hashed alike where the keys are
abbrev pub SetsAreHashedAlike : Type 0
SetsAreHashedAlike = (E : Equality) (G : Hashed) → Alike E G → Alike (set_equality E) (set_hashed G)
