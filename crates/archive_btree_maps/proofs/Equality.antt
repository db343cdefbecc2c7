-- Equality of maps is an equivalence, and equal maps are hashed alike.
use Rattle.std.proofs.Common.{drop, ap}
use Rattle.std.specs.Cmp.{IsEquivalence}
use Rattle.std.specs.Hash.{Alike}
use Rattle.archive_forms_laws.specs.Orders.{Equality, Hashed}
use Rattle.archive_forms_laws.proofs.Forms.{equivalences, alike}
use Rattle.archive_btree_maps.specs.MapComparing.{map_equality}
use Rattle.archive_btree_maps.specs.Hashing.{pair_hashed, map_hashed}

pub maps_equiv : (E F : Equality) → IsEquivalence E → IsEquivalence F → IsEquivalence (map_equality E F)
maps_equiv E F e f = equivalences.vectors _ (equivalences.tuples _ (equivalences.more_fields E _ e (equivalences.more_fields F _ f equivalences.no_fields)))

-- the hash of a vector of pairs, without the length that begins it
pub maps_alike : (E F : Equality) (G H : Hashed) → Alike E G → Alike F H → Alike (map_equality E F) (map_hashed G H)
maps_alike E F G H a b =
    record { fed = λ v w h. ap (drop 1) ((alike.vectors _ (pair_hashed G H) (alike.tuples _ _ (alike.more_fields E _ G _ a (alike.more_fields F _ H _ b alike.no_fields)))).fed v w h) }
