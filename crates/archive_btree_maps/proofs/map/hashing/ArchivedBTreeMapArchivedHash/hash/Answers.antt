use Rattle.archive_forms_laws.specs.Views.{elements_of}
use Rattle.archive_btree_maps.proofs.Compared.{value_stands}
use Rattle.archive_btree_maps.proofs.map.hashing.ArchivedBTreeMapArchivedHash.hash.Goals as goal

pub hash_entries-requires : goal.hash_entries-requires
hash_entries-requires g c =
    record { pairs = elements_of c.requires.value; stand = value_stands _ _ _ _ _ _ _ _ _ c.requires.value _ c.iter.ensures c.requires.held }

pub returns : goal.returns
returns g c = λ v h.
    c.hash_entries.ensures (elements_of v) (value_stands _ _ _ _ _ _ _ _ _ v _ c.iter.ensures h)
