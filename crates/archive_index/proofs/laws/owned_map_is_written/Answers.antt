use Rattle.archive_index.specs.declared.owned.OwnedIndexMap.{OwnedIndexMap}
use Rattle.archive_index.proofs.WrittenPairs.{owned_written, plain_written}
use Rattle.archive_index.proofs.laws.owned_map_is_written.Goals as goal

pub returns-clause-fitted : goal.returns-clause-fitted
returns-clause-fitted g c map bytes fit names given binds suits known one w =
    owned_written g.K.Archived.Portable.shape g.V.Archived.Portable.shape g.K.Archived.Portable.knows g.V.Archived.Portable.knows g.K.Archive.spelling g.V.Archive.spelling g.K.Hash.hash_input
    g.met.K.Archive.spells g.met.V.Archive.spells (λ (m : OwnedIndexMap _ _). m.pairs.items) map bytes fit names given binds suits known one w

pub returns-clause-plain : goal.returns-clause-plain
returns-clause-plain g c map bytes names given each known one w =
    plain_written g.K.Archived.Portable.shape g.V.Archived.Portable.shape g.K.Archived.Portable.knows g.V.Archived.Portable.knows g.K.Archive.spelling g.V.Archive.spelling g.K.Hash.hash_input
    g.met.K.Archive.spells g.met.V.Archive.spells (λ (m : OwnedIndexMap _ _). m.pairs.items) map bytes names given each known one w
