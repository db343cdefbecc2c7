use Rattle.std.specs.Prelude.{⊤}
use Rattle.archive_forms_laws.specs.Fields.{unit_spelling}
use Rattle.archive_forms_laws.proofs.Fields.{unit_spells}
use Rattle.archive_hash.specs.Owned.{key_entries}
use Rattle.archive_index.specs.Sets.{unit_shape}
use Rattle.archive_index.specs.declared.owned_set.OwnedIndexSet.{OwnedIndexSet}
use Rattle.archive_index.proofs.WrittenPairs.{owned_written, plain_written}
use Rattle.archive_index.proofs.laws.owned_set_is_written.Goals as goal

pub returns-clause-fitted : goal.returns-clause-fitted
returns-clause-fitted g c set bytes fit names given binds suits known one w =
    owned_written g.K.Archived.Portable.shape unit_shape g.K.Archived.Portable.knows (λ _. ⊤) g.K.Archive.spelling unit_spelling g.K.Hash.hash_input
    g.met.K.Archive.spells (λ fit. unit_spells fit (λ _. ⊤)) (λ (s : OwnedIndexSet _). key_entries s.keys.items) set bytes fit names given binds suits known one w

pub returns-clause-plain : goal.returns-clause-plain
returns-clause-plain g c set bytes names given each known one w =
    plain_written g.K.Archived.Portable.shape unit_shape g.K.Archived.Portable.knows (λ _. ⊤) g.K.Archive.spelling unit_spelling g.K.Hash.hash_input
    g.met.K.Archive.spells (λ fit. unit_spells fit (λ _. ⊤)) (λ (s : OwnedIndexSet _). key_entries s.keys.items) set bytes names given each known one w
