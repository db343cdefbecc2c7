use Rattle.archive_hash_probing.specs.Inputs.{input_hash}
use Rattle.archive_index.proofs.Faithful.{pairs_faithful, keys_faithful}
use Rattle.archive_index.proofs.laws.index_maps_are_faithful.Goals as goal

pub returns-clause-maps : goal.returns-clause-maps
returns-clause-maps g c = pairs_faithful (λ k. input_hash (g.K.Hash.hash_input k)) g.K.Archived.Portable.shape g.K.Archive.spelling g.A.ReadBack.reads c.requires.keys g.V.Archived.Portable.shape g.V.Archive.spelling g.B.ReadBack.reads c.requires.values

pub returns-clause-sets : goal.returns-clause-sets
returns-clause-sets g c = keys_faithful (λ k. input_hash (g.K.Hash.hash_input k)) g.K.Archived.Portable.shape g.K.Archive.spelling g.A.ReadBack.reads c.requires.keys

pub returns-clause-owned_maps : goal.returns-clause-owned_maps
returns-clause-owned_maps g c value map h = pairs_faithful (λ k. input_hash (g.K.Hash.hash_input k)) g.K.Archived.Portable.shape g.K.Archive.spelling g.A.ReadBack.reads c.requires.keys g.V.Archived.Portable.shape g.V.Archive.spelling g.B.ReadBack.reads c.requires.values value map.pairs h

pub returns-clause-owned_sets : goal.returns-clause-owned_sets
returns-clause-owned_sets g c value set h = keys_faithful (λ k. input_hash (g.K.Hash.hash_input k)) g.K.Archived.Portable.shape g.K.Archive.spelling g.A.ReadBack.reads c.requires.keys value set.keys h
