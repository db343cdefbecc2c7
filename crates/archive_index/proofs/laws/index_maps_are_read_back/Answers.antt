use Rattle.archive_hash_probing.specs.Inputs.{input_hash}
use Rattle.archive_index.proofs.Faithful.{pairs_read_back, keys_read_back}
use Rattle.archive_index.proofs.laws.index_maps_are_read_back.Goals as goal

pub returns-clause-maps : goal.returns-clause-maps
returns-clause-maps g c = λ es read h. pairs_read_back (λ k. input_hash (g.K.Hash.hash_input k)) g.K.Archived.Portable.shape g.K.Archive.spelling g.A.ReadBack.reads c.requires.keys g.V.Archived.Portable.shape g.V.Archive.spelling g.B.ReadBack.reads c.requires.values es read h

pub returns-clause-sets : goal.returns-clause-sets
returns-clause-sets g c = λ ks read h. keys_read_back (λ k. input_hash (g.K.Hash.hash_input k)) g.K.Archived.Portable.shape g.K.Archive.spelling g.A.ReadBack.reads c.requires.keys ks read h

pub returns-clause-owned_maps : goal.returns-clause-owned_maps
returns-clause-owned_maps g c = λ map read h. pairs_read_back (λ k. input_hash (g.K.Hash.hash_input k)) g.K.Archived.Portable.shape g.K.Archive.spelling g.A.ReadBack.reads c.requires.keys g.V.Archived.Portable.shape g.V.Archive.spelling g.B.ReadBack.reads c.requires.values map.pairs.items read.pairs h

pub returns-clause-owned_sets : goal.returns-clause-owned_sets
returns-clause-owned_sets g c = λ set read h. keys_read_back (λ k. input_hash (g.K.Hash.hash_input k)) g.K.Archived.Portable.shape g.K.Archive.spelling g.A.ReadBack.reads c.requires.keys set.keys.items read.keys h
