use Rattle.std.proofs.Common.{◌∙◌, ap}
use Rattle.archive_forms_values.specs.Tuples.{tuple2}
use Rattle.archive_forms_values.specs.Parts.{both}
use Rattle.archive_hash_maps.specs.Equal.{KeyHashesTo, EqualSays}
use Rattle.archive_hash_maps.proofs.Lookups.{found_there}
use Rattle.archive_hash_maps.proofs.Entries.{entries_there}
use Rattle.archive_hash_maps.proofs.LookedUp.{position_of}
use Rattle.archive_hash_maps.proofs.walking.equal.search_equal.Goals as goal

pub search_table-requires-clause-callable : goal.search_table-requires-clause-callable
search_table-requires-clause-callable g c b is i d less =
    let parts = entries_there g.K.Portable.shape g.V.Portable.shape g.K.Portable.knows g.V.Portable.knows c.args.bytes.now c.args.pos c.requires.has b is i d less in
    (parts.key, c.requires.key)

pub returns-clause-there : goal.returns-clause-there
returns-clause-there g c =
    found_there (tuple2 g.K.Portable.shape g.V.Portable.shape) (both g.K.Portable.knows g.V.Portable.knows) c.args.bytes.now c.args.pos
    (EqualSays g.K.Portable.shape g.K.Portable.knows g.K.ArchivedEq.equal c.args.bytes.now c.args.key.now) c.requires.has c.search_table.result.0 c.search_table.ensures.accepted

pub returns-clause-answers : goal.returns-clause-answers
returns-clause-answers g c b is =
    let f = c.search_table.ensures in
    position_of (KeyHashesTo {K = g.row.K.Denot} g.H.Default.is_default g.H.Hasher.write g.H.Hasher.finish g.K.Portable.shape g.K.Portable.knows g.K.ArchivedHash.hashed c.args.key.now)
    (EqualSays g.K.Portable.shape g.K.Portable.knows g.K.ArchivedEq.equal c.args.bytes.now c.args.key.now) (tuple2 g.K.Portable.shape g.V.Portable.shape) b c.finish-hash.result c.search_table.result.1 c.search_table.result.0
    (c.default-state.result, c.default-state.ensures, λ value held. c.finish-hash.ensures ∙ ap g.H.Hasher.finish (c.hash.ensures value held)) (f.answers b is) (f.accepted b is) (f.findable b is) (f.few b is)
