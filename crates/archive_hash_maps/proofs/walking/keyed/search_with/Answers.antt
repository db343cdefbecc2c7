use Rattle.std.proofs.Common.{ℕ, Bool}
use Rattle.archive_forms_values.specs.Tuples.{tuple2}
use Rattle.archive_forms_values.specs.Parts.{both}
use Rattle.archive_hash_maps.specs.Maps.{HashesTo, query_calls}
use Rattle.archive_hash_maps.proofs.Lookups.{found_there}
use Rattle.archive_hash_maps.proofs.Entries.{entries_there}
use Rattle.archive_hash_maps.proofs.LookedUp.{position_of}
use Rattle.archive_hash_maps.proofs.walking.keyed.search_with.Goals as goal

pub search_table-requires-clause-callable : goal.search_table-requires-clause-callable
search_table-requires-clause-callable g c b is i d less =
    let parts = entries_there g.K.Portable.shape g.V.Portable.shape g.K.Portable.knows g.V.Portable.knows c.args.bytes.now c.args.pos c.requires.has b is i d less in
    c.requires.callable _ parts.key

pub returns-clause-there : goal.returns-clause-there
returns-clause-there g c =
    found_there (tuple2 g.K.Portable.shape g.V.Portable.shape) (both g.K.Portable.knows g.V.Portable.knows) c.args.bytes.now c.args.pos
    (query_calls (goal.F-post g) c.args.accepts.now c.args.query c.args.bytes) c.requires.has c.search_table.result.0 c.search_table.ensures.accepted

pub returns-clause-answers : goal.returns-clause-answers
returns-clause-answers g c b is =
    let says : ℕ → Bool → Type 0 = query_calls (goal.F-post g) c.args.accepts.now c.args.query c.args.bytes in
    let f = c.search_table.ensures in
    position_of (HashesTo g.H.Default.is_default g.H.Hasher.write g.H.Hasher.finish (g.Q.Hash.hash_input c.args.query.now)) says (tuple2 g.K.Portable.shape g.V.Portable.shape) b
    c.hash_value-hash.result c.search_table.result.1 c.search_table.result.0 c.hash_value-hash.ensures (f.answers b is) (f.accepted b is) (f.findable b is) (f.few b is)
