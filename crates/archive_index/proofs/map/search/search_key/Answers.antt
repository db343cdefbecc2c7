use Rattle.archive_index.proofs.Standing.{entry_key}
use Rattle.archive_index.proofs.map.search.search_key.Goals as goal

pub search_entries-requires-clause-callable : goal.search_entries-requires-clause-callable
search_entries-requires-clause-callable g c m at i less =
    let key = entry_key g.K.Portable.shape g.V.Portable.shape g.K.Portable.knows g.V.Portable.knows c.args.bytes.now c.args.pos c.requires.has m at i less in
    g.met.K.ArchivedKey.held_is_key c.args.bytes.now _ key.value key.held

pub returns-clause-answers : goal.returns-clause-answers
returns-clause-answers g c m at = record { hash = c.hash_value.result; strides = c.search_entries.result.1; is_hash = c.hash_value.ensures; answers = c.search_entries.ensures.answers m at }
