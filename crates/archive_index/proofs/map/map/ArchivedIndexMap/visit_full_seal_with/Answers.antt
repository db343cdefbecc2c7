use denote.MutBor.{as_bor}
use Rattle.std.proofs.Common.{refl}
use Rattle.archive_index.proofs.map.map.ArchivedIndexMap.visit_full_seal_with.Goals as goal

pub search_with-found-requires-clause-callable : goal.search_with-found-requires-clause-callable
search_with-found-requires-clause-callable g c at key = c.requires.callable (as_bor c.args.this.bytes) at refl key

pub returns : goal.returns
returns g c m is = (as_bor c.args.this.bytes, refl, c.search_with-found.result, c.search_with-found.ensures.answers m is, c.visit_found.ensures m is)
