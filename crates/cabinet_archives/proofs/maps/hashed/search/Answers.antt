use Rattle.std.proofs.Common.{ℕ, Bool}
use Rattle.archive_hash_maps.proofs.Lookups.{found_there, items_there}
use Rattle.cabinet_documents.specs.Node.{pair_shape}
use Rattle.cabinet_archives.specs.Keyed.{SaysKey, knows_pairs}
use Rattle.cabinet_archives.proofs.maps.hashed.search.Goals as goal

pub search_table-requires-clause-callable : goal.search_table-requires-clause-callable
search_table-requires-clause-callable g c b is = items_there pair_shape knows_pairs c.args.map.bytes.now c.args.map.pos c.requires.has b is

pub returns-clause-answers : goal.returns-clause-answers
returns-clause-answers g c b is = c.search_table.ensures.answers b is

pub returns-clause-few : goal.returns-clause-few
returns-clause-few g c b is = c.search_table.ensures.few b is

pub returns-clause-there : goal.returns-clause-there
returns-clause-there g c =
    let says : ℕ → Bool → Type 0 = SaysKey c.args.map.bytes.now c.args.key.now in
    found_there pair_shape knows_pairs c.args.map.bytes.now c.args.map.pos says c.requires.has c.search_table.result.0 c.search_table.ensures.accepted
