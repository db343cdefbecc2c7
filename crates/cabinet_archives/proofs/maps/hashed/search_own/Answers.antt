use Rattle.archive_hash_maps.proofs.Lookups.{items_there}
use Rattle.cabinet_documents.specs.Node.{pair_shape}
use Rattle.cabinet_archives.specs.Keyed.{knows_pairs}
use Rattle.cabinet_archives.proofs.maps.hashed.search_own.Goals as goal

pub search_table-requires-clause-callable : goal.search_table-requires-clause-callable
search_table-requires-clause-callable g c b is = λ k d l.
    (items_there pair_shape knows_pairs c.args.map.bytes.now c.args.map.pos c.requires.has b is k d l, c.requires.own)

pub returns : goal.returns
returns g c b is = c.search_table.ensures.answers b is
