use Rattle.archive_forms_values.specs.Tuples.{tuple2}
use Rattle.archive_hash_maps.specs.Tables.{IsTableAt}
use Rattle.archive_hash_maps.proofs.Refs.{at_ref}
use Rattle.archive_hash_maps.proofs.map.map.ArchivedHashMap.capacity.Goals as goal

pub returns : goal.returns
returns g c b is =
    c.capacity.ensures b (at_ref (λ bs p. IsTableAt bs.now (tuple2 g.K.Portable.shape g.V.Portable.shape) p b) c.table.result c.args.this.bytes c.args.this.pos c.table.ensures.bytes c.table.ensures.pos is)
