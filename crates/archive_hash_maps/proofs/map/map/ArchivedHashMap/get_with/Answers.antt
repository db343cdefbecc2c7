use Rattle.std.proofs.Common.{Some, None, refl}
use Rattle.archive_forms_values.specs.Tuples.{tuple2}
use Rattle.archive_hash_maps.specs.Maps.{entry_at}
use Rattle.archive_hash_maps.proofs.LookedUp.{looks_up_as}
use Rattle.archive_hash_maps.proofs.map.map.ArchivedHashMap.get_with.Goals as goal

pub returns-in-Some-clause-answers : goal.returns-in-Some-clause-answers
returns-in-Some-clause-answers g c b is =
    let k = g.K.Portable.shape in
    let v = g.V.Portable.shape in
    looks_up_as _ _ (entry_at {K = g.row.K.Denot} {V = g.row.V.Denot} c.args.this.bytes k v) (λ e. e.1) (tuple2 k v) b _ (Some c.in-Some.value) refl (c.in-Some.ensures.answers b is)

pub returns-in-None-clause-answers : goal.returns-in-None-clause-answers
returns-in-None-clause-answers g c b is =
    let k = g.K.Portable.shape in
    let v = g.V.Portable.shape in
    looks_up_as _ _ (entry_at {K = g.row.K.Denot} {V = g.row.V.Denot} c.args.this.bytes k v) (λ e. e.1) (tuple2 k v) b _ None refl (c.in-None.ensures.answers b is)
