use Rattle.std.proofs.Common.{Some, None, refl}
use Rattle.archive_forms_values.specs.Tuples.{tuple2}
use Rattle.archive_shape_layout.specs.Shape.Shape.{tuple}
use Rattle.archive_shape_layout.specs.Shape.Shapes.{no_shapes}
use Rattle.archive_hash_maps.specs.Maps.{entry_at}
use Rattle.archive_hash_maps.proofs.LookedUp.{looks_up_as}
use Rattle.archive_hash_maps.proofs.set.set.ArchivedHashSet.get.Goals as goal

pub returns-in-Some-clause-answers : goal.returns-in-Some-clause-answers
returns-in-Some-clause-answers g c b is =
    let answers = simp c.as_map.ensures at c.in-Some.ensures.answers in
    looks_up_as _ _ (entry_at {K = g.row.K.Denot} c.args.this.bytes g.K.Portable.shape (tuple no_shapes)) (λ e. e.0) (tuple2 g.K.Portable.shape (tuple no_shapes)) b _ (Some c.in-Some.key) refl (answers b is)

pub returns-in-None-clause-answers : goal.returns-in-None-clause-answers
returns-in-None-clause-answers g c b is =
    let answers = simp c.as_map.ensures at c.in-None.ensures.answers in
    looks_up_as _ _ (entry_at {K = g.row.K.Denot} c.args.this.bytes g.K.Portable.shape (tuple no_shapes)) (λ e. e.0) (tuple2 g.K.Portable.shape (tuple no_shapes)) b _ None refl (answers b is)
