use Rattle.std.proofs.Common.{◌∙◌, Some, None, refl}
use Rattle.archive_forms_values.specs.Tuples.{tuple2}
use Rattle.archive_shape_layout.specs.Shape.Shapes.{no_shapes}
use Rattle.archive_forms_values.specs.Parts.{HasValue}
use Rattle.archive_forms_values.specs.Fields.{field_position}
use Rattle.archive_hash_maps.specs.Maps.{entry_at}
use Rattle.archive_hash_maps.proofs.Entries.{entry_parts}
use Rattle.archive_hash_maps.proofs.LookedUp.{looks_up_of, pair_is}
use Rattle.archive_hash_maps.proofs.Refs.{at_ref}
use Rattle.archive_hash_maps.proofs.map.map.ArchivedHashMap.get_key_value.Goals as goal

pub returns-in-Some-clause-there : goal.returns-in-Some-clause-there
returns-in-Some-clause-there g c =
    let k = g.K.Portable.shape in
    let v = g.V.Portable.shape in
    let parts = entry_parts k v g.K.Portable.knows g.V.Portable.knows c.args.this.bytes.now c.in-Some.at c.in-Some.ensures.there in (
      at_ref (λ bs p. HasValue k g.K.Portable.knows bs.now p) c.new.result c.args.this.bytes c.in-Some.at c.new.ensures.bytes c.new.ensures.pos parts.key,
      at_ref (λ bs p. HasValue v g.V.Portable.knows bs.now p) c.new-in-Some.result c.args.this.bytes (field_position k no_shapes v c.in-Some.at) c.new-in-Some.ensures.bytes (c.new-in-Some.ensures.pos ∙ c.value_position.ensures) parts.value,
    )

pub returns-in-Some-clause-answers : goal.returns-in-Some-clause-answers
returns-in-Some-clause-answers g c b is =
    let k = g.K.Portable.shape in
    let v = g.V.Portable.shape in
    looks_up_of _ _ (entry_at {K = g.row.K.Denot} {V = g.row.V.Denot} c.args.this.bytes k v) (tuple2 k v) b (Some c.in-Some.at) (Some (c.new.result, c.new-in-Some.result))
    (pair_is c.args.this.bytes c.in-Some.at (field_position k no_shapes v c.in-Some.at) c.new.result c.new-in-Some.result c.new.ensures.bytes c.new.ensures.pos c.new-in-Some.ensures.bytes (c.new-in-Some.ensures.pos ∙ c.value_position.ensures))
    (c.in-Some.ensures.answers b is)

pub returns-in-None-clause-answers : goal.returns-in-None-clause-answers
returns-in-None-clause-answers g c b is =
    let k = g.K.Portable.shape in
    let v = g.V.Portable.shape in
    looks_up_of _ _ (entry_at {K = g.row.K.Denot} {V = g.row.V.Denot} c.args.this.bytes k v) (tuple2 k v) b None None refl (c.in-None.ensures.answers b is)
