use Rattle.std.proofs.Common.{◌∙◌, Some, None, refl, ap, sym, subst}
use Rattle.archive_forms_values.specs.Tuples.{tuple2}
use Rattle.archive_shape_layout.specs.Shape.Shapes.{no_shapes}
use Rattle.archive_forms_values.specs.Parts.{HasValue}
use Rattle.archive_forms_values.specs.Fields.{field_position}
use Rattle.archive_hash_maps.proofs.Entries.{entry_parts}
use Rattle.archive_hash_maps.proofs.LookedUp.{looks_up_of}
use Rattle.archive_hash_maps.proofs.map.map.ArchivedHashMap.get_seal.Goals as goal

pub returns-in-Some-clause-there : goal.returns-in-Some-clause-there
returns-in-Some-clause-there g c =
    let k = g.K.Portable.shape in
    let v = g.V.Portable.shape in
    let value = (entry_parts k v g.K.Portable.knows g.V.Portable.knows c.args.this.bytes.now c.in-Some.at c.in-Some.ensures.there).value in
    subst (λ bs. HasValue v g.V.Portable.knows bs c.new.result.pos) (sym c.new.ensures.bytes)
    (subst (HasValue v g.V.Portable.knows c.args.this.bytes.now) (sym (c.new.ensures.pos ∙ c.value_position-value.ensures)) value)

pub returns-in-Some-clause-answers : goal.returns-in-Some-clause-answers
returns-in-Some-clause-answers g c b is =
    let k = g.K.Portable.shape in
    let v = g.V.Portable.shape in
    looks_up_of _ _ (field_position k no_shapes v) (tuple2 k v) b (Some c.in-Some.at) (Some c.new.result.pos) (ap Some (c.new.ensures.pos ∙ c.value_position-value.ensures)) (c.in-Some.ensures.answers b is)

pub returns-in-None-clause-answers : goal.returns-in-None-clause-answers
returns-in-None-clause-answers g c b is =
    let k = g.K.Portable.shape in
    let v = g.V.Portable.shape in
    looks_up_of _ _ (field_position k no_shapes v) (tuple2 k v) b None None refl (c.in-None.ensures.answers b is)
