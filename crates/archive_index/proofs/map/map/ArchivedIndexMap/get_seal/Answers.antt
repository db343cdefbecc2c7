use Rattle.std.proofs.Common.{◌∙◌, Some, None, refl, ap, sym, subst}
use Rattle.archive_shape_layout.specs.Bytes.{word_at}
use Rattle.archive_forms_laws.specs.Sample.{number_shape}
use Rattle.archive_shape_layout.specs.Shape.Shapes.{no_shapes}
use Rattle.archive_forms_values.specs.Parts.{HasValue}
use Rattle.archive_forms_values.specs.Fields.{field_position}
use Rattle.archive_hash_maps.proofs.Entries.{entry_parts}
use Rattle.archive_index.specs.Lookups.{value_position_of}
use Rattle.archive_hash_maps.proofs.LookedUp.{looks_up_as}
use Rattle.archive_index.proofs.map.map.ArchivedIndexMap.get_seal.Goals as goal

pub value_position-value-requires : goal.value_position-value-requires
value_position-value-requires g c = c.entry_at-at.ensures.there

pub returns-in-Some-clause-there : goal.returns-in-Some-clause-there
returns-in-Some-clause-there g c =
    let k = g.K.Portable.shape in
    let v = g.V.Portable.shape in
    let value = (entry_parts k v g.K.Portable.knows g.V.Portable.knows c.args.this.bytes.now c.entry_at-at.result c.entry_at-at.ensures.there).value in
    subst (λ bs. HasValue v g.V.Portable.knows bs c.new.result.pos) (sym c.new.ensures.bytes)
    (subst (HasValue v g.V.Portable.knows c.args.this.bytes.now) (sym (c.new.ensures.pos ∙ c.value_position-value.ensures)) value)

pub returns-in-Some-clause-answers : goal.returns-in-Some-clause-answers
returns-in-Some-clause-answers g c m is =
    let k = g.K.Portable.shape in
    let v = g.V.Portable.shape in
    looks_up_as _ _ (word_at c.args.this.bytes.now) (value_position_of k v m) number_shape m.buckets (Some c.in-Some.index) (Some c.new.result.pos)
    (ap Some (c.new.ensures.pos ∙ c.value_position-value.ensures ∙ ap (field_position k no_shapes v) (c.entry_at-at.ensures.stands m is)))
    (c.in-Some.ensures.answers m is)

pub returns-in-None-clause-answers : goal.returns-in-None-clause-answers
returns-in-None-clause-answers g c m is =
    let k = g.K.Portable.shape in
    let v = g.V.Portable.shape in
    looks_up_as _ _ (word_at c.args.this.bytes.now) (value_position_of k v m) number_shape m.buckets None None refl (c.in-None.ensures.answers m is)
