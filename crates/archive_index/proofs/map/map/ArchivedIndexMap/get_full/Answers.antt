use Rattle.std.proofs.Common.{◌∙◌, Some, None, refl, ap}
use Rattle.archive_shape_layout.specs.Bytes.{word_at}
use Rattle.archive_forms_laws.specs.Sample.{number_shape}
use Rattle.archive_shape_layout.specs.Shape.Shapes.{no_shapes}
use Rattle.archive_forms_values.specs.Parts.{HasValue}
use Rattle.archive_forms_values.specs.Fields.{field_position}
use Rattle.archive_hash_maps.proofs.Entries.{entry_parts}
use Rattle.archive_hash_maps.proofs.Refs.{at_ref}
use Rattle.archive_index.specs.Lookups.{full_of, value_position_of}
use Rattle.archive_index.specs.Maps.{entry_position}
use Rattle.archive_hash_maps.proofs.LookedUp.{looks_up_as}
use Rattle.archive_index.proofs.LookedUp.{full_is}
use Rattle.archive_index.proofs.map.map.ArchivedIndexMap.get_full.Goals as goal

pub value_position-value-requires : goal.value_position-value-requires
value_position-value-requires g c = c.entry_at-at.ensures.there

pub returns-in-Some-clause-there : goal.returns-in-Some-clause-there
returns-in-Some-clause-there g c =
    let k = g.K.Portable.shape in
    let v = g.V.Portable.shape in
    let bytes = c.args.this.bytes in
    let at = c.entry_at-at.result in
    let parts = entry_parts k v g.K.Portable.knows g.V.Portable.knows bytes.now at c.entry_at-at.ensures.there in (
      at_ref (λ bs p. HasValue k g.K.Portable.knows bs.now p) c.new.result bytes at c.new.ensures.bytes c.new.ensures.pos parts.key,
      at_ref (λ bs p. HasValue v g.V.Portable.knows bs.now p) c.new-in-Some.result bytes (field_position k no_shapes v at) c.new-in-Some.ensures.bytes (c.new-in-Some.ensures.pos ∙ c.value_position-value.ensures) parts.value,
    )

pub returns-in-Some-clause-answers : goal.returns-in-Some-clause-answers
returns-in-Some-clause-answers g c m is =
    let k = g.K.Portable.shape in
    let v = g.V.Portable.shape in
    let bytes = c.args.this.bytes in
    let index = c.in-Some.index in
    let at = c.entry_at-at.ensures.stands m is in
    let full = full_is bytes index (entry_position k v m index) (value_position_of k v m index) c.new.result c.new-in-Some.result
    c.new.ensures.bytes (c.new.ensures.pos ∙ at) c.new-in-Some.ensures.bytes (c.new-in-Some.ensures.pos ∙ c.value_position-value.ensures ∙ ap (field_position k no_shapes v) at) in
    looks_up_as _ _ (word_at bytes.now) (full_of {K = g.row.K.Denot} {V = g.row.V.Denot} bytes k v m) number_shape m.buckets (Some index) (Some (index, c.new.result, c.new-in-Some.result)) full
    (c.in-Some.ensures.answers m is)

pub returns-in-None-clause-answers : goal.returns-in-None-clause-answers
returns-in-None-clause-answers g c m is =
    let k = g.K.Portable.shape in
    let v = g.V.Portable.shape in
    looks_up_as _ _ (word_at c.args.this.bytes.now) (full_of {K = g.row.K.Denot} {V = g.row.V.Denot} c.args.this.bytes k v m) number_shape m.buckets None None refl (c.in-None.ensures.answers m is)
