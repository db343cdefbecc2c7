use Rattle.archive_shape_layout.specs.Shape.Shapes.{no_shapes}
use Rattle.archive_forms_values.specs.Tuples.{tuple2}
use Rattle.archive_forms_values.specs.Parts.{HasValue, both}
use Rattle.archive_forms_values.specs.Fields.{field_position}
use Rattle.archive_hash_maps.proofs.Entries.{entry_parts}
use Rattle.archive_hash_maps.proofs.Refs.{at_ref}
use Rattle.archive_index.proofs.map.map.ArchivedIndexMap.get_index.Goals as goal

pub key-requires : goal.key-requires
key-requires g c =
    let all = c.entries.ensures.there in
    let one = all.stand.each c.args.index c.in-Some.ensures.0 in
    at_ref (λ bs p. HasValue (tuple2 g.K.Portable.shape g.V.Portable.shape) (both g.K.Portable.knows g.V.Portable.knows) bs.now p) c.in-Some.entry c.entries.result.bytes _ c.in-Some.ensures.1 c.in-Some.ensures.2 (record { value = one.0; held = one.2 })

pub value-requires : goal.value-requires
value-requires g c =
    let all = c.entries.ensures.there in
    let one = all.stand.each c.args.index c.in-Some.ensures.0 in
    at_ref (λ bs p. HasValue (tuple2 g.K.Portable.shape g.V.Portable.shape) (both g.K.Portable.knows g.V.Portable.knows) bs.now p) c.in-Some.entry c.entries.result.bytes _ c.in-Some.ensures.1 c.in-Some.ensures.2 (record { value = one.0; held = one.2 })

pub returns-in-Some-clause-there : goal.returns-in-Some-clause-there
returns-in-Some-clause-there g c =
    let k = g.K.Portable.shape in
    let v = g.V.Portable.shape in
    let all = c.entries.ensures.there in
    let one = all.stand.each c.args.index c.in-Some.ensures.0 in
    let there = at_ref (λ bs p. HasValue (tuple2 k v) (both g.K.Portable.knows g.V.Portable.knows) bs.now p) c.in-Some.entry c.entries.result.bytes _ c.in-Some.ensures.1 c.in-Some.ensures.2 (record { value = one.0; held = one.2 }) in
    let parts = entry_parts k v g.K.Portable.knows g.V.Portable.knows c.in-Some.entry.bytes.now c.in-Some.entry.pos there in (
      at_ref (λ bs p. HasValue k g.K.Portable.knows bs.now p) c.key.result c.in-Some.entry.bytes c.in-Some.entry.pos c.key.ensures.bytes c.key.ensures.pos parts.key,
      at_ref (λ bs p. HasValue v g.V.Portable.knows bs.now p) c.value.result c.in-Some.entry.bytes (field_position k no_shapes v c.in-Some.entry.pos) c.value.ensures.bytes c.value.ensures.pos parts.value,
    )
