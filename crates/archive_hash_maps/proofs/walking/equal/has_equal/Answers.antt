use Rattle.std.proofs.Common.{◌∙◌, Some}
use Rattle.archive_shape_layout.specs.Shape.Shapes.{no_shapes}
use Rattle.archive_forms_values.specs.Parts.{HasValue}
use Rattle.archive_forms_comparing.specs.Compared.{OfBoth}
use Rattle.archive_forms_values.specs.Fields.{field_position}
use Rattle.archive_hash_maps.proofs.Entries.{entry_parts}
use Rattle.archive_hash_maps.proofs.Refs.{at_ref, from_ref}
use Rattle.archive_hash_maps.proofs.walking.equal.has_equal.Goals as goal

pub eq-requires-clause-other : goal.eq-requires-clause-other
eq-requires-clause-other g c =
    let k = g.K.Portable.shape in
    let v = g.V.Portable.shape in
    at_ref (λ bs p. HasValue v g.V.Portable.knows bs.now p) c.new.result c.args.bytes (field_position k no_shapes v c.in-Some.at) c.new.ensures.bytes (c.new.ensures.pos ∙ c.value_position.ensures)
    (entry_parts k v g.K.Portable.knows g.V.Portable.knows c.args.bytes.now c.in-Some.at c.in-Some.ensures.there).value

pub returns-in-Some : goal.returns-in-Some
returns-in-Some g c b is =
    let k = g.K.Portable.shape in
    let v = g.V.Portable.shape in
    let value = c.args.entry.now.1 in
    record {
      found = Some c.in-Some.at;
      looks_up = c.in-Some.ensures.answers b is;
      says =
          from_ref (λ bs p. OfBoth v g.V.Portable.knows value.bytes.now value.pos bs.now p g.V.ArchivedEq.equal c.eq.result) c.new.result c.args.bytes (field_position k no_shapes v c.in-Some.at) c.new.ensures.bytes
          (c.new.ensures.pos ∙ c.value_position.ensures) c.eq.ensures;
    }
