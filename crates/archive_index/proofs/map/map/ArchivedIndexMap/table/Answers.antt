use Rattle.archive_forms_laws.specs.SpellingLaws.{KnowsAll}
use Rattle.archive_shape_layout.specs.Shape.Shape.{table}
use Rattle.archive_forms_values.specs.Parts.{HasValue}
use Rattle.archive_hash_maps.proofs.Refs.{at_ref}
use Rattle.archive_forms_laws.specs.Sample.{number_shape}
use Rattle.archive_index.proofs.Standing.{has_table}
use Rattle.archive_index.proofs.map.map.ArchivedIndexMap.table.Goals as goal

pub returns-clause-there : goal.returns-clause-there
returns-clause-there g c =
    at_ref (λ bs p. HasValue (table number_shape) KnowsAll bs.now p) c.new.result c.args.this.bytes c.args.this.pos c.new.ensures.bytes c.new.ensures.pos
    (has_table g.K.Portable.shape g.V.Portable.shape g.K.Portable.knows g.V.Portable.knows c.args.this.bytes.now c.args.this.pos c.requires)
