use Rattle.std.proofs.Common.{[], ◌∷◌}
use Rattle.archive_forms_values.specs.Fields.{field}
use Rattle.archive_forms_values.proofs.Held.{fields_at}
use Rattle.archive_forms_values.proofs.tuples.tuple1.ArchivedTuple1.first.Goals as goal

pub returns-clause-value : goal.returns-clause-value
returns-clause-value g c = fields_at (field g.A.Portable.shape g.A.Portable.knows ∷ []) g.A.Portable.knows (λ names known. (known, tt)) c.args.this.bytes.now c.args.this.pos
