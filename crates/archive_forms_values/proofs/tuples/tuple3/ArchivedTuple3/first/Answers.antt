use Rattle.std.proofs.Common.{[], ◌∷◌}
use Rattle.archive_forms_values.specs.Fields.{field, all_three}
use Rattle.archive_forms_values.proofs.Held.{fields_at}
use Rattle.archive_forms_values.proofs.tuples.tuple3.ArchivedTuple3.first.Goals as goal

pub returns-clause-value : goal.returns-clause-value
returns-clause-value g c = fields_at (field g.A.Portable.shape g.A.Portable.knows ∷ field g.B.Portable.shape g.B.Portable.knows ∷ field g.C.Portable.shape g.C.Portable.knows ∷ []) (all_three g.A.Portable.knows g.B.Portable.knows g.C.Portable.knows) (λ names known. (known.0, (known.1, (known.2, tt)))) c.args.this.bytes.now c.args.this.pos
