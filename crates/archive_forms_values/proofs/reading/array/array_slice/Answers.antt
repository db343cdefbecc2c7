use Rattle.archive_forms_values.proofs.Arrays.{array_at}
use Rattle.archive_forms_values.proofs.reading.array.array_slice.Goals as goal

pub returns-clause-elements : goal.returns-clause-elements
returns-clause-elements g c = array_at g.row.N g.T.Portable.shape g.T.Portable.knows c.args.this.bytes.now c.args.this.pos
