use Rattle.archive_forms_values.proofs.Arrays.{array_at, array_has}
use Rattle.archive_forms_values.proofs.reading.array.array_element_seal.Goals as goal

pub get-requires : goal.get-requires
get-requires g c = array_has g.row.N g.T.Portable.shape g.T.Portable.knows c.args.this.bytes.now c.args.this.pos c.requires

pub returns-clause-elements : goal.returns-clause-elements
returns-clause-elements g c = array_at g.row.N g.T.Portable.shape g.T.Portable.knows c.args.this.bytes.now c.args.this.pos
