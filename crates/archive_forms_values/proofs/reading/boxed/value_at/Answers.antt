use Rattle.archive_forms_values.proofs.Pointed.{box_points, box_there}
use Rattle.archive_forms_values.proofs.reading.boxed.value_at.Goals as goal

pub target_of-requires-clause-leads : goal.target_of-requires-clause-leads
target_of-requires-clause-leads g c = box_points g.T.Portable.shape g.T.Portable.knows c.args.bytes.now c.args.pos c.requires

pub returns : goal.returns
returns g c = box_there g.T.Portable.shape g.T.Portable.knows c.args.bytes.now c.args.pos _ c.target_of.ensures
