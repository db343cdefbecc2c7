use Rattle.archive_shape_layout.specs.Shape.Pointee.{sized}
use Rattle.archive_forms_rc.proofs.Led.{pointer_points, rc_there}
use Rattle.archive_forms_rc.proofs.shared.value_at.Goals as goal

pub target_of-requires-clause-leads : goal.target_of-requires-clause-leads
target_of-requires-clause-leads g c =
    pointer_points g.L.Flavor.ALLOW_CYCLES (sized g.T.Portable.shape) g.T.Portable.knows c.args.bytes.now c.args.pos c.requires

pub returns : goal.returns
returns g c = rc_there g.L.Flavor.ALLOW_CYCLES g.T.Portable.shape g.T.Portable.knows c.args.bytes.now c.args.pos _ c.target_of.ensures
