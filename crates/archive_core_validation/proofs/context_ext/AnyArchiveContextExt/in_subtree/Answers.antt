use Rattle.std.proofs.Common.{◌∙◌}
use Rattle.archive_shape_layout.specs.Shape.Pointee.{sized}
use Rattle.archive_shape.specs.Questions.{pointee_span}
use Rattle.archive_core_validation.proofs.Claiming.{resized}
use Rattle.archive_core_validation.proofs.context_ext.AnyArchiveContextExt.in_subtree.Goals as goal

pub returns : goal.returns
returns g c =
    resized g.F.FnOnce g.C.ArchiveContext.kept c.args.f _ (pointee_span c.args.pos (sized g.T.Portable.shape) 1) _ _ _ _
    (c.SIZE.ensures ∙ g.met.T.Portable.sized) (c.ALIGN.ensures ∙ g.met.T.Portable.aligned) c.requires.range c.in_subtree_raw.ensures
