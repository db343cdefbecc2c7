use Rattle.std.proofs.Common.{rules}
use Rattle.archive_shape_layout.specs.Shape.Pointee.{sized}
use Rattle.archive_forms_rc.specs.Counted.{shared_rc_spelling}
use Rattle.archive_forms_rc.proofs.Pointing.{can_resolve, resolved}
use Rattle.archive_forms_rc.proofs.sharing.weak.ArchivedRcWeak+T+RcFlavor.resolve_from_ref.Goals as goal

pub resolve-requires : goal.resolve-requires
resolve-requires g c =
    can_resolve (sized g.T.Portable.shape) (shared_rc_spelling g.T.Portable.shape g.U.Archive.spelling) c.args.value.now c.args.resolver _ c.into_option.ensures
    _ _ _ _ _ _ c.within.ensures.bytes c.within.ensures.start c.within.ensures.pos c.requires

pub returns : goal.returns
returns g c =
    resolved (sized g.T.Portable.shape) (shared_rc_spelling g.T.Portable.shape g.U.Archive.spelling) c.args.value.now c.args.resolver _ c.into_option.ensures
    _ _ _ _ _ _ _ _ _ c.within.ensures.bytes c.within.ensures.start c.within.ensures.pos c.resolve.ensures (search rules)
