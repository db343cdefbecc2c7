use Rattle.std.proofs.Common.{sym}
use Rattle.archive_shape_layout.specs.Shape.Pointee.{sized}
use Rattle.archive_forms_laws.specs.Pointers.{box_spelling}
use Rattle.archive_forms_rc.proofs.Viewed.{seen_alike}
use Rattle.archive_forms_rc.proofs.sharing.keyed.SharedRcSerialize.serialize.Goals as goal

pub returns : goal.returns
returns g c =
    seen_alike (sized g.T.Archived.Portable.shape) (λ y. 1) (box_spelling g.T.Archived.Portable.shape g.T.Archive.spelling) _ _ _ _
    (λ x. x.value.value) (λ x. x.key) (λ r. r.now) c.args.self.now c.deref.result (sym c.deref.ensures) c.serialize_rc_from_ref.ensures
