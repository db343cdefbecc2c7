use Rattle.std.proofs.Common.{length, sym}
use Rattle.std.specs.Rc.{rc_slice_items}
use Rattle.archive_shape_layout.specs.Shape.Pointee.{slice}
use Rattle.archive_forms_laws.specs.Pointers.{slice_spelling}
use Rattle.archive_forms_rc.proofs.Viewed.{seen_alike}
use Rattle.archive_forms_rc.proofs.sharing.keyed.SharedRcSliceSerialize.serialize.Goals as goal

pub returns : goal.returns
returns g c =
    seen_alike (slice g.T.Archived.Portable.shape) length (slice_spelling g.T.Archived.Portable.shape g.T.Archive.spelling) _ _ _ _
    (λ x. rc_slice_items x.value) (λ x. x.key) (λ r. r.now) c.args.self.now c.as_slice-elements.result (sym c.as_slice-elements.ensures.value) c.serialize_rc_from_ref.ensures
