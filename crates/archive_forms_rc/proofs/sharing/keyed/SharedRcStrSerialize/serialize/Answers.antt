use Rattle.std.proofs.Common.{length, sym}
use Rattle.std.specs.Rc.{rc_str_bytes}
use Rattle.archive_shape_layout.specs.Shape.Pointee.{str}
use Rattle.archive_forms_laws.specs.Texts.{boxed_text_spelling}
use Rattle.archive_forms_rc.proofs.Viewed.{seen_alike}
use Rattle.archive_forms_rc.proofs.sharing.keyed.SharedRcStrSerialize.serialize.Goals as goal

pub returns : goal.returns
returns g c =
    seen_alike str length boxed_text_spelling _ _ _ _ (λ x. rc_str_bytes x.value) (λ x. x.key) (λ r. r.now) c.args.self.now c.deref.result (sym c.deref.ensures.value) c.serialize_rc_from_ref.ensures
