use Rattle.std.proofs.Common.{rules, ◌≡◌, Err}
use Rattle.archive_forms_rc.proofs.sharing.sharing_ext.serialize_rc_from_ref.Goals as goal

pub returns-in_err-pos : goal.returns-in_err-pos
returns-in_err-pos g c =
    let passed : c.from_residual.result ≡ Err c.in_err-pos.field-0.0 = search rules in
    rw passed c.in_err-pos.ensures
