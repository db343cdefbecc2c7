use Rattle.std.proofs.Common.{rules, Err, ap, ◌≡◌, ◌∙◌}
use Rattle.archive_forms_rc.specs.WeakResolvers.{weak_resolver}
use Rattle.archive_forms_rc.proofs.sharing.weak.ArchivedRcWeak+T+RcFlavor.serialize_from_ref.Goals as goal

pub returns-in_err-resolver : goal.returns-in_err-resolver
returns-in_err-resolver g c =
    let passed : c.from_residual.result ≡ Err c.in_err-resolver.field-0.0 = search rules in
    rw passed c.in_err-resolver.ensures

pub returns : goal.returns
returns g c st at = let laid = c.in_ok-resolver.ensures st at in (laid.0, (c.from_option.ensures ∙ ap weak_resolver laid.1.0, laid.1.1, laid.1.2))
