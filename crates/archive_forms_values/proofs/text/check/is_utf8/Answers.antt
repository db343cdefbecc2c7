use Rattle.std.proofs.Common.{sym, ◌∙◌}
use Rattle.archive_forms_values.proofs.Ascii.{ascii_is_utf8}
use Rattle.archive_forms_values.proofs.text.check.is_utf8.Goals as goal

pub returns-then-is_ascii : goal.returns-then-is_ascii
returns-then-is_ascii c =
    ((λ is. ascii_is_utf8 c.args.bytes.now (sym c.is_ascii.ensures ∙ c.if-is_ascii.true)), (λ is. c.if-is_ascii.true))
