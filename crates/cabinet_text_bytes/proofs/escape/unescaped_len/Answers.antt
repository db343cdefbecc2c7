use Rattle.std.proofs.Common.{refl, sym, ◌∙◌}
use Rattle.cabinet_text_bytes.proofs.Plain.{own_form}
use Rattle.cabinet_text_bytes.proofs.escape.unescaped_len.Goals as goal

pub returns-then-is_plain : goal.returns-then-is_plain
returns-then-is_plain c = (c.args.argument.now, refl, own_form c.args.argument.now (sym c.is_plain.ensures ∙ c.if-is_plain.true))
