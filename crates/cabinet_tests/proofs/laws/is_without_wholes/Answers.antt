use Rattle.std.proofs.Common.{◌≡◌, ◌∙◌, length, sym, ap, rules}
use Rattle.cabinet_text_grammar.specs.Wholes.{wholes_of}
use Rattle.cabinet_text_nodes.specs.View.{table_of}
use Rattle.cabinet_text_nodes.proofs.Paths.{no_items}
use Rattle.cabinet_tests.proofs.laws.is_without_wholes.Goals as goal

pub returns-in-Ok : goal.returns-in-Ok
returns-in-Ok c = λ empty t a.
    let none : length c.wholes.result.now ≡ 0 = search rules in
    let table = ap wholes_of (sym (c.in-Ok.ensures.document t a)) ∙ sym c.wholes.ensures ∙ ap table_of (no_items c.wholes.result.now none) in
    (c.archive_without_wholes.ensures c.args.opened.now.bytes.now t a).1 ((c.text_without_wholes.ensures t).table.1 table) t a
