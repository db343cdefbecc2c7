use Rattle.std.proofs.Common.{◌≡◌, Ok, Some, rules}
use Rattle.std.specs.Prelude.{option_map}
use Rattle.cabinet_text_grammar.specs.EditLine.{insert_line, remove_line}
use Rattle.cabinet_text_grammar.specs.Restructuring.{insert, remove}
use Rattle.cabinet_text_nodes.specs.View.{edit_line_of, path_of}
use Rattle.cabinet_text.proofs.Outcomes.{becomes, becomes_or_stays}
use Rattle.cabinet_text.proofs.session.editing.carry_out.Goals as goal

pub returns-in_ok-insert-in-Some-Insert-clause-edited : goal.returns-in_ok-insert-in-Some-Insert-clause-edited
returns-in_ok-insert-in-Some-Insert-clause-edited c =
    let path = path_of c.as_slice-in-Some-Insert.result.now in
    let new = c.of_parts-new-in-Some-Insert.result in
    let is : option_map edit_line_of c.args.said ≡ Some (insert_line path new) = search rules in
    let done : c.insert.result ≡ Ok c.in_ok-insert-in-Some-Insert.field-0 = search rules in
    rw is (becomes_or_stays (insert c.args.document.now path new) c.insert.result _ _ _ done c.insert.ensures)

pub returns-in-Some-Remove-clause-edited : goal.returns-in-Some-Remove-clause-edited
returns-in-Some-Remove-clause-edited c =
    let path = path_of c.as_slice-in-Some-Remove.result.now in
    let is : option_map edit_line_of c.args.said ≡ Some (remove_line path) = search rules in
    rw is (becomes (remove c.args.document.now path) c.remove.result _ _ c.remove.ensures)
