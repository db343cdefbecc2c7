use Rattle.cabinet_text_grammar.proofs.EditLines.{one_edit_line}
use Rattle.cabinet_text_grammar.proofs.laws.one_edit_line.Goals as goal

pub returns : goal.returns
returns c = one_edit_line
