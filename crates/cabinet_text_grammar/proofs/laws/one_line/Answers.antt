use Rattle.cabinet_text_grammar.proofs.Lines.{one_line}
use Rattle.cabinet_text_grammar.proofs.laws.one_line.Goals as goal

pub returns : goal.returns
returns c = one_line
