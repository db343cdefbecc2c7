use Rattle.cabinet_text_grammar.proofs.Whole.{read_back}
use Rattle.cabinet_text_grammar.proofs.texts.read_back.Goals as goal

pub returns : goal.returns
returns c = read_back
