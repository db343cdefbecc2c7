use Rattle.cabinet_text_grammar.proofs.Answered.{heads_of_the_kinds}
use Rattle.cabinet_text_grammar.proofs.examples.heads_of_the_kinds.Goals as goal

pub returns : goal.returns
returns c = heads_of_the_kinds
