use Rattle.cabinet_text_grammar.proofs.Answered.{keys_of_the_kinds}
use Rattle.cabinet_text_grammar.proofs.examples.keys_of_the_kinds.Goals as goal

pub returns : goal.returns
returns c = keys_of_the_kinds
