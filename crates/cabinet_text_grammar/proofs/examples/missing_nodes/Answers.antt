use Rattle.cabinet_text_grammar.proofs.Answered.{missing_nodes}
use Rattle.cabinet_text_grammar.proofs.examples.missing_nodes.Goals as goal

pub returns : goal.returns
returns c = missing_nodes
