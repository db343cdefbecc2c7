use Rattle.cabinet_text_grammar.proofs.RestructuredPaths.{insert_moves_elements}
use Rattle.cabinet_text_grammar.proofs.restructuring.insert_moves_elements.Goals as goal

pub returns : goal.returns
returns c = insert_moves_elements
