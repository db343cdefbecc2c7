use Rattle.cabinet_text_grammar.proofs.RestructuredPaths.{remove_moves_elements}
use Rattle.cabinet_text_grammar.proofs.restructuring.remove_moves_elements.Goals as goal

pub returns : goal.returns
returns c = remove_moves_elements
