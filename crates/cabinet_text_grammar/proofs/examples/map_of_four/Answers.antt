use Rattle.cabinet_text_grammar.proofs.ExamplesTexts.{map_of_four}
use Rattle.cabinet_text_grammar.proofs.examples.map_of_four.Goals as goal

pub returns : goal.returns
returns c = map_of_four
