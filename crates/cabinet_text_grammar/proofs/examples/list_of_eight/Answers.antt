use Rattle.cabinet_text_grammar.proofs.ExamplesTexts.{list_of_eight}
use Rattle.cabinet_text_grammar.proofs.examples.list_of_eight.Goals as goal

pub returns : goal.returns
returns c = list_of_eight
