use Rattle.cabinet_text_grammar.proofs.ExamplesTexts.{whole_twice}
use Rattle.cabinet_text_grammar.proofs.examples.whole_twice.Goals as goal

pub returns : goal.returns
returns c = whole_twice
