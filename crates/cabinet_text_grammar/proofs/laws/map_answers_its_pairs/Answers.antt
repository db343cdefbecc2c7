use Rattle.cabinet_text_grammar.proofs.KeyedPairs.{map_answers_its_pairs}
use Rattle.cabinet_text_grammar.proofs.laws.map_answers_its_pairs.Goals as goal

pub returns : goal.returns
returns c = map_answers_its_pairs
