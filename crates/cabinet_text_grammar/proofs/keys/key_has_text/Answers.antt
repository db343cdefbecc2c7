use Rattle.cabinet_text_grammar.proofs.KeyLemmas.{key_has_text_law}
use Rattle.cabinet_text_grammar.proofs.keys.key_has_text.Goals as goal

pub returns : goal.returns
returns c = key_has_text_law
