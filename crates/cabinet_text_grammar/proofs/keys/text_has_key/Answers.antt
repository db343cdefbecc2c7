use Rattle.cabinet_text_grammar.proofs.KeyLemmas.{text_has_key_law}
use Rattle.cabinet_text_grammar.proofs.keys.text_has_key.Goals as goal

pub returns : goal.returns
returns c = text_has_key_law
