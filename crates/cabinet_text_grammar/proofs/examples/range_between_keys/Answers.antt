use Rattle.cabinet_text_grammar.proofs.Answered.{range_between_keys}
use Rattle.cabinet_text_grammar.proofs.examples.range_between_keys.Goals as goal

pub returns : goal.returns
returns c = range_between_keys
