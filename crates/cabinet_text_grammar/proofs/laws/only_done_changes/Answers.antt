use Rattle.cabinet_text_grammar.proofs.Changes.{only_done_changes}
use Rattle.cabinet_text_grammar.proofs.laws.only_done_changes.Goals as goal

pub returns : goal.returns
returns c = only_done_changes
