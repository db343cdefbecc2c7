use Rattle.cabinet_examples.proofs.Refused.{more_tags_than_items}
use Rattle.cabinet_examples.proofs.more_tags_than_items.Goals as goal

pub returns : goal.returns
returns c = more_tags_than_items
