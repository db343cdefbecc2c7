use Rattle.std.proofs.Common.{sym, subst}
use Rattle.cabinet_text_nodes.proofs.Seen.{slices_cmp}
use Rattle.cabinet_text_reading.specs.Seen.{KeysAscend}
use Rattle.cabinet_text_reading.proofs.Ascending.{nothing_sorted}
use Rattle.cabinet_text_reading.proofs.stack.seen.SeenKeys.new.Goals as goal

pub returns-clause-order : goal.returns-clause-order
returns-clause-order c = subst KeysAscend (sym c.new.ensures.items) (nothing_sorted slices_cmp)
