use Rattle.std.proofs.Common.{◌≡◌}
use Rattle.archive_forms_writing.proofs.collections.elements.collect_items.Given as goal

abbrev pub invariant-loop-item : goal.invariant-loop-item
invariant-loop-item g l = l.all.items ≡ l.yielded
