use Rattle.std.proofs.Common.{take}
use Rattle.std.specs.Fn.{FnReturnsAt}
use Rattle.std.specs.List.{AllZip}
use Rattle.archive_hash_writing.proofs.hashes.hash_items.Given as goal

abbrev pub invariant-loop-item : goal.invariant-loop-item
invariant-loop-item g l = AllZip (λ x h. FnReturnsAt g.H.Fn l.hash x h) (take l.item-index l.items) l.hashes.items
