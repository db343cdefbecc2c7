use Rattle.std.proofs.Common.{◌+◌, ◌≤◌, length}
use Rattle.std.specs.List.{All}
use Rattle.archive_hash_probing.proofs.FirstFree.{Sought}
use Rattle.archive_hash_probing.proofs.places.fitting.first_empty.Given as goal

abbrev pub invariant-loop-position : goal.invariant-loop-position
invariant-loop-position g l = All (λ p. p + 16 ≤ length l.controls) l.strides × Sought l.controls l.hash l.capacity l.strides

abbrev pub decreases-loop-position : goal.decreases-loop-position
decreases-loop-position g l = length l.strides
