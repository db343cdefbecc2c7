use Rattle.std.proofs.Common.{◌≡◌, ℕ, ◌<◌, get_or}
use Rattle.archive_hash_probing.proofs.places.fitting.clear.Given as goal

abbrev pub invariant-loop-control : goal.invariant-loop-control
invariant-loop-control l = (k : ℕ) → k < l.control-index → get_or l.controls k 0 ≡ 255
