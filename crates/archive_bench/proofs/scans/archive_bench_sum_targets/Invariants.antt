use Rattle.std.proofs.Common.{◌≡◌, ◌*◌, ◌%◌, ◌^◌}
use Rattle.archive_bench.specs.Sums.{target_at, sum_below}
use Rattle.archive_bench.proofs.scans.archive_bench_sum_targets.Given as goal

abbrev pub invariant-loop-i : goal.invariant-loop-i
invariant-loop-i l = l.total ≡ sum_below (λ i. target_at l.bytes (i * 4)) l.i % 2 ^ 64
