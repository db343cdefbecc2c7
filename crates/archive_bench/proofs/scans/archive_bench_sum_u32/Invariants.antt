use Rattle.std.proofs.Common.{◌≡◌, ◌*◌, ◌%◌, ◌^◌}
use Rattle.archive_bench.specs.Sums.{u32_at, sum_below}
use Rattle.archive_bench.proofs.scans.archive_bench_sum_u32.Given as goal

abbrev pub invariant-loop-i : goal.invariant-loop-i
invariant-loop-i l = l.total ≡ sum_below (λ i. u32_at l.bytes (i * 4)) l.i % 2 ^ 64
