use Rattle.std.proofs.Common.{◌≡◌, ◌*◌}
use Rattle.std.specs.Int.{w64, int_wrap}
use Rattle.archive_bench.specs.Sums.{i64_at, signed_sum_below}
use Rattle.archive_bench.proofs.scans.archive_bench_sum_i64.Given as goal

abbrev pub invariant-loop-i : goal.invariant-loop-i
invariant-loop-i l = l.total ≡ int_wrap w64 (signed_sum_below (λ i. i64_at l.bytes (i * 8)) l.i)
