use Rattle.std.proofs.Common.{◌≡◌}
use Rattle.archive_bench.specs.Writes.{with_i64s}
use Rattle.archive_bench.proofs.scans.archive_bench_fill_i64.Given as goal

abbrev pub invariant-loop-i : goal.invariant-loop-i
invariant-loop-i l = l.bytes ≡ with_i64s l.initial.bytes l.first l.i
