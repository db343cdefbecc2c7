use Rattle.std.proofs.Common.{◌≡◌, ◌+ℤ◌, pos, take, fold}
use Rattle.std.specs.Int.{w64, int_wrap}
use Rattle.archive_bench.specs.Sums.{i64_at}
use Rattle.archive_bench.proofs.scans.archive_bench_read_i64.Given as goal

abbrev pub invariant-loop-p : goal.invariant-loop-p
invariant-loop-p l = l.total ≡ int_wrap w64 (fold (λ total p. total +ℤ i64_at l.bytes p) (pos 0) (take l.p-index l.positions))
