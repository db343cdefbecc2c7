use Rattle.std.proofs.Common.{◌≡◌, take, fold}
use Rattle.archive_bench.specs.Writes.{with_i64}
use Rattle.archive_bench.proofs.scans.archive_bench_write_i64.Given as goal

abbrev pub invariant-loop-p : goal.invariant-loop-p
invariant-loop-p l = l.bytes ≡ fold (λ written p. with_i64 written p l.number) l.initial.bytes (take l.p-index l.positions)
