use Rattle.std.proofs.Common.{◌≡◌, ◌%◌, ◌^◌, take}
use Rattle.std.specs.List.{sum_by}
use Rattle.archive_bench.specs.Sums.{u32_at}
use Rattle.archive_bench.proofs.scans.archive_bench_read_u32.Given as goal

abbrev pub invariant-loop-p : goal.invariant-loop-p
invariant-loop-p l = l.total ≡ sum_by (λ p. u32_at l.bytes p) (take l.p-index l.positions) % 2 ^ 64
