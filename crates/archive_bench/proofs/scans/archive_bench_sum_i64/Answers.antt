use Rattle.std.proofs.Common.{rules}
use Rattle.std.proofs.lemmas.Int.{wraps}
use Rattle.archive_bench.proofs.Steps.{signed_sum_more}
use Rattle.archive_bench.proofs.scans.archive_bench_sum_i64.Goals as goal

pub loop-i-preserved : goal.loop-i-preserved
loop-i-preserved c = search (rules, wraps, signed_sum_more)
