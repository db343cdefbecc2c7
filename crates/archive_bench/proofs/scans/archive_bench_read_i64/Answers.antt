use Rattle.std.proofs.Common.{rules}
use Rattle.std.proofs.lemmas.Int.{wraps}
use Rattle.std.proofs.lemmas.List.Sums.{fold_more}
use Rattle.archive_bench.proofs.scans.archive_bench_read_i64.Goals as goal

pub loop-p-preserved : goal.loop-p-preserved
loop-p-preserved c = search (rules, wraps, fold_more)
