use Rattle.std.proofs.Common.{arith}
use Rattle.std.proofs.Math.Facts.{to_z-of_z}
use Rattle.std.proofs.lemmas.Grind.{common_steps}
use Rattle.archive_bench.proofs.scans.archive_bench_seal_i64.Goals as goal

pub returns : goal.returns
returns c = grind (arith, to_z-of_z, common_steps)
