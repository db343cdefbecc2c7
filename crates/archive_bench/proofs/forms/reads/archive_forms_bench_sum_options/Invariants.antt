use Rattle.std.proofs.Common.{false}
use Rattle.std.specs.Int.{w32}
use Rattle.archive_shape_layout.specs.Shape.Shape.{number, option}
use Rattle.archive_bench.specs.FormsSums.{number_or_zero}
use Rattle.archive_bench.proofs.Sums.{IsTotal}
use Rattle.archive_bench.proofs.forms.reads.archive_forms_bench_sum_options.Given as goal

abbrev pub invariant-loop-i : goal.invariant-loop-i
invariant-loop-i l = IsTotal (number_or_zero) (option (number w32 false)) l.fn.bytes l.fn.pos l.i l.total
