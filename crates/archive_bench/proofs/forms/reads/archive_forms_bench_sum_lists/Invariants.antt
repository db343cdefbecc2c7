use Rattle.std.proofs.Common.{false}
use Rattle.std.specs.Int.{w32}
use Rattle.archive_shape_layout.specs.Shape.Shape.{number, vector}
use Rattle.archive_forms_laws.specs.Views.{natural_of}
use Rattle.archive_bench.specs.FormsSums.{sum_of}
use Rattle.archive_bench.proofs.Sums.{IsTotal}
use Rattle.archive_bench.proofs.forms.reads.archive_forms_bench_sum_lists.Given as goal

abbrev pub invariant-loop-i : goal.invariant-loop-i
invariant-loop-i l = IsTotal (sum_of natural_of) (vector (number w32 false)) l.fn.bytes l.fn.pos l.i l.total
