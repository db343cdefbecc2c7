use Rattle.std.proofs.Common.{false}
use Rattle.std.specs.Int.{w32}
use Rattle.archive_shape_layout.specs.Shape.Shape.{text}
use Rattle.archive_bench.specs.FormsSums.{weight}
use Rattle.archive_bench.proofs.Sums.{IsTotal}
use Rattle.archive_bench.proofs.forms.reads.archive_forms_bench_sum_texts.Given as goal

abbrev pub invariant-loop-i : goal.invariant-loop-i
invariant-loop-i l = IsTotal (weight) (text) l.fn.bytes l.fn.pos l.i l.total
