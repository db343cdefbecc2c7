use Rattle.std.proofs.Common.{false}
use Rattle.std.specs.Int.{w32}
use Rattle.archive_shape_layout.specs.Shape.Shape.{number}
use Rattle.archive_forms_laws.specs.Views.{natural_of}
use Rattle.archive_bench.proofs.Sums.{IsTotal}
use Rattle.archive_bench.proofs.forms.reads.sum_list.Given as goal

abbrev pub invariant-loop-i : goal.invariant-loop-i
invariant-loop-i l = IsTotal (natural_of) (number w32 false) l.fn.list.bytes.now l.fn.list.pos l.i l.total
