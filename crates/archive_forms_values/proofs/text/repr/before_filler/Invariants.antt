use Rattle.std.proofs.Common.{◌≡◌, ◌++◌, take, drop}
use Rattle.archive_shape_layout.specs.Content.{before_ff}
use Rattle.archive_forms_values.proofs.text.repr.before_filler.Given as goal

abbrev pub invariant-loop-end : goal.invariant-loop-end
invariant-loop-end l = before_ff l.own ≡ take l.end l.own ++ before_ff (drop l.end l.own)
