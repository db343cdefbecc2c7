use Rattle.std.proofs.Common.{drop}
use Rattle.archive_shape.specs.Range.{Range}
use Rattle.archive_shape.specs.Questions.{questions_of_controls}
use Rattle.archive_hash_maps.proofs.Asked.{Decides}
use Rattle.archive_hash_maps.proofs.checking.controls.check_controls.Given as goal

abbrev pub invariant-loop-index : goal.invariant-loop-index
invariant-loop-index l =
    (range : Range) → Decides range (questions_of_controls l.capacity l.controls 0 l.controls) (questions_of_controls l.capacity l.controls l.index (drop l.index l.controls))
