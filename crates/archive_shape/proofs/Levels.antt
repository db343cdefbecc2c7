-- A child on a level that no tree has.
use Rattle.std.proofs.Common.{◌≡◌, Bool, false, List, [], cond, refl, arith}
use Rattle.std.proofs.lemmas.Bool.{leb-true, ne_eqb}
use Rattle.archive_shape_layout.specs.Bytes.{window, word_at}
use Rattle.archive_shape.specs.Range.{Range}
use Rattle.archive_shape.specs.Questions.{Question, FirstUnanswered}
use Rattle.archive_shape.specs.Questions.FirstUnanswered.{unanswered_here}
use Rattle.archive_shape.specs.PartFault.PartFault.{fault_unanswered}
use Rattle.archive_shape.specs.Laws.{DeepChildIsRefused}
use Rattle.archive_shape_layout.specs.declared.error.Error.{Error}
use Rattle.archive_shape_layout.specs.declared.error.Error.TheVariants.{TooManyLevels}

-- a list of questions that is not left out
asked : (k : Range) (e : Error) (b : Bool) (qs : List Question) → b ≡ false → FirstUnanswered k e qs → FirstUnanswered k e (cond b [] qs)
asked k e b qs is f = rw is f

pub deep_child_law : DeepChildIsRefused
deep_child_law names bytes inside before level most key value pos k deep some =
    fault_unanswered (asked k TooManyLevels _ _ (ne_eqb (word_at (window bytes pos 4) 0) 1 some)
    (unanswered_here (λ low. let most_levels = leb-true level 32 low in omega arith) refl))
