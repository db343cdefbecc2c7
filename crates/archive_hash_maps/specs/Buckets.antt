-- The questions about a table's buckets and controls: their claim, and then the controls.
use Rattle.std.specs.Prelude.{ℕ, ◌*◌, ◌≤◌, nat_lt, nat_le, ◌==◌, List, [], ◌∷◌, ◌++◌, take, count_by}
use Rattle.archive_shape_layout.specs.Content.{Item, item_size, buckets_span}
use Rattle.archive_shape.specs.Questions.{Question, claim, out_of_range, questions_of_controls}
use Rattle.archive_shape.specs.Questions.Question.{test}
use Rattle.archive_shape.specs.Kept.{Kept}
use Rattle.archive_shape.specs.declared.checking.context.PushedRange.{PushedRange}
use Rattle.archive_shape_layout.specs.declared.error.Error.TheVariants.{WrongNumberOfElements}
use Rattle.archive_forms_values.specs.Claims.{IsClaimed}

-- the buckets begin at a position, and the region may be claimed
abbrev pub claim_of_buckets : (target cap : ℕ) → Item → List Question
claim_of_buckets target cap it =
    test (nat_le (cap * item_size it) target) (out_of_range (buckets_span target cap it).size) ∷ claim (buckets_span target cap it)

-- they do, and the range is narrowed to what lies before the region
pub record AreClaimed (target cap : ℕ) (it : Item) (old : Kept) (r : PushedRange) (new : Kept) : Type 0 where
  pub below : cap * item_size it ≤ target
  pub claimed : IsClaimed old (buckets_span target cap it) r new

-- the controls from the capacity on are as required, and the number of tags among those before is that of the items
abbrev pub questions_of_tags : (len cap : ℕ) → List ℕ → List Question
questions_of_tags len cap controls =
    let tags = count_by (λ c. nat_lt c 128) (take cap controls) in
    questions_of_controls cap controls 0 controls ++ (test (tags == len) (WrongNumberOfElements len tags) ∷ [])
