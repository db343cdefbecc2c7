-- The item that a line represents when it is taken in, and what it leads to.
use Rattle.std.specs.Prelude.{◌≡◌, ℕ, List}
use Rattle.cabinet_text_grammar.specs.Item.{Item}
use Rattle.cabinet_text_grammar.specs.Due.{Admits}
use Rattle.cabinet_text_grammar.specs.Reading.{Reading, due_at, Stage, take, Suits}
use Rattle.cabinet_text_grammar.specs.Machine.{step}
use Rattle.cabinet_text_grammar.specs.Spelling.{spelled}

-- a line of an item that is allowed after some lines leads to this stage
pub record TakesLine (r : Reading) (line : List ℕ) (stage : Stage) : Type 0 where
  pub item : Item
  pub admitted : Admits (due_at r) item
  pub line_is : line ≡ spelled item
  pub suits : Suits r (step r.table r.stack item)
  pub stage_is : stage ≡ take r item
