-- A document of whose text some lines were read, and the line that follows.
use Rattle.std.specs.Prelude.{◌≡◌, ℕ, zero, suc, ◌+◌, ◌<◌, ◌^◌, false, List, [], ◌∷◌, ◌++◌, length}
use Rattle.cabinet_text_grammar.specs.Tree.{Tree}
use Rattle.cabinet_text_grammar.specs.Wholes.{has, wholes_of, IsTable}
use Rattle.cabinet_text_grammar.specs.Item.{Item, wholes_item, items_of_table, header}
use Rattle.cabinet_text_grammar.specs.Frame.{Frame, items_of_stack, AreOpen}
use Rattle.cabinet_text_grammar.specs.Due.{Due, the_start, due_in}
use Rattle.cabinet_text_grammar.specs.Machine.{State, going, complete, stuck, step}

pub record Reading : Type 0 where
  -- the number of wholes that are not complete
  pub lacking : ℕ
  -- the trees of those that are
  pub table : List Tree
  -- the open containers of the tree that is read: that of the next whole, and where no whole lacks the root
  pub stack : List Frame

abbrev pub nothing_read : Reading
nothing_read = record { lacking = 0; table = []; stack = [] }

-- a whole is a container around its tree
abbrev pub around : ℕ → ℕ
around zero = 0
around (suc lacking) = 1

-- the items of its lines
abbrev pub items_of_reading : Reading → List Item
items_of_reading r = header (r.lacking + length r.table) ++ (items_of_table r.table ++ items_of_stack r.table r.stack)

pub record IsReading (r : Reading) : Type 0 where
  pub counted : r.lacking + length r.table < 2 ^ 64
  pub table : IsTable r.table
  pub stack : AreOpen r.table (around r.lacking) r.stack

abbrev pub due_of : ℕ → List Tree → List Frame → Due
due_of zero [] [] = the_start
due_of lacking table stack = due_in table (around lacking) stack

-- the line that is expected next
abbrev pub due_at : Reading → Due
due_at r = due_of r.lacking r.table r.stack

pub data Stage : Type 0 where
  reading : Reading → Stage
  -- the trees of the wholes and the root
  read : List Tree → Tree → Stage
  nowhere : Stage

-- a tree that is complete is that of the next whole, and where no whole lacks the root
abbrev pub completed : ℕ → List Tree → Tree → Stage
completed zero table t = read table t
completed (suc lacking) table t = reading (record { lacking = lacking; table = t ∷ table; stack = [] })

abbrev pub onward : ℕ → List Tree → State → Stage
onward lacking table (going fs) = reading (record { lacking = lacking; table = table; stack = fs })
onward lacking table (complete t) = completed lacking table t
onward lacking table stuck = nowhere

-- the number of wholes is the first item, if there are any
abbrev pub announce : ℕ → List Tree → List Frame → ℕ → Stage
announce zero [] [] (suc n) = reading (record { lacking = suc n; table = []; stack = [] })
announce _ _ _ n = nowhere

-- after one more item
abbrev pub take : Reading → Item → Stage
take r (wholes_item n) = announce r.lacking r.table r.stack n
take r i = onward r.lacking r.table (step r.table r.stack i)

-- no earlier whole has the tree of a whole, and the wholes of the root are those that were read
abbrev pub IsNew : ℕ → List Tree → Tree → Type 0
IsNew zero table t = wholes_of t ≡ table
IsNew (suc lacking) table t = has table t ≡ false

abbrev pub Suits : Reading → State → Type 0
Suits r (complete t) = IsNew r.lacking r.table t
Suits r _ = Unit {0}
