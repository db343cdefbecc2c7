use Rattle.std.proofs.Common.{List, drop}
use Rattle.cabinet_text_grammar.specs.Tree.{Tree}
use Rattle.cabinet_text_reading.proofs.Filling.{EachLacksOne}
use Rattle.cabinet_text_reading.proofs.stack.completing.all_lack_one.Given as goal

abbrev pub invariant-loop-frame : goal.invariant-loop-frame
invariant-loop-frame l =
    (table : List Tree) → (EachLacksOne table (drop l.frame-index l.stack) → EachLacksOne table l.stack) × (EachLacksOne table l.stack → EachLacksOne table (drop l.frame-index l.stack))
