-- Whether each container of a stack lacks one node.
use Rattle.std.proofs.Common.{◌≡◌, ℕ, suc, ◌+◌, ◌<◌, length, get_or, drop, drop-cons, add-one, List, [], ◌∷◌, sym, ap, ◌∙◌}
use Rattle.cabinet_text_grammar.specs.Frame as spec
use Rattle.cabinet_text_grammar.specs.Completing.{LacksOne, AllLackOne}
use Rattle.cabinet_text_grammar.specs.Tree.{Tree}
use Rattle.cabinet_text_reading.specs.View.{frame_of, stack_onto}
use Rattle.cabinet_text_reading.specs.declared.stack.frame.Frame.{Frame}

abbrev pub EachLacksOne : List Tree → List Frame → Type 0
EachLacksOne table [] = Unit {0}
EachLacksOne table (f ∷ fs) = LacksOne (frame_of table f) × EachLacksOne table fs

pub each_of_stack : (table : List Tree) (outer : List spec.Frame) (fs : List Frame) → AllLackOne (stack_onto table outer fs) → EachLacksOne table fs × AllLackOne outer
each_of_stack table outer [] h = (tt {0}, h)
each_of_stack table outer (f ∷ fs) h =
    let rest = each_of_stack table (frame_of table f ∷ outer) fs h in
    ((rest.1.0, rest.0), rest.1.1)

pub stack_of_each : (table : List Tree) (outer : List spec.Frame) (fs : List Frame) → EachLacksOne table fs → AllLackOne outer → AllLackOne (stack_onto table outer fs)
stack_of_each table outer [] h all = all
stack_of_each table outer (f ∷ fs) h all = stack_of_each table (frame_of table f ∷ outer) fs h.1 (h.0, all)

-- from one container on
pub each_from : (table : List Tree) (fs : List Frame) (i : ℕ) (f : Frame) → i < length fs → f ≡ get_or fs i f → EachLacksOne table (drop i fs) ≡ (LacksOne (frame_of table f) × EachLacksOne table (drop (i + 1) fs))
each_from table fs i f within is =
    ap (EachLacksOne table) (drop-cons fs i f within)
    ∙ ap (λ x. LacksOne (frame_of table x) × EachLacksOne table (drop (suc i) fs)) (sym is)
    ∙ ap (λ j. LacksOne (frame_of table f) × EachLacksOne table (drop j fs)) (sym (add-one i))
