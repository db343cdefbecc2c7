use Rattle.std.proofs.Common.{◌≡◌, None, rules}
use Rattle.std.proofs.lemmas.List.{nil_from_length}
use Rattle.cabinet_text_grammar.specs.Wholes.{wholes_of}
use Rattle.cabinet_text_nodes.proofs.Walks.{walk_decides, walk_denies}
use Rattle.cabinet_text_reading.proofs.Roots.{none_in_order}
use Rattle.cabinet_text_reading.proofs.completed.completes_in_order.Goals as goal

pub returns-then-is_none : goal.returns-then-is_none
returns-then-is_none c =
    let none = nil_from_length c.args.wholes.now (search rules) in
    let alone : c.args.number ≡ None = search rules in
    none_in_order c.args.wholes.now c.args.stack.now c.args.number none alone

pub returns-in-Some : goal.returns-in-Some
returns-in-Some c i t same completed table around opened = walk_decides c.args.wholes.now (λ done. wholes_of t) c.in-Some.complete (c.in-Some.ensures i t same completed table around opened)

pub returns-in-None : goal.returns-in-None
returns-in-None c i t same completed table around opened = walk_denies c.args.wholes.now (λ done. wholes_of t) (c.in-None.ensures i t same completed table around opened)
