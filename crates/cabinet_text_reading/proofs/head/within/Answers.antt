use Rattle.std.proofs.Common.{◌+◌, ◌<◌, ◌≤◌, sym, ◌∙◌, arith}
use Rattle.cabinet_text_nodes.specs.View.{item_of}
use Rattle.cabinet_text_reading.proofs.Heads.{container_within, container_too_deep, container_unknown}
use Rattle.cabinet_text_reading.proofs.head.within.Goals as goal

pub returns-in_default-clause-fault : goal.returns-in_default-clause-fault
returns-in_default-clause-fault c table are is_table =
    container_unknown table c.args.depths.now are c.args.depth (item_of c.args.head) c.requires (sym c.inner_depth.ensures ∙ c.in_default.is)

pub returns-then-saturating_add-ge-MAX_DEPTH-clause-fault : goal.returns-then-saturating_add-ge-MAX_DEPTH-clause-fault
returns-then-saturating_add-ge-MAX_DEPTH-clause-fault c table are is_table =
    let deep : 64 ≤ c.args.depth + c.in-Some.inner = omega arith in
    container_too_deep table c.args.depths.now are c.args.depth c.in-Some.inner (item_of c.args.head) is_table c.requires (sym c.in-Some.ensures) deep

pub returns-clause-head : goal.returns-clause-head
returns-clause-head c table are =
    let room : c.args.depth + c.in-Some.inner < 64 = omega arith in
    container_within table c.args.depths.now are c.args.depth c.in-Some.inner (item_of c.args.head) c.requires (sym c.in-Some.ensures) room
