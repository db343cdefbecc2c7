use Rattle.std.proofs.Common.{length, ap, sym}
use Rattle.archive_btree_maps.proofs.Walked.{empty_stack, empty_items}
use Rattle.archive_btree_maps.proofs.nodes.searching.walk.Walk.empty.Goals as goal

pub invariant_of-result : goal.invariant_of-result
invariant_of-result c =
    let e = c.new.ensures in
    let s = c.new.result in
    (empty_stack c.args.bytes.now c.args.layout s.nodes s.nexts s.depth e.nodes e.nexts e.depth, ap length (sym (empty_items c.args.bytes.now c.args.layout s.nodes s.nexts s.depth e.depth)))

pub returns : goal.returns
returns c =
    let s = c.new.result in
    empty_items c.args.bytes.now c.args.layout s.nodes s.nexts s.depth c.new.ensures.depth
