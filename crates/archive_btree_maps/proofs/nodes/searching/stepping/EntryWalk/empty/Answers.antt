use Rattle.std.proofs.Common.{refl, arith}
use Rattle.archive_btree_maps.proofs.Walked.{empty_stack, empty_items}
use Rattle.archive_btree_maps.proofs.nodes.searching.stepping.EntryWalk.empty.Goals as goal

pub returns : goal.returns
returns c bytes root =
    let e = c.new.ensures in
    let s = c.new.result in
    record {
      layout = refl;
      stands = empty_stack bytes c.args.layout s.nodes s.nexts s.depth e.nodes e.nexts e.depth;
      reached = λ d below. absurd (omega (arith, e.depth));
      left = empty_items bytes c.args.layout s.nodes s.nexts s.depth e.depth;
    }
