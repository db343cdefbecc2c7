use Rattle.cabinet_text.proofs.Pieces.{piece_within}
use Rattle.cabinet_text_nodes.proofs.Pieces.{AreWrittenBefore}
use Rattle.cabinet_text.proofs.answering.keys.write_each_within.Given as goal

-- the keys before those that are left were written
abbrev pub invariant-loop-key : goal.invariant-loop-key
invariant-loop-key g l =
    let w = g.W.Writer in
    (goal.iterator-loop-key g).can_next l.key-iterator
    × (goal.iterator-loop-key g).is_finite l.key-iterator
    × AreWrittenBefore w.OBSERVABLE w.COUNTS w.contents g.W.Positional.pos w.failures w.last_error g.W.Registry.known (piece_within l.fn.low l.fn.high) l.fn.writer l.writer l.fn.map.entries l.key-iterator
