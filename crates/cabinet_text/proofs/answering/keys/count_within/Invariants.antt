use Rattle.std.proofs.Common.{◌<◌, ◌^◌, length}
use Rattle.cabinet_text.proofs.Pieces.{IsCountBefore}
use Rattle.cabinet_text.proofs.answering.keys.count_within.Given as goal

-- the keys before those that are left were counted
abbrev pub invariant-loop-key : goal.invariant-loop-key
invariant-loop-key l =
    goal.iterator-loop-key.can_next l.key-iterator
    × goal.iterator-loop-key.is_finite l.key-iterator
    × IsCountBefore l.fn.low l.fn.high l.count l.fn.map.entries l.key-iterator
    × (length l.fn.map.entries < 2 ^ 63)
