use Rattle.std.proofs.Common.{◌≡◌, suc, ◌+◌, ◌-◌, ◌*◌, ◌≤◌, length, take}
use Rattle.std.specs.Iterator.{IsFinite}
use Rattle.archive_btree_spelling.specs.Maps.{packed_spelling}
use Rattle.archive_btree_writing.proofs.Opening.{Open}
use Rattle.archive_btree_writing.proofs.building.tree.+tree.Given as goal

abbrev pub decreases-build_inner : goal.decreases-build_inner
decreases-build_inner g l = 3 * l.above + 1

abbrev pub decreases-build_lesser : goal.decreases-build_lesser
decreases-build_lesser g l = 3 * l.above + 3

abbrev pub decreases-build_tree : goal.decreases-build_tree
decreases-build_tree g l = 3 * l.above + 2

abbrev pub invariant-build_inner-loop-i : goal.invariant-build_inner-loop-i
invariant-build_inner-loop-i g l = record {
  pointers : length l.lesser ≡ g.row.E;
  entries : length l.own ≡ g.row.E;
  within : l.i ≤ g.row.E;
  left : l.left ≡ l.last - l.i * l.room;
  claims : l.source.claimed ≡ l.fn.source.claimed;
  further : l.fn.source.taken ≤ l.source.taken;
  -- after those that came, the other children and the entries between them
  togo : l.source.taken - l.fn.source.taken + (suc (g.row.E - l.i) * (l.below - 1) + (g.row.E - l.i) + l.left) ≡ l.wide - 1 + l.last;
  calls : g.I.Iterator.can_next l.source.entries × IsFinite (g.I.Iterator.remaining l.source.entries);
  opened :
      Open g.row.E (l.wide - 1 + l.last)
      (packed_spelling g.row.E g.N.NodeStep.key_shape g.N.NodeStep.value_shape g.N.NodeStep.keys (g.N.NodeStep.values l.nodes) (suc (l.above - 1)))
      (record { known = g.S.Registry.known; pos = g.S.Positional.pos; OBSERVABLE = g.S.Writer.OBSERVABLE; COUNTS = g.S.Writer.COUNTS; contents = g.S.Writer.contents; failures = g.S.Writer.failures; last_error = g.S.Writer.last_error })
      g.N.NodeStep.parts g.I.Iterator.next_gives l.fn.source.entries l.fn.serializer
      l.i (g.row.E - l.i) (l.source.taken - l.fn.source.taken) l.source.entries l.serializer (take l.i l.lesser) (take l.i l.own);
}
