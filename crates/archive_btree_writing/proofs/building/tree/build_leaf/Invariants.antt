use Rattle.std.proofs.Common.{◌≡◌, ◌+◌, ◌≤◌, length, take}
use Rattle.std.specs.Iterator.{Yields, IsFinite}
use Rattle.archive_btree_writing.proofs.building.tree.build_leaf.Given as goal

abbrev pub invariant-loop-i : goal.invariant-loop-i
invariant-loop-i g l = record {
  whole : length l.own ≡ g.row.E;
  within : l.i ≤ l.count;
  claims : l.source.claimed ≡ l.fn.source.claimed;
  counts : l.source.taken ≡ l.fn.source.taken + l.i;
  calls : g.I.Iterator.can_next l.source.entries × IsFinite (g.I.Iterator.remaining l.source.entries);
  came : Yields g.I.Iterator.next_gives l.fn.source.entries (take l.i l.own) l.source.entries;
}
