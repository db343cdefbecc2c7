use Rattle.std.proofs.Common.{◌≡◌, ◌+◌, ◌-◌, ◌^◌, ◌∷◌, length, min}
use Rattle.std.specs.Iterator.{Yields}
use Rattle.archive_btree_writing.proofs.building.claimed.finish.Given as goal

abbrev pub invariant-loop : goal.invariant-loop
invariant-loop g l = record {
  claims : l.claimed ≡ l.fn.source.claimed;
  counts : l.actual ≡ min (l.claimed + 1 + length l.yielded) (2 ^ 64 - 1);
  came : (first : g.row.T.Denot) × Yields g.I.Iterator.next_gives l.fn.source.entries (first ∷ l.yielded) l.iterator';
}
