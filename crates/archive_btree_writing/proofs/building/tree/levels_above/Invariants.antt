use Rattle.std.proofs.Common.{◌≡◌, ◌+◌, ◌-◌, ◌^◌, ◌<◌, ◌≤◌}
use Rattle.archive_btree_writing.proofs.building.tree.levels_above.Given as goal

abbrev pub invariant-loop-wide : goal.invariant-loop-wide
invariant-loop-wide g l = record {
  wide : l.wide ≡ (g.row.E + 1) ^ l.above;
  within : l.wide ≤ l.count + (1 - l.count);
  above : l.above < l.wide;
}

abbrev pub decreases-loop-wide : goal.decreases-loop-wide
decreases-loop-wide g l = l.count - l.wide
