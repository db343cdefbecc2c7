use Rattle.std.proofs.Common.{◌≡◌, ◌&&◌, map}
use Rattle.std.specs.Prelude.{All}
use Rattle.cabinet_archives.proofs.Ascending.{IsEntryThere, key_of, before, ascend_behind, are_leaves}
use Rattle.cabinet_archives.proofs.maps.ordered.classify_entries.Given as goal

-- the entries that are left are there; with them after the last key all keys ascend or do not, and all nodes are leaves or are not
abbrev pub invariant-loop-key : goal.invariant-loop-key
invariant-loop-key l = record {
  there : All IsEntryThere l.key-iterator;
  rest : ascend_behind (before l.last) (map key_of l.key-iterator) ≡ ascend_behind (before l.initial.last) (map key_of l.initial.key-iterator);
  leaves : (l.leaves && are_leaves l.key-iterator) ≡ (l.initial.leaves && are_leaves l.initial.key-iterator);
}
