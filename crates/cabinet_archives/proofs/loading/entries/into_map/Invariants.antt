use Rattle.std.proofs.Common.{◌≡◌, ◌≢◌, List, [], length}
use Rattle.std.specs.Vec.Iter.{into_iter_items, into_iter_len}
use Rattle.cabinet_text_grammar.specs.Tree.{Tree, no_pairs}
use Rattle.cabinet_text_nodes.specs.View.{node_pairs}
use Rattle.cabinet_archives.specs.Loading.{all_added}
use Rattle.cabinet_archives.proofs.loading.entries.into_map.Given as goal

-- the pairs that are left, added to those that were, are all of them
abbrev pub invariant-loop-key : goal.invariant-loop-key
invariant-loop-key l = record {
  added : (table : List Tree) → all_added (node_pairs table (into_iter_items l.key-iterator)) (node_pairs table l.map.entries) ≡ all_added (node_pairs table l.fn.pairs.items) no_pairs;
  some : into_iter_items l.key-iterator ≢ [] → l.fn.pairs.items ≢ [];
  counted : into_iter_len l.key-iterator ≡ length (into_iter_items l.key-iterator);
}
