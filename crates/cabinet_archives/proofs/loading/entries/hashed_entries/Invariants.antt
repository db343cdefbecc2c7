use Rattle.std.proofs.Common.{◌≡◌, ℕ, ◌+◌, ◌++◌, map}
use Rattle.std.specs.Prelude.{All}
use Rattle.cabinet_documents.specs.Denotes.{tagged_value}
use Rattle.cabinet_archives.specs.Hashed.{table_shape}
use Rattle.cabinet_archives.specs.Keyed.{knows_pairs}
use Rattle.cabinet_archives.specs.Loading.{HasTree, OfTree, IsEntry}
use Rattle.cabinet_archives.proofs.LoadedEntries.{LoadedPair, Keyed, positions, AreSorting}
use Rattle.cabinet_archives.proofs.loading.entries.hashed_entries.Given as goal

-- the entries that were read stand under their keys, and the others are left
abbrev pub invariant-loop-key : goal.invariant-loop-key
invariant-loop-key l = record {
  bytes : All (λ (e : LoadedPair). e.0.bytes ≡ l.map.bytes) l.key-iterator;
  left : (outer : ℕ) → HasTree (tagged_value 7) table_shape knows_pairs l.map.bytes.now l.map.pos outer → All (IsEntry l.map.bytes.now (outer + 1)) (map positions l.key-iterator);
  there : (outer : ℕ) → HasTree (tagged_value 7) table_shape knows_pairs l.map.bytes.now l.map.pos outer → All (IsEntry l.map.bytes.now (outer + 1)) (map (λ (e : Keyed). e.1) l.sorted.entries);
  sorting : OfTree (tagged_value 7) table_shape knows_pairs l.map.bytes.now l.map.pos (AreSorting l.map.bytes.now (map positions l.key-iterator) l.sorted.entries);
}

-- the entries, and behind them those that are left, are all
abbrev pub invariant-loop-entry : goal.invariant-loop-entry
invariant-loop-entry l = l.entries.items ++ l.entry-iterator ≡ l.initial.entry-iterator
