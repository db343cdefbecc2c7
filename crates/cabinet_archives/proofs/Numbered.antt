-- The entry of a key in a kept map: one position, which is that of the pair with the entry's number.
use Rattle.std.proofs.Common.{◌≡◌, ℕ, ◌+◌, ◌*◌, ◌<◌, List, Some, sym, ap, subst, ◌∙◌, arith}
use Rattle.std.specs.List.{slice_get}
use Rattle.archive_shape_layout.specs.Shape.{size_of}
use Rattle.archive_shape_layout.specs.Shape.Shape.{text}
use Rattle.archive_shape_layout.specs.Value.{Value, Values}
use Rattle.archive_shape_layout.specs.Value.Value.{group}
use Rattle.archive_shape.specs.Key.{HeldAt}
use Rattle.archive_shape_layout.specs.Path.{value_in}
use Rattle.cabinet_documents.specs.Denotes.{pair_value}
use Rattle.cabinet_documents.specs.Node.{node_shape, pair_shape, KnowsNode}
use Rattle.archive_index.specs.Maps.{IndexMap, IsMapAt, count_of, entry_positions}
use Rattle.cabinet_documents.proofs.IndexSteps.{IsEntryOf}
use Rattle.archive_index.proofs.Read.{one_map}
use Rattle.cabinet_archives.specs.Kept.{HasNumbered, index_shape}
use Rattle.cabinet_archives.specs.Keyed.{HasPair, knows_pairs}
use Rattle.cabinet_archives.proofs.IndexLookups.{at_position}
use Rattle.cabinet_archives.proofs.IndexPairs.{entries_of, map_of_value}
use Rattle.cabinet_archives.proofs.PairPositions.{one_pair, pair_node}
use Rattle.cabinet_archives.proofs.TableLookups.{pair_size}

module _ (bytes : List ℕ) where
  -- ---- a key leads to one position

  pub one_numbered : (pos : ℕ) (k : List ℕ) {to other : ℕ} → HasNumbered bytes pos k to → HasNumbered bytes pos k other → to ≡ other
  one_numbered pos k {other = other} x y =
      let same = one_map bytes text node_shape pos y.entries x.entries y.map x.map in
      one_pair bytes (entry_positions text node_shape x.entries) k x.pair (subst (λ m. HasPair bytes (entry_positions text node_shape m) k other) same y.pair)

  -- ---- the entry of a pair

  -- there is one entry i
  entry_is : (pos i q p : ℕ) (m : IndexMap) → IsMapAt bytes text node_shape pos m → slice_get (entry_positions text node_shape m) i ≡ Some p → IsEntryOf bytes pos i q → p ≡ q
  entry_is pos i q p m stands there entry =
      let x = at_position (size_of pair_shape) m.start (count_of m) i p there in
      let less = x.0 in
      let both = sym (stands.leads (λ none. absurd (omega (arith, less, none)))) ∙ entry.leads in
      let start : m.start ≡ entry.start = cc in
      x.1 ∙ (ap (λ n. m.start + i * n) pair_size ∙ (ap (λ n. n + i * 32) start ∙ sym entry.is))

  pub record PairNumbered (pos : ℕ) (k : List ℕ) (value_pos : ℕ) (value : Value) : Type 0 where
    pub numbered : HasNumbered bytes pos k value_pos
    pub held : HeldAt node_shape KnowsNode bytes value_pos value

  -- of the first pair with a key, whose node stands behind its key
  pub pair_numbered : (pos : ℕ) (vs : Values) → HeldAt index_shape knows_pairs bytes pos (group vs) → (k : List ℕ) (number pair_pos value_pos : ℕ) (value : Value) → value_in number vs ≡ Some (pair_value k value)
      → ((i : ℕ) (other : Value) → i < number → value_in i vs ≡ Some (pair_value k other) → ⊥) → IsEntryOf bytes pos number pair_pos → value_pos ≡ pair_pos + 8 → PairNumbered pos k value_pos value
  pair_numbered pos vs h k number pair_pos value_pos value there first entry behind =
      let r = map_of_value bytes pos (group vs) h in
      let ps = entry_positions text node_shape r.map in
      let n = pair_node bytes ps k vs (entries_of bytes pos (group vs) h) number pair_pos value_pos value there first (λ p e. entry_is pos number pair_pos p r.map r.stands e entry) behind in
      record { numbered = record { entries = r.map; map = r.stands; pair = n.pair }; held = n.held }
