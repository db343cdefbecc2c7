-- The bucket of a key: one position, which is that of the pair with the bucket's number.
use Rattle.std.proofs.Common.{◌≡◌, ℕ, ◌+◌, ◌-◌, ◌*◌, ◌<◌, List, take, Some, sym, ap, subst, ◌∙◌}
use Rattle.std.specs.List.{slice_get}
use Rattle.archive_shape_layout.specs.Bytes.{window, word_at}
use Rattle.archive_shape_layout.specs.Value.{Value, Values}
use Rattle.archive_shape_layout.specs.Value.Value.{group}
use Rattle.archive_shape_layout.specs.Content.{control_count}
use Rattle.archive_shape.specs.Key.{HeldAt}
use Rattle.archive_shape_layout.specs.Path.{value_in}
use Rattle.archive_hash_maps.specs.Tables.{Buckets, full_places, item_position, item_positions, IsTableAt, IsTableOf}
use Rattle.archive_hash_maps.specs.Tables.IsTableAt.{has_none, has_buckets}
use Rattle.archive_hash_maps.proofs.Read.{one_table, table_is_read}
use Rattle.cabinet_documents.specs.Denotes.{pair_value}
use Rattle.cabinet_documents.specs.Node.{node_shape, pair_shape, KnowsNode}
use Rattle.cabinet_documents.specs.Table.{full_from}
use Rattle.cabinet_documents.proofs.TableSteps.{IsItemOf}
use Rattle.cabinet_archives.specs.Hashed.{table_shape, HasBucket}
use Rattle.cabinet_archives.specs.Keyed.{HasPair, knows_pairs}
use Rattle.cabinet_archives.proofs.PairPositions.{one_pair, pair_node}
use Rattle.cabinet_archives.proofs.Pairs.{entries_of_pairs, got_read}
use Rattle.cabinet_archives.proofs.Tables.{full_are, controls_long}
use Rattle.cabinet_archives.proofs.TableLookups.{pair_size}

module _ (bytes : List ℕ) where
  -- ---- a key leads to one position

  pub one_bucket : (pos : ℕ) (k : List ℕ) {to other : ℕ} → HasBucket bytes pos k to → HasBucket bytes pos k other → to ≡ other
  one_bucket pos k {other = other} x y =
      let same = one_table bytes pair_shape pos y.buckets x.buckets y.map x.map in
      one_pair bytes (item_positions pair_shape x.buckets) k x.pair (subst (λ b. HasPair bytes (item_positions pair_shape b) k other) same y.pair)

  -- ---- the bucket of a pair

  -- there is one item i
  item_is : (pos i q x : ℕ) (b : Buckets) → IsTableAt bytes pair_shape pos b → slice_get (item_positions pair_shape b) i ≡ Some x → IsItemOf bytes pos i q → x ≡ q
  item_is pos i q x b (has_none none is) there item = let nothing = sym (ap (λ c. slice_get (item_positions pair_shape c) i) is) ∙ there in absurd (cc)
  item_is pos i q x b (has_buckets some leads places fewer controls within room are count) there item =
      let long = controls_long b are in
      let m = item b.target leads in
      let listed : full_from 0 (take (word_at bytes (pos + 8)) (window bytes b.target (control_count (word_at bytes (pos + 8))))) ≡ full_places b =
      ap (λ n. full_from 0 (take n (window bytes b.target (control_count n)))) places ∙ (ap (λ cs. full_from 0 (take b.cap cs)) (sym controls) ∙ full_are b long) in
      let place : slice_get (full_places b) i ≡ Some m.place = ap (λ ps. slice_get ps i) (sym listed) ∙ m.among in
      let both = sym there ∙ got_read (item_position pair_shape b.target) (full_places b) i m.place place in
      let same : x ≡ item_position pair_shape b.target m.place = cc in
      same ∙ (ap (λ n. b.target - (m.place + 1) * n) pair_size ∙ sym m.is)

  pub record PairBucket (pos : ℕ) (k : List ℕ) (value_pos : ℕ) (value : Value) : Type 0 where
    pub bucket : HasBucket bytes pos k value_pos
    pub held : HeldAt node_shape KnowsNode bytes value_pos value

  -- of the first pair with a key, whose node stands behind its key
  pub pair_bucket : (pos : ℕ) (vs : Values) → HeldAt table_shape knows_pairs bytes pos (group vs) → (k : List ℕ) (number pair_pos value_pos : ℕ) (value : Value) → value_in number vs ≡ Some (pair_value k value)
      → ((i : ℕ) (other : Value) → i < number → value_in i vs ≡ Some (pair_value k other) → ⊥) → IsItemOf bytes pos number pair_pos → value_pos ≡ pair_pos + 8 → PairBucket pos k value_pos value
  pair_bucket pos vs h k number pair_pos value_pos value there first item behind =
      let m : IsTableOf pair_shape knows_pairs bytes pos (group vs) = table_is_read pair_shape knows_pairs bytes pos (group vs) h in
      let ps = item_positions pair_shape m.buckets in
      let n = pair_node bytes ps k vs (entries_of_pairs bytes ps vs m.items) number pair_pos value_pos value there first (λ p e. item_is pos number pair_pos p m.buckets m.table e item) behind in
      record { bucket = record { buckets = m.buckets; map = m.table; pair = n.pair }; held = n.held }
