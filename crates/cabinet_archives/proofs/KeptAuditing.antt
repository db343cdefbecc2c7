-- What an audit finds of a kept map, from what it finds of its table and of the nodes in it.
use Rattle.std.proofs.Common.{◌≡◌, ℕ, ◌+◌, ◌≤◌, Bor, List, map, Ok, Err}
use Rattle.std.specs.Prelude.{⊤, All}
use Rattle.archive_shape_layout.specs.Shape.Shape.{text}
use Rattle.archive_shape_layout.specs.Value.{Value}
use Rattle.archive_shape_layout.specs.Content.{members}
use Rattle.archive_shape_layout.specs.Content.Part.{at}
use Rattle.archive_shape.specs.declared.references.refs.Ref.{Ref}
use Rattle.archive_forms_values.specs.Parts.{HasValue}
use Rattle.archive_hash_maps.specs.Maps.{value_at}
use Rattle.cabinet_documents.specs.Audit.{Unsound, kept_faults}
use Rattle.cabinet_documents.specs.Node.{node_names, node_shape, KnowsNode}
use Rattle.cabinet_documents.specs.Table.{kept_at, table_of}
use Rattle.cabinet_documents.specs.Walk.{Stop, Walks}
use Rattle.archive_index.specs.Maps.{IndexMap, IsMapAt, IsMapOf, entry_positions}
use Rattle.cabinet_archived.specs.declared.node.ArchivedNode.{ArchivedNode}
use Rattle.cabinet_archives.specs.declared.opening.refusal.OpenRefusal.{OpenRefusal}
use Rattle.cabinet_archives.specs.Kept.{index_shape}
use Rattle.cabinet_archives.specs.Keyed.{knows_pairs}
use Rattle.cabinet_archives.specs.Sound.{Audits}
use Rattle.cabinet_archives.proofs.Auditing.{HasOwn, IsNodeOf, IsLeft}
use Rattle.cabinet_archives.proofs.IndexAudit.{Told}
use Rattle.cabinet_archives.proofs.IndexPairs.{entries_of, index_in, map_of_value}
use Rattle.cabinet_archives.proofs.Pairs.{PairsIn}
use Rattle.cabinet_archives.proofs.PairsAuditing as pairs

module _ (bytes : Bor (List ℕ)) (pos : ℕ) (has : HasValue index_shape knows_pairs bytes.now pos) where
  the_map : IsMapOf text node_shape (λ _. ⊤) KnowsNode bytes.now pos has.value
  the_map = map_of_value bytes.now pos has.value has.held

  abbrev places : List ℕ
  places = entry_positions text node_shape the_map.map

  abbrev own : Value → List Unsound
  own v = kept_faults (table_of kept_at bytes.now pos v)

  walked : (depth : ℕ) (v : Value) (walk : List Stop) → Walks node_names bytes.now depth (at pos index_shape) v walk → PairsIn bytes.now depth places (own v) v walk
  walked depth v walk h = index_in bytes.now the_map.stands h

  abbrev AreNodes : List (Ref ArchivedNode) → Type 0
  AreNodes left = (m : IndexMap) → IsMapAt bytes.now text node_shape pos m → left ≡ map (λ p. value_at {V = ArchivedNode} bytes text node_shape p) (entry_positions text node_shape m)

  pub own_of : (depth : ℕ) (v : Value) (walk : List Stop) → Walks node_names bytes.now depth (at pos index_shape) v walk → HasOwn bytes.now depth walk
  own_of depth v walk h = pairs.own_of_pairs bytes pos index_shape places own walked depth v walk h

  -- nodes stand at all entries
  pub all_nodes : (left : List (Ref ArchivedNode)) → AreNodes left → All (IsNodeOf bytes) left
  unfolding the_map
  all_nodes left values = pairs.all_nodes bytes places (members has.value) (entries_of bytes.now pos has.value has.held) left (values the_map.map the_map.stands)

  -- the table's own faults are first
  pub unsound : (depth inner : ℕ) → inner ≡ depth + 1 → inner ≤ 64 → (r : OpenRefusal) → Told bytes pos kept_faults (Err r) → Audits bytes.now depth (at pos index_shape) (Err r)
  unsound depth inner deeper low r told = pairs.unsound bytes pos index_shape places own walked depth inner deeper low r told

  -- where it has none, all nodes are left
  pub all_left : (left : List (Ref ArchivedNode)) → Told bytes pos kept_faults (Ok tt) → AreNodes left → IsLeft bytes (at pos index_shape) 0 left
  all_left left told values = pairs.pairs_left bytes pos index_shape places own walked left told (values the_map.map the_map.stands)
