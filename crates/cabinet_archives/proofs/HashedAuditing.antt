-- What an audit finds of a hashed map, from what it finds of its table and of the nodes in it.
use Rattle.std.proofs.Common.{◌≡◌, ℕ, ◌+◌, ◌≤◌, Bor, List, map, Ok, Err}
use Rattle.std.specs.Prelude.{All}
use Rattle.archive_shape_layout.specs.Shape.Shape.{text}
use Rattle.archive_shape_layout.specs.Value.{Value}
use Rattle.archive_shape_layout.specs.Content.{members}
use Rattle.archive_shape_layout.specs.Content.Part.{at}
use Rattle.archive_shape.specs.declared.references.refs.Ref.{Ref}
use Rattle.archive_forms_values.specs.Parts.{HasValue}
use Rattle.archive_hash_maps.specs.Tables.{Buckets, item_positions, IsTableAt, IsTableOf}
use Rattle.archive_hash_maps.specs.Maps.{value_at}
use Rattle.archive_hash_maps.proofs.Roots.{places_of_value}
use Rattle.cabinet_documents.specs.Audit.{Unsound, hashed_faults}
use Rattle.cabinet_documents.specs.Node.{node_names, node_shape, pair_shape}
use Rattle.cabinet_documents.specs.Table.{hashed_at, table_of}
use Rattle.cabinet_documents.specs.Walk.{Stop, Walks}
use Rattle.cabinet_archived.specs.declared.node.ArchivedNode.{ArchivedNode}
use Rattle.cabinet_archives.specs.declared.opening.refusal.OpenRefusal.{OpenRefusal}
use Rattle.cabinet_archives.specs.Hashed.{table_shape}
use Rattle.cabinet_archives.specs.Keyed.{knows_pairs}
use Rattle.cabinet_archives.specs.Sound.{Audits}
use Rattle.cabinet_archives.proofs.Auditing.{HasOwn, IsNodeOf, IsLeft}
use Rattle.cabinet_archives.proofs.Pairs.{PairsIn, entries_of_pairs}
use Rattle.cabinet_archives.proofs.PairsAuditing as pairs
use Rattle.cabinet_archives.proofs.TableAudit.{Told}
use Rattle.cabinet_archives.proofs.TablePairs.{table_in}

module _ (bytes : Bor (List ℕ)) (pos : ℕ) (has : HasValue table_shape knows_pairs bytes.now pos) where
  the_table : IsTableOf pair_shape knows_pairs bytes.now pos has.value
  the_table = places_of_value has

  abbrev places : List ℕ
  places = item_positions pair_shape the_table.buckets

  abbrev own : Value → List Unsound
  own v = hashed_faults (table_of hashed_at bytes.now pos v)

  walked : (depth : ℕ) (v : Value) (walk : List Stop) → Walks node_names bytes.now depth (at pos table_shape) v walk → PairsIn bytes.now depth places (own v) v walk
  walked depth v walk h = table_in bytes.now the_table.table h

  abbrev AreNodes : List (Ref ArchivedNode) → Type 0
  AreNodes left = (b : Buckets) → IsTableAt bytes.now pair_shape pos b → left ≡ map (λ p. value_at {V = ArchivedNode} bytes text node_shape p) (item_positions pair_shape b)

  pub own_of : (depth : ℕ) (v : Value) (walk : List Stop) → Walks node_names bytes.now depth (at pos table_shape) v walk → HasOwn bytes.now depth walk
  own_of depth v walk h = pairs.own_of_pairs bytes pos table_shape places own walked depth v walk h

  -- nodes stand at all pairs
  pub all_nodes : (left : List (Ref ArchivedNode)) → AreNodes left → All (IsNodeOf bytes) left
  all_nodes left values = pairs.all_nodes bytes places (members has.value) (entries_of_pairs bytes.now places (members has.value) the_table.items) left (values the_table.buckets the_table.table)

  -- the table's own faults are first
  pub unsound : (depth inner : ℕ) → inner ≡ depth + 1 → inner ≤ 64 → (r : OpenRefusal) → Told bytes pos (Err r) → Audits bytes.now depth (at pos table_shape) (Err r)
  unsound depth inner deeper low r told = pairs.unsound bytes pos table_shape places own walked depth inner deeper low r told

  -- where it has none, all nodes are left
  pub all_left : (left : List (Ref ArchivedNode)) → Told bytes pos (Ok tt) → AreNodes left → IsLeft bytes (at pos table_shape) 0 left
  all_left left told values = pairs.pairs_left bytes pos table_shape places own walked left told (values the_table.buckets the_table.table)
