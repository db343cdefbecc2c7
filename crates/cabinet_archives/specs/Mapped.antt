-- What calls that write the lines of parts do, and what they are given.
use Rattle.std.specs.Prelude.{◌≡◌, ℕ, ◌+◌, ◌-◌, ◌*◌, ◌<◌, ◌==◌, cond, List, [], ◌∷◌, Result, IfOk, ⊤}
use Rattle.archive_shape_layout.specs.Shape.{Shape, size_of}
use Rattle.archive_shape_layout.specs.Shape.Shape.{text}
use Rattle.archive_shape_layout.specs.Content.{Part, control_count}
use Rattle.archive_shape_layout.specs.Writing.{WriterMembers, Writes}
use Rattle.archive_shape_layout.specs.declared.error.Error.{Error}
use Rattle.archive_btree_layout.specs.Reading.{Place, HasNode, HasChild}
use Rattle.archive_btree_layout.specs.Tree.{Tree, items}
use Rattle.archive_hash_maps.specs.Tables.{Buckets}
use Rattle.cabinet_text_grammar.specs.Path.{Step}
use Rattle.cabinet_documents.specs.Node.{node_names, node_shape}
use Rattle.cabinet_archives.specs.Loading.{IsEntry}
use Rattle.cabinet_archives.specs.Mapping.{Name, Listed, listed_region, Maps, MapsAll}
use Rattle.cabinet_archives.specs.MapLines.{tallied, written}
use Rattle.cabinet_archives.specs.declared.mapping.region.RegionKind.TheVariants.{Table}
use Rattle.cabinet_archives.specs.declared.mapping.tally.Tally.{Tally}

-- after what a tally counts, the lines of all that is listed are written, and it is counted
abbrev pub WritesListed : {W A : Type 0} → WriterMembers W → List Listed → Tally → Tally → W → W → Result A Error → Type 0
WritesListed w listed old new from to result = Writes w from to (written old listed) result × IfOk result (λ _. new ≡ tallied old listed)

-- of a part
abbrev pub Mapped : {W A : Type 0} → WriterMembers W → List ℕ → Name → Part → Tally → Tally → W → W → Result A Error → Type 0
Mapped w bytes n p old new from to result =
    (listed : List Listed) → Maps node_names bytes n p old.end listed → WritesListed w listed old new from to result

-- of the parts of a part from part i on
abbrev pub MappedAll : {W A : Type 0} → WriterMembers W → List ℕ → Name → Part → ℕ → List Part → Tally → Tally → W → W → Result A Error → Type 0
MappedAll w bytes n p i ps old new from to result =
    (listed : List Listed) → MapsAll node_names bytes n p i ps old.end listed → WritesListed w listed old new from to result

-- ---- tables

-- the places and the controls of a table, if it has any
abbrev pub listed_table : Shape → Buckets → List Step → List Listed
listed_table s b path =
    cond (b.cap == 0) [] (listed_region (b.target - b.cap * size_of s) (b.cap * size_of s + control_count b.cap) (record { kind = Table; path = path }))

-- ---- search trees

-- entries with their keys side by side from a position on, and their nodes, which lie inside `outer` containers
abbrev pub HasEntries : List ℕ → (outer count key_pos node_pos : ℕ) → Type 0
HasEntries bytes outer count key_pos node_pos = (i : ℕ) → i < count → IsEntry bytes outer (key_pos + i * 8, node_pos + i * 24)

-- keys and nodes at places, which lie inside `outer` containers
abbrev pub AreEntries : List ℕ → ℕ → List Place → Type 0
AreEntries bytes outer [] = ⊤
AreEntries bytes outer (p ∷ ps) = IsEntry bytes outer (p.key, p.value) × AreEntries bytes outer ps

-- a node of a search tree on a level
pub record HasSubtree (bytes : List ℕ) (outer level pos : ℕ) : Type 0 where
  pub subtree : Tree Place
  pub node : HasNode bytes 5 text node_shape level pos subtree
  pub entries : AreEntries bytes outer (items subtree)

-- a pointer to one, or to none
pub record HasLink (bytes : List ℕ) (outer level link : ℕ) : Type 0 where
  pub subtree : Tree Place
  pub child : HasChild bytes 5 text node_shape level link subtree
  pub entries : AreEntries bytes outer (items subtree)
