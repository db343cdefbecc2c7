-- The own bytes of a leaf: those that an edit may write.
use Rattle.std.specs.Prelude.{◌≡◌, ℕ, true, List, [], ◌∷◌, ◌++◌, length, Some, ◌⊎◌}
use Rattle.std.specs.Int.{w64}
use Rattle.archive_shape_layout.specs.Shape.Shape.{truth, number, text}
use Rattle.archive_shape_layout.specs.Shape.Pointee.{str}
use Rattle.archive_shape_layout.specs.Value.{Value, Values}
use Rattle.archive_shape_layout.specs.Value.Value.{group}
use Rattle.archive_shape_layout.specs.Content.{Part, content_of}
use Rattle.archive_shape_layout.specs.Content.Label.{written}
use Rattle.archive_shape_layout.specs.Content.Part.{at, behind}
use Rattle.archive_shape_layout.specs.Content.Content.{plain}
use Rattle.archive_shape_layout.specs.Path.{Stands, value_in}
use Rattle.cabinet_text_grammar.specs.Path.{Step, key, place, inside}
use Rattle.cabinet_documents.specs.Node.{node_names}
use Rattle.cabinet_documents.specs.Denotes.{tagged_value, pair_value}
use Rattle.cabinet_documents.specs.Audit.{root_part}

-- a path of a document leads from a node's value to another node's value, and `inner` is the same path in the layout
pub data LeadsTo : Value → List Step → List ℕ → Value → Type 0 where
  leads_here : {v w : Value} {path : List Step} {inner : List ℕ} → v ≡ w → path ≡ [] → inner ≡ [] → LeadsTo v path inner w
  leads_inside :
      {v w u : Value} {path rest : List Step} {inner more : List ℕ}
      → v ≡ tagged_value 4 (tagged_value 1 u)
      → path ≡ inside ∷ rest
      → inner ≡ 0 ∷ (0 ∷ more)
      → LeadsTo u rest more w
      → LeadsTo v path inner w
  leads_place :
      {v w u : Value} {vs : Values} {i : ℕ} {path rest : List Step} {inner more : List ℕ}
      → v ≡ tagged_value 5 (group vs)
      → value_in i vs ≡ Some u
      → path ≡ place i ∷ rest
      → inner ≡ 0 ∷ (i ∷ more)
      → LeadsTo u rest more w
      → LeadsTo v path inner w
  -- the tags of the three kinds of map
  leads_key :
      {v w u : Value} {vs : Values} {i tag : ℕ} {k : List ℕ} {path rest : List Step} {inner more : List ℕ}
      → v ≡ tagged_value tag (group vs)
      → (tag ≡ 6) ⊎ ((tag ≡ 7) ⊎ (tag ≡ 8))
      → value_in i vs ≡ Some (pair_value k u)
      → path ≡ key k ∷ rest
      → inner ≡ 0 ∷ (i ∷ (1 ∷ more))
      → LeadsTo u rest more w
      → LeadsTo v path inner w

-- the `size` bytes from `start` on are all of a part: a truth value's byte, a number's eight bytes, or a text's bytes,
-- inline or out of line
pub data IsOwn (bytes : List ℕ) (start size : ℕ) : Part → Type 0 where
  own_truth : {p : Part} → p ≡ at start truth → size ≡ 1 → IsOwn bytes start size p
  own_number : {p : Part} → p ≡ at start (number w64 true) → size ≡ 8 → IsOwn bytes start size p
  own_inline : {p : Part} {s : List ℕ} → p ≡ at start text → content_of node_names bytes p ≡ plain (written s) [] → size ≡ length s → IsOwn bytes start size p
  own_behind : {p : Part} → p ≡ behind start str size → IsOwn bytes start size p

-- the bytes are the own bytes of the leaf at a path: those of the part at its payload's place
pub record OwnBytes (bytes : List ℕ) (root : Value) (path : List Step) (start size : ℕ) : Type 0 where
  pub node : Value
  pub inner : List ℕ
  pub leads : LeadsTo root path inner node
  pub part : Part
  pub payload : Value
  pub stands : Stands node_names bytes part payload 0 [] [] (root_part bytes) root (inner ++ 0 ∷ [])
  pub own : IsOwn bytes start size part
