-- The node that a path leads to in an archived document.
use Rattle.std.specs.Prelude.{◌≡◌, ℕ, List, Some, None}
use Rattle.archive_shape_layout.specs.Value.{Value}
use Rattle.archive_shape_layout.specs.Content.Part.{at}
use Rattle.archive_shape.specs.Key.{HeldAt}
use Rattle.archive_forms_values.specs.Parts.{HasValue}
use Rattle.cabinet_text_grammar.specs.Tree.{Tree}
use Rattle.cabinet_text_grammar.specs.Path.{Step, node_at}
use Rattle.cabinet_documents.specs.Node.{node_shape, KnowsNode}
use Rattle.cabinet_documents.specs.Denotes.{Denotes}
use Rattle.cabinet_archives.specs.Sound.{IsSoundPart}
use Rattle.cabinet_archives.specs.Way.{GoesTo}

-- `is` is true of every document whose root is the node at `pos`
abbrev pub OfDocument : List ℕ → ℕ → (Tree → Type 0) → Type 0
OfDocument bytes pos is = (v : Value) (t : Tree) → HeldAt node_shape KnowsNode bytes pos v → Denotes v t → is t

-- the node at `pos` denotes `t`
pub record IsNode (bytes : List ℕ) (pos : ℕ) (t : Tree) : Type 0 where
  pub value : Value
  pub held : HeldAt node_shape KnowsNode bytes pos value
  pub denotes : Denotes value t

-- the node at `pos` is the one that a path leads to in a document
pub record StandsIn (bytes : List ℕ) (pos : ℕ) (path : List Step) (t : Tree) : Type 0 where
  pub tree : Tree
  pub there : node_at t path ≡ Some tree
  pub node : IsNode bytes pos tree

-- the path leads from the root at `root` to the node at `to`
pub record Reaches (bytes : List ℕ) (root : ℕ) (path : List Step) (to : ℕ) : Type 0 where
  pub there : HasValue node_shape KnowsNode bytes to
  pub sound : IsSoundPart bytes (at to node_shape)
  pub way : GoesTo bytes root path to
  pub stands : OfDocument bytes root (StandsIn bytes to path)

-- the path leads to no node
abbrev pub ReachesNone : List ℕ → ℕ → List Step → Type 0
ReachesNone bytes root path = OfDocument bytes root (λ t. node_at t path ≡ None)
