-- When bytes are the archive of a document.
use Rattle.std.specs.Prelude.{List, ℕ, length}
use Rattle.std.specs.List.{Contains}
use Rattle.archive_shape_layout.specs.Value.{Value}
use Rattle.archive_shape_layout.specs.Holds.{Region, Visit, HasRoot, root_position}
use Rattle.cabinet_documents.specs.Node.{node_shape, node_names}
use Rattle.cabinet_text_grammar.specs.Tree.{Tree}
use Rattle.cabinet_text_grammar.specs.Wholes.{IsDocument}
use Rattle.cabinet_documents.specs.Denotes.{Denotes}
use Rattle.cabinet_documents.specs.Walk.{Stop, Walks}
use Rattle.cabinet_documents.specs.Audit.{root_part, IsSound}

pub record Accepted (bytes : List ℕ) (t : Tree) : Type 0 where
  pub value : Value
  pub regions : List Region
  pub visits : List Visit
  pub root : HasRoot node_names bytes (root_position (length bytes) node_shape) node_shape value regions visits
  pub denotes : Denotes value t
  pub document : IsDocument t
  pub walk : List Stop
  pub walked : Walks node_names bytes 0 (root_part bytes) value walk
  pub sound : (s : Stop) → Contains walk s → IsSound bytes s
