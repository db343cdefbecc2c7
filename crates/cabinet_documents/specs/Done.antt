-- When an edit of a document is done.
use Rattle.std.specs.Prelude.{◌≡◌, true, false, List, Some}
use Rattle.cabinet_text_grammar.specs.Tree.{Leaf, Tree, leaf}
use Rattle.cabinet_text_grammar.specs.Path.{Step, node_at, enters}
use Rattle.cabinet_text_grammar.specs.Answering.{fits}

-- the node at the path is a leaf that the new leaf fits, and the path leads into no whole
pub record IsDone (t : Tree) (path : List Step) (new : Leaf) : Type 0 where
  pub old : Leaf
  pub there : node_at t path ≡ Some (leaf old)
  pub outside : enters t path ≡ false
  pub fitting : fits old new ≡ true
