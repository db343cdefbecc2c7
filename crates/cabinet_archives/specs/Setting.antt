-- The bytes after a leaf is set.
use Rattle.std.specs.Prelude.{◌≡◌, ℕ, List, length}
use Rattle.archive_shape_layout.specs.Value.{Value}
use Rattle.archive_shape.specs.Bytes.{overwrite}
use Rattle.cabinet_text_grammar.specs.Tree.{Leaf}
use Rattle.cabinet_text_grammar.specs.Path.{Step}
use Rattle.cabinet_text_grammar.specs.Answering.{Answer, done}
use Rattle.cabinet_documents.specs.Node.{own_bytes}
use Rattle.cabinet_documents.specs.OwnBytes.{OwnBytes}

-- the own bytes of the leaf at a path are those of another leaf, and all other bytes are unchanged
pub record IsWritten (bytes : List ℕ) (root : Value) (path : List Step) (new : Leaf) (after : List ℕ) : Type 0 where
  pub start : ℕ
  pub own : OwnBytes bytes root path start (length (own_bytes new))
  pub is : after ≡ overwrite bytes start (own_bytes new)

-- an edit that is done writes the own bytes of its leaf, and no other edit writes anything
abbrev pub EditLeaves : List ℕ → Value → List Step → Leaf → Answer → List ℕ → Type 0
EditLeaves bytes root path new done after = IsWritten bytes root path new after
EditLeaves bytes root path new _ after = after ≡ bytes
