-- The bytes after a leaf is put in the place of a node.
use Rattle.std.specs.Prelude.{◌≡◌, ℕ, ◌+◌, List, length}
use Rattle.archive_shape.specs.Bytes.{overwrite}
use Rattle.archive_forms_laws.specs.Text.{LiesAt}
use Rattle.cabinet_text_grammar.specs.Tree.{Leaf, truth, number, text}
use Rattle.cabinet_text_grammar.specs.Answering.{Answer, done}
use Rattle.cabinet_documents.specs.Node.{own_bytes}

-- the own bytes of the leaf that the node at `pos` is begin at `start`: after its tag, or where its text lies
abbrev pub BeginsAt : List ℕ → ℕ → Leaf → ℕ → Type 0
BeginsAt bytes pos (truth b) start = start ≡ pos + 1
BeginsAt bytes pos (number n) start = start ≡ pos + 8
BeginsAt bytes pos (text t) start = LiesAt bytes (pos + 4) start (length t)

-- a leaf is written over that of the node at `pos`, and all other bytes are unchanged
pub record IsPut (bytes : List ℕ) (pos : ℕ) (new : Leaf) (after : List ℕ) : Type 0 where
  pub start : ℕ
  pub begins : BeginsAt bytes pos new start
  pub is : after ≡ overwrite bytes start (own_bytes new)

-- an edit that is done writes its leaf, and no other edit writes anything
abbrev pub PutLeaves : List ℕ → ℕ → Leaf → Answer → List ℕ → Type 0
PutLeaves bytes pos new done after = IsPut bytes pos new after
PutLeaves bytes pos new _ after = after ≡ bytes
