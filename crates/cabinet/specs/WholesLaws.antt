-- Archives without wholes, as a statement.
use Rattle.std.specs.Prelude.{◌≢◌, ◌↔◌, ⊤, ℕ, List}
use Rattle.archive_shape_layout.specs.Value.{Value, Values}
use Rattle.archive_shape_layout.specs.Value.Value.{group, chosen, counted}
use Rattle.archive_shape_layout.specs.Value.Values.{no_values, more_values}
use Rattle.cabinet_text_grammar.specs.Tree.{Tree}
use Rattle.cabinet_text_grammar.specs.WholesLaws.{HasNoWhole}
use Rattle.cabinet_documents.specs.Accepted.{Accepted}

-- no node in a node's value is a whole, which has the tag 9; the tags of options are 0 and 1
abbrev mutual
  pub HoldsNoWhole : Value → Type 0
  HoldsNoWhole (chosen tag vs) = (tag ≢ 9) × HoldNoWhole vs
  HoldsNoWhole (group vs) = HoldNoWhole vs
  HoldsNoWhole (counted at v) = HoldsNoWhole v
  HoldsNoWhole v = ⊤

  pub HoldNoWhole : Values → Type 0
  HoldNoWhole no_values = ⊤
  HoldNoWhole (more_values v vs) = HoldsNoWhole v × HoldNoWhole vs

-- no node in the archive of a document is a whole
abbrev pub IsWithoutWholes : List ℕ → Type 0
IsWithoutWholes bytes = (t : Tree) (a : Accepted bytes t) → HoldsNoWhole a.value

-- an archive has no whole exactly if its document has none
abbrev pub ArchiveWithoutWholes : Type 0
ArchiveWithoutWholes = (bytes : List ℕ) (t : Tree) → Accepted bytes t → IsWithoutWholes bytes ↔ HasNoWhole t
