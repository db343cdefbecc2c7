-- Laws of refusals, as statements.
use Rattle.std.specs.Prelude.{◌≡◌, ℕ, List}
use Rattle.cabinet_text_grammar.specs.Tree.{Tree}
use Rattle.cabinet_documents.specs.Accepted.{Accepted}
use Rattle.cabinet_documents.specs.Audit.{Refusal, out_of_memory, IsRefusedFor}

-- accepted bytes are refused only with `out_of_memory`
abbrev pub AcceptedIsNotRefused : Type 0
AcceptedIsNotRefused = (bytes : List ℕ) (t : Tree) (r : Refusal) → Accepted bytes t → IsRefusedFor bytes r → r ≡ out_of_memory
