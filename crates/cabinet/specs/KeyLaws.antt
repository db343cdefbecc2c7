-- What an archive answers of the keys of its maps, as a statement.
use Rattle.std.specs.Prelude.{◌≡◌, ◌↔◌, ℕ, List, [], ◌∷◌, ◌++◌, Some}
use Rattle.cabinet_text_grammar.specs.Answering.{answer, head, head_of}
use Rattle.cabinet_text_grammar.specs.Keys.{MapKind}
use Rattle.cabinet_text_grammar.specs.Line.{get}
use Rattle.cabinet_text_grammar.specs.PairsLaws.{HasPair}
use Rattle.cabinet_text_grammar.specs.Path.{Step, key, node_at}
use Rattle.cabinet_text_grammar.specs.Tree.{Tree, map, Pairs}
use Rattle.cabinet_text_nodes.specs.View.{line_of}
use Rattle.cabinet_text_nodes.specs.declared.answer.Asked.{Asked}
use Rattle.cabinet_text_nodes.specs.declared.answer.Asked.TheVariants.{Answered, Missing}
use Rattle.cabinet_text_nodes.specs.declared.line.Line.{Line}
use Rattle.cabinet_documents.specs.Accepted.{Accepted}
use Rattle.cabinet.specs.Calls.{TellsAnswer}

-- the question is for the key k of a map in the archive, and the map has these pairs
pub record AsksForKey (bytes : List ℕ) (question : Line) (k : List ℕ) (ps : Pairs) : Type 0 where
  pub document : Tree
  pub accepted : Accepted bytes document
  pub path : List Step
  pub kind : MapKind
  pub there : node_at document path ≡ Some (map kind ps)
  pub asks : line_of question ≡ get (path ++ key k ∷ [])

-- some pair has the key
abbrev pub HasKey : List ℕ → Pairs → Type 0
HasKey k ps = (t : Tree) × HasPair k t ps

-- the key is answered exactly if a pair has it, by the head of that pair's node, and is missing otherwise
pub record TellsKey (bytes : List ℕ) (question : Line) (asked : Asked) (k : List ℕ) (ps : Pairs) : Type 0 where
  pub answered : asked ≡ Answered ↔ HasKey k ps
  pub missing : asked ≡ Missing ↔ (HasKey k ps → ⊥)
  pub own : (d t : Tree) → Accepted bytes d → HasPair k t ps → answer d (line_of question) ≡ head (head_of t)

-- so of each map and key that the question is for
abbrev pub TellsKeys : List ℕ → Line → Asked → Type 0
TellsKeys bytes question asked = (k : List ℕ) (ps : Pairs) → AsksForKey bytes question k ps → TellsKey bytes question asked k ps

-- a map in an archive answers a key exactly if it is among its pairs
abbrev pub ArchiveAnswersItsPairs : Type 0
ArchiveAnswersItsPairs = (bytes : List ℕ) (question : Line) (asked : Asked) → TellsAnswer bytes question asked → TellsKeys bytes question asked
