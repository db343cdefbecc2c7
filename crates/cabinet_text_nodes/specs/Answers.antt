-- The outcomes of edits and questions, next to the answers of the grammar.
use Rattle.std.specs.Prelude.{◌≡◌, ℕ, suc, if◌then◌else◌, List, Option, Some, None}
use Rattle.std.specs.Option.{option_map}
use Rattle.std.specs.Str.{bytes_eq}
use Rattle.cabinet_text_grammar.specs.Tree.{Tree, Leaf, Pairs, no_pairs, more_pairs}
use Rattle.cabinet_text_grammar.specs.Path.{Step}
use Rattle.cabinet_text_grammar.specs.Line.{set}
use Rattle.cabinet_text_grammar.specs.Answering as answering
use Rattle.cabinet_text_nodes.specs.declared.answer.Asked.{Asked}
use Rattle.cabinet_text_nodes.specs.declared.answer.Asked.TheVariants.{Answered}
use Rattle.cabinet_text_nodes.specs.declared.answer.Asked.TheVariants as asked
use Rattle.cabinet_text_nodes.specs.declared.answer.EditAnswer.{EditAnswer}
use Rattle.cabinet_text_nodes.specs.Outcomes.{outcome_of}

-- setting a leaf has this outcome, and results in this document
pub record Sets (t : Tree) (path : List Step) (new : Leaf) (result : EditAnswer) (after : Tree) : Type 0 where
  pub answered : outcome_of result ≡ answering.answer t (set path new)
  pub left : after ≡ answering.change t path new

-- the outcome of a question agrees with its answer
abbrev pub Tells : Asked → answering.Answer → Type 0
Tells Answered (answering.head i) = Unit {0}
Tells Answered (answering.keys_are ks) = Unit {0}
Tells asked.Missing answering.missing = Unit {0}
Tells asked.Wrong answering.wrong = Unit {0}
Tells _ _ = ⊥

-- the place of the first pair that has the key
abbrev pub place_by : Pairs → List ℕ → Option ℕ
place_by no_pairs k = None
place_by (more_pairs l t ps) k = if bytes_eq l k then Some 0 else option_map (λ i. suc i) (place_by ps k)
