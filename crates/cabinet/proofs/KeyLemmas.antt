-- A map in an archive answers a key exactly if it is among its pairs.
use Rattle.std.proofs.Common.{◌≡◌, ◌∙◌, ℕ, List, [], ◌∷◌, Option, Some, None, refl, sym, ap, subst}
use Rattle.std.proofs.lemmas.Option.{none-some, same_Some}
use Rattle.cabinet_text_grammar.specs.Answering.{head, head_of, missing, answer, if_there}
use Rattle.cabinet_text_grammar.specs.Item.{Item}
use Rattle.cabinet_text_grammar.specs.PairsLaws.{AnswersKey, MapAnswersItsPairs, HasPair}
use Rattle.cabinet_text_grammar.specs.Path.{Step, key, node_at}
use Rattle.cabinet_text_grammar.specs.Tree.{Tree, map, Pairs, IsLegal}
use Rattle.cabinet_text_nodes.specs.Answers.{Tells}
use Rattle.cabinet_text_nodes.specs.View.{line_of}
use Rattle.cabinet_text_nodes.specs.declared.answer.Asked.{Asked}
use Rattle.cabinet_text_nodes.specs.declared.answer.Asked.TheVariants.{Answered, Missing, Wrong}
use Rattle.cabinet_text_nodes.specs.declared.line.Line.{Line}
use Rattle.cabinet_text_nodes.proofs.Paths.{then_at, first_step, legal_behind}
use Rattle.cabinet_documents.specs.Accepted.{Accepted}
use Rattle.cabinet_documents.proofs.Sound.{one_document_law}
use Rattle.cabinet_archives.proofs.Stepping.{goes_on_at}
use Rattle.cabinet.specs.KeyLaws.{AsksForKey, HasKey, TellsKey, ArchiveAnswersItsPairs}

-- what a path leads to in a legal tree is legal
legal_at : (path : List Step) (t u : Tree) → IsLegal t → node_at t path ≡ Some u → IsLegal u
legal_at [] t u legal there = subst IsLegal (same_Some t u there) legal
legal_at (s ∷ path) t u legal there = by (node_at t (s ∷ [])) (λ v e. legal_behind t s v legal e) (λ v l e. legal_at path v u l e) (sym (first_step t s path) ∙ there)
  where
    by : (found : Option Tree) → ((v : Tree) → found ≡ Some v → IsLegal v) → ((v : Tree) → IsLegal v → node_at v path ≡ Some u → IsLegal u) → then_at found path ≡ Some u → IsLegal u
    by None each rest e = absurd (none-some u e)
    by (Some v) each rest e = rest v (each v refl) e

is_missing : (asked : Asked) → Tells asked missing → asked ≡ Missing
is_missing Answered h = absurd h
is_missing Missing h = refl
is_missing Wrong h = absurd h

is_answered : (asked : Asked) (i : Item) → Tells asked (head i) → asked ≡ Answered
is_answered Answered i h = refl
is_answered Missing i h = absurd h
is_answered Wrong i h = absurd h

module _ (bytes : List ℕ) (question : Line) (asked : Asked) (k : List ℕ) (ps : Pairs) where
  -- by the node that the key leads to, if it leads to one
  tells_by : (found : Option Tree)
      → ((u : Tree) → found ≡ Some u → HasPair k u ps)
      → ((t : Tree) → HasPair k t ps → (u : Tree) × (found ≡ Some u))
      → ((d t : Tree) → Accepted bytes d → HasPair k t ps → answer d (line_of question) ≡ head (head_of t))
      → Tells asked (if_there found (λ u. head (head_of u)))
      → TellsKey bytes question asked k ps
  tells_by None of_pair is_there own tells =
      let never : HasKey k ps → ⊥ = λ h. let u = is_there h.0 h.1 in none-some u.0 u.1 in
      let lost = is_missing asked tells in
      record {
        answered = ((λ e. let never = sym e ∙ lost in absurd (cc)), λ h. absurd (never h));
        missing = ((λ e. never), λ h. lost);
        own = own;
      }
  tells_by (Some u) of_pair is_there own tells =
      let there : HasKey k ps = (u, of_pair u refl) in
      let told = is_answered asked (head_of u) tells in
      record {
        answered = ((λ e. there), λ h. told);
        missing = ((λ e. let never = sym e ∙ told in absurd (cc)), λ h. absurd (h there));
        own = own;
      }

  pub tells_key : (a : AsksForKey bytes question k ps) → AnswersKey a.kind ps k → Tells asked (answer a.document (line_of question)) → TellsKey bytes question asked k ps
  tells_key a answers tells =
      let leads = goes_on_at a.path (key k ∷ []) a.document ∙ ap (λ found. then_at found (key k ∷ [])) a.there in
      let is : answer a.document (line_of question) ≡ if_there (node_at (map a.kind ps) (key k ∷ [])) (λ u. head (head_of u)) =
      ap (answer a.document) a.asks ∙ ap (λ found. if_there found (λ u. head (head_of u))) leads in
      let legal = legal_at a.path a.document (map a.kind ps) a.accepted.document.0 a.there in
      tells_by (node_at (map a.kind ps) (key k ∷ [])) answers.of_pair answers.is_there
      (λ d t accepted pair.
      ap (λ e. answer e (line_of question)) (one_document_law bytes d a.document accepted a.accepted) ∙ is ∙ ap (λ found. if_there found (λ u. head (head_of u))) (answers.is_own legal t pair))
      (subst (Tells asked) is tells)

pub archive_answers_its_pairs_law : MapAnswersItsPairs → ArchiveAnswersItsPairs
archive_answers_its_pairs_law law bytes question asked told k ps a = tells_key bytes question asked k ps a (law a.kind ps k) (told a.document a.accepted)
