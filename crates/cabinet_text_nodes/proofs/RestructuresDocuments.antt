-- Edits of documents that add, replace and remove nodes.
use Rattle.std.proofs.Common.{◌≡◌, ◌+◌, ◌≤◌, true, if◌then◌else◌, List, [], ◌∷◌, All, Result, Ok, Err, OnErr, Global, arith, refl, sym, ap, ◌∙◌, subst}
use Rattle.std.specs.Prelude.{nat_le}
use Rattle.std.specs.Result.{result_unwrap_or}
use Rattle.std.specs.declared.alloc.AllocError.{AllocError}
use Rattle.std.proofs.lemmas.Bool.Decides.{nat_tests}
use Rattle.std.proofs.lemmas.List.Elements.{All-nil}
use Rattle.cabinet_text_grammar.specs.Line.{IsStep}
use Rattle.cabinet_text_grammar.specs.Path.{Step}
use Rattle.cabinet_text_grammar.specs.Tree.{Tree, IsLegal, depth}
use Rattle.cabinet_text_grammar.specs.Wholes.{wholes_of, IsTable, IsDocument}
use Rattle.cabinet_text_grammar.specs.Restructuring.{Edited, edited, missing, refused, in_place_of, put_step, at_last, if_shallow, put, insert, remove}
use Rattle.cabinet_text_grammar.specs.RestructuringLaws.{IsCounted, StaysDocument}
use Rattle.cabinet_text_grammar.proofs.Restructured.{if_without, shallow, put_keeps_document, insert_keeps_document, remove_keeps_document}
use Rattle.cabinet_text_grammar.proofs.Tables.{document_table}
use Rattle.cabinet_text_nodes.specs.Restructures.{Becomes, BecomesOrStays, limited, edit_of, IsRootAlone, EditsNode, CountsNode, ReplacesRoot}
use Rattle.cabinet_text_nodes.specs.View.{node_tree, table_of}
use Rattle.cabinet_text_nodes.specs.declared.answer.EditAnswer.{EditAnswer}
use Rattle.cabinet_text_nodes.specs.declared.answer.EditAnswer.TheVariants.{Done, Missing, Refused}
use Rattle.cabinet_text_nodes.specs.declared.node.Node.{Node}
use Rattle.cabinet_text_nodes.specs.declared.restructuring.walking.Edit.TheVariants as edit
use Rattle.cabinet_text_nodes.proofs.Entries.{legal_known}
use Rattle.cabinet_text_nodes.proofs.NewNodes.{new_alone}
use Rattle.cabinet_text_nodes.proofs.RestructuresCounts.{legal_counted}
use Rattle.cabinet_text_nodes.proofs.RestructuresSteps.{IsText, are_steps}

-- inside no containers, the limit is that of a document
pub limited_document : (e : Edited Tree) → limited 0 e ≡ if_shallow e
limited_document (edited t) =
    let same : 0 + depth t ≡ depth t = omega arith in
    ap (λ d. if nat_le d 64 then edited t else refused) same
limited_document missing = refl
limited_document refused = refl

-- a document has these wholes
abbrev pub HasTable : List Tree → Tree → Type 0
HasTable table t = IsDocument t × (wholes_of t ≡ table)

-- where the law of an edit holds, a document with the same wholes is there after it
pub still_document : {t u : Tree} {table : List Tree} (e : Edited Tree) (r : Result EditAnswer AllocError) → IsDocument t → wholes_of t ≡ table
    → ((v : Tree) → e ≡ edited v → u ≡ v → StaysDocument t v) → BecomesOrStays e r t u → HasTable table u
still_document (edited v) (Ok Done) is wholes law h =
    let stays = law v refl h in
    (subst IsDocument (sym h) stays.document, ap wholes_of h ∙ stays.wholes ∙ wholes)
still_document (edited v) (Ok Missing) is wholes law h = absurd h
still_document (edited v) (Ok Refused) is wholes law h = absurd h
still_document missing (Ok Done) is wholes law h = absurd h
still_document missing (Ok Missing) is wholes law h = (subst IsDocument (sym h) is, ap wholes_of h ∙ wholes)
still_document missing (Ok Refused) is wholes law h = absurd h
still_document refused (Ok Done) is wholes law h = absurd h
still_document refused (Ok Missing) is wholes law h = absurd h
still_document refused (Ok Refused) is wholes law h = (subst IsDocument (sym h) is, ap wholes_of h ∙ wholes)
still_document e (Err x) is wholes law h = (subst IsDocument (sym h) is, ap wholes_of h ∙ wholes)

-- the root of a document without wholes is new
pub root_alone : (ns : List Node) (n : Node) → IsDocument (node_tree (table_of ns) n) → wholes_of (node_tree (table_of ns) n) ≡ table_of ns
    → wholes_of (node_tree (table_of ns) n) ≡ [] → IsRootAlone (node_tree (table_of ns) n) n
root_alone ns n is wholes none =
    let same = ap (λ table. node_tree table n) (sym none ∙ wholes) in
    let legal = subst IsLegal (sym same) is.0 in
    let known = legal_known [] n legal in
    (((known, subst (λ t. depth t ≤ 64) (sym same) is.1), legal), λ table. new_alone table n known ∙ same)

-- an edit that refuses what is too deep refuses nothing where nothing gets too deep
within_limit : (e : Edited Tree) → ((v : Tree) → e ≡ edited v → depth v ≤ 64) → limited 0 e ≡ e
within_limit (edited v) h =
    let fits : nat_le (0 + depth v) 64 ≡ true = grind (arith, nat_tests, h v refl) in
    ap (λ b. if b then edited v else refused) fits
within_limit missing h = refl
within_limit refused h = refl

module _ (es : List Node) (root after : Node) (r : Result EditAnswer AllocError) (is : IsDocument (node_tree (table_of es) root))
    (wholes : wholes_of (node_tree (table_of es) root) ≡ table_of es) where
  is_table : IsTable (table_of es)
  is_table = subst IsTable wholes (document_table (node_tree (table_of es) root) is)

  module _ (step : Step) (rest : List Step) where
    module _ (new : Tree) (n : Node) (alone : IsRootAlone new n) (none : wholes_of new ≡ []) where
      legal_new : IsLegal new
      legal_new = subst IsLegal (alone.1 []) alone.0.1

      module _ (alloc : Global) where
        pub puts : EditsNode es 0 root after step rest (edit.Put alloc n) r
            → BecomesOrStays (put (node_tree (table_of es) root) (step ∷ rest) new) r (node_tree (table_of es) root) (node_tree (table_of es) after)
        puts edits =
            subst (λ e. BecomesOrStays e r (node_tree (table_of es) root) (node_tree (table_of es) after))
            (limited_document (at_last (edit_of (table_of es) (edit.Put alloc n)) (node_tree (table_of es) root) step rest)
            ∙ ap (λ m. put (node_tree (table_of es) root) (step ∷ rest) m) (alone.1 (table_of es)))
            (edits is_table is.0 (omega (arith, is.1)) alone.0.0)

        pub put_stays : All IsText (step ∷ rest) → EditsNode es 0 root after step rest (edit.Put alloc n) r
            → CountsNode es root after (edit.Put alloc n) → HasTable (table_of es) (node_tree (table_of es) after)
        put_stays texts edits counts =
            still_document (put (node_tree (table_of es) root) (step ∷ rest) new) r is wholes
            (λ v done same. put_keeps_document (step ∷ rest)
            (shallow (λ w. All IsStep (step ∷ rest)) (at_last (λ u s. put_step u s new) (node_tree (table_of es) root) step rest) v
            (are_steps new (node_tree (table_of es) root) step rest is.0 texts) done).0
            (node_tree (table_of es) root) new v is legal_new none done
            (subst IsCounted same (counts is_table is.0 alone.0 tt))) (puts edits)

      pub inserts : EditsNode es 0 root after step rest (edit.Insert n) r
          → BecomesOrStays (insert (node_tree (table_of es) root) (step ∷ rest) new) r (node_tree (table_of es) root) (node_tree (table_of es) after)
      inserts edits =
          subst (λ e. BecomesOrStays e r (node_tree (table_of es) root) (node_tree (table_of es) after))
          (limited_document (at_last (edit_of (table_of es) (edit.Insert n)) (node_tree (table_of es) root) step rest)
          ∙ ap (λ m. insert (node_tree (table_of es) root) (step ∷ rest) m) (alone.1 (table_of es)))
          (edits is_table is.0 (omega (arith, is.1)) alone.0.0)

      pub insert_stays : EditsNode es 0 root after step rest (edit.Insert n) r → CountsNode es root after (edit.Insert n)
          → HasTable (table_of es) (node_tree (table_of es) after)
      insert_stays edits counts =
          still_document (insert (node_tree (table_of es) root) (step ∷ rest) new) r is wholes
          (λ v done same. insert_keeps_document (step ∷ rest) (node_tree (table_of es) root) new v is legal_new none done
          (subst IsCounted same (counts is_table is.0 alone.0 tt))) (inserts edits)

    pub removes : EditsNode es 0 root after step rest edit.Remove r
        → BecomesOrStays (remove (node_tree (table_of es) root) (step ∷ rest)) r (node_tree (table_of es) root) (node_tree (table_of es) after)
    removes edits =
        subst (λ e. BecomesOrStays e r (node_tree (table_of es) root) (node_tree (table_of es) after))
        (within_limit (remove (node_tree (table_of es) root) (step ∷ rest))
        (λ v done. (remove_keeps_document (node_tree (table_of es) root) v (step ∷ rest) is done).document.1))
        (edits is_table is.0 (omega (arith, is.1)) tt)

    pub remove_stays : EditsNode es 0 root after step rest edit.Remove r → HasTable (table_of es) (node_tree (table_of es) after)
    remove_stays edits =
        still_document (remove (node_tree (table_of es) root) (step ∷ rest)) r is wholes
        (λ v done same. remove_keeps_document (node_tree (table_of es) root) v (step ∷ rest) is done) (removes edits)

-- a removal has an answer
pub answered : (t u : Tree) (e : Edited Tree) (r : Result EditAnswer AllocError) (other : EditAnswer) → OnErr r ⊥ → BecomesOrStays e r t u
    → Becomes e (result_unwrap_or r other) t u
answered t u e (Ok r) other none h = h
answered t u e (Err x) other none h = absurd none

-- in the place of the root
module _ (es : List Node) (root after : Node) (r : EditAnswer) (is : IsDocument (node_tree (table_of es) root))
    (wholes : wholes_of (node_tree (table_of es) root) ≡ table_of es) (new : Tree) (n : Node) (alone : IsRootAlone new n) where
  pub replaces : ReplacesRoot es root after n r
      → Becomes (put (node_tree (table_of es) root) [] new) r (node_tree (table_of es) root) (node_tree (table_of es) after)
  replaces h =
      subst (λ e. Becomes e r (node_tree (table_of es) root) (node_tree (table_of es) after))
      (limited_document (in_place_of (node_tree (table_of es) root) (node_tree (table_of es) n))
      ∙ ap (λ m. put (node_tree (table_of es) root) [] m) (alone.1 (table_of es)))
      (h (subst IsTable wholes (document_table (node_tree (table_of es) root) is)) is.0 alone.0.0)

  pub replace_stays : wholes_of new ≡ [] → ReplacesRoot es root after n r → HasTable (table_of es) (node_tree (table_of es) after)
  replace_stays none h =
      still_document (put (node_tree (table_of es) root) [] new) (Ok r) is wholes
      (λ v done same. put_keeps_document [] (All-nil IsStep) (node_tree (table_of es) root) new v is (subst IsLegal (alone.1 []) alone.0.1) none done
      (legal_counted v (shallow IsLegal (in_place_of (node_tree (table_of es) root) new) v
      (if_without IsLegal (wholes_of (node_tree (table_of es) root)) new (λ e. subst IsLegal (alone.1 []) alone.0.1)) done).0)) (replaces h)
