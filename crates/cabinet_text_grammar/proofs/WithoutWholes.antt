-- The table of a tree is empty exactly if no node of it is a whole, and its text is then that of the root alone.
use Rattle.std.proofs.Common.{◌≡◌, List, [], ◌++◌, length, ap, subst, ◌∙◌, refl}
use Rattle.std.proofs.lemmas.Bool.{false≢true}
use Rattle.cabinet_text_grammar.specs.Tree.{Tree, leaf, shared, nothing, just, list, map, whole, Trees, no_trees, more_trees, Pairs, no_pairs, more_pairs}
use Rattle.cabinet_text_grammar.specs.Wholes.{with_wholes, with_wholes_in, with_wholes_by, IsNumbered, AreNumbered, ArePairsNumbered}
use Rattle.cabinet_text_grammar.specs.Item.{items, header, items_of_table}
use Rattle.cabinet_text_grammar.specs.Spelling.{ended, lines_of}
use Rattle.cabinet_text_grammar.specs.WholesLaws.{HasNoWhole, HaveNoWhole, PairsHaveNoWhole, TextWithoutWholes}
use Rattle.cabinet_text_grammar.proofs.Tables.{numbered_wholes}

-- a tree without wholes adds none to a table
mutual
  pub none : (t : Tree) (table : List Tree) → HasNoWhole t → with_wholes table t ≡ table
  none (leaf l) table h = refl
  none (shared s) table h = refl
  none nothing table h = refl
  none (just t) table h = none t table h
  none (list ts) table h = none_in ts table h
  none (map kind ps) table h = none_by ps table h
  none (whole t) table h = absurd h

  none_in : (ts : Trees) (table : List Tree) → HaveNoWhole ts → with_wholes_in table ts ≡ table
  none_in no_trees table h = refl
  none_in (more_trees t ts) table h = ap (λ x. with_wholes_in x ts) (none t table h.0) ∙ none_in ts table h.1

  none_by : (ps : Pairs) (table : List Tree) → PairsHaveNoWhole ps → with_wholes_by table ps ≡ table
  none_by no_pairs table h = refl
  none_by (more_pairs k t ps) table h = ap (λ x. with_wholes_by x ps) (none t table h.0) ∙ none_by ps table h.1

-- a whole has no number in the empty table
mutual
  unnumbered : (t : Tree) → IsNumbered [] t → HasNoWhole t
  unnumbered (leaf l) h = tt
  unnumbered (shared s) h = tt
  unnumbered nothing h = tt
  unnumbered (just t) h = unnumbered t h
  unnumbered (list ts) h = unnumbered_in ts h
  unnumbered (map kind ps) h = unnumbered_by ps h
  unnumbered (whole t) h = absurd (false≢true h)

  unnumbered_in : (ts : Trees) → AreNumbered [] ts → HaveNoWhole ts
  unnumbered_in no_trees h = tt
  unnumbered_in (more_trees t ts) h = (unnumbered t h.0, unnumbered_in ts h.1)

  unnumbered_by : (ps : Pairs) → ArePairsNumbered [] ps → PairsHaveNoWhole ps
  unnumbered_by no_pairs h = tt
  unnumbered_by (more_pairs k t ps) h = (unnumbered t h.0, unnumbered_by ps h.1)

pub text_without_wholes : TextWithoutWholes
text_without_wholes t = record {
  table = ((λ h. none t [] h), λ e. unnumbered t (subst (λ table. IsNumbered table t) e (numbered_wholes [] t)));
  text = λ h. ap (λ table. ended (lines_of (header (length table) ++ (items_of_table table ++ items table t)))) (none t [] h);
}
