-- Trees without wholes and their texts, as a statement.
use Rattle.std.specs.Prelude.{◌≡◌, ◌↔◌, ⊤, []}
use Rattle.cabinet_text_grammar.specs.Tree.{Tree, leaf, shared, nothing, just, list, map, whole, Trees, no_trees, more_trees, Pairs, no_pairs, more_pairs}
use Rattle.cabinet_text_grammar.specs.Wholes.{wholes_of}
use Rattle.cabinet_text_grammar.specs.Item.{items}
use Rattle.cabinet_text_grammar.specs.Spelling.{text_of, ended, lines_of}

-- no node of a tree is a whole
abbrev mutual
  pub HasNoWhole : Tree → Type 0
  HasNoWhole (leaf l) = ⊤
  HasNoWhole (shared t) = ⊤
  HasNoWhole nothing = ⊤
  HasNoWhole (just t) = HasNoWhole t
  HasNoWhole (list ts) = HaveNoWhole ts
  HasNoWhole (map kind ps) = PairsHaveNoWhole ps
  HasNoWhole (whole t) = ⊥

  pub HaveNoWhole : Trees → Type 0
  HaveNoWhole no_trees = ⊤
  HaveNoWhole (more_trees t ts) = HasNoWhole t × HaveNoWhole ts

  pub PairsHaveNoWhole : Pairs → Type 0
  PairsHaveNoWhole no_pairs = ⊤
  PairsHaveNoWhole (more_pairs k t ps) = HasNoWhole t × PairsHaveNoWhole ps

-- the table of a tree is empty exactly if no node of it is a whole, and its text is then that of the root alone
pub record TellsWholes (t : Tree) : Type 0 where
  pub table : HasNoWhole t ↔ wholes_of t ≡ []
  pub text : HasNoWhole t → text_of t ≡ ended (lines_of (items [] t))

abbrev pub TextWithoutWholes : Type 0
TextWithoutWholes = (t : Tree) → TellsWholes t
