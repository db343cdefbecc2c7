-- Numbers of wholes in tables, and the items that tell them.
use Rattle.std.proofs.Common.{◌≡◌, ℕ, ◌<◌, ◌≤◌, true, false, List, [], ◌∷◌, ◌++◌, length, Some, None, sym, ap, ◌∙◌, refl, subst, inl, inr, arith}
use Rattle.std.specs.Prelude.{IsTrue, if◌then◌else◌, ◌==◌, ◌||◌}
use Rattle.std.proofs.lemmas.Bool.{false≢true, cases_Bool, or_left, or_right}
use Rattle.std.proofs.lemmas.Bool.Decides.{eqb_tells}
use Rattle.cabinet_text_grammar.specs.Keys.{MapKind}
use Rattle.cabinet_text_grammar.specs.Tree.{Tree, leaf, shared, nothing, just, list, map, whole, Trees, no_trees, more_trees, Pairs, no_pairs, more_pairs, count, pair_count, depth, most_depth, pairs_depth, IsLegal, AreLegal, ArePairs}
use Rattle.cabinet_text_grammar.specs.Wholes.{has, number_in, numbered, with_tree, with_wholes, with_wholes_in, with_wholes_by, IsNumbered, AreNumbered, ArePairsNumbered, IsTable, wholes_of, IsDocument}
use Rattle.cabinet_text_grammar.specs.Item.{whole_item, key_item, list_item, map_item, some_item, items, items_of, items_of_pairs}
use Rattle.cabinet_text_grammar.proofs.Equal.{itself, same_tells}

-- ---- numbers

pub number_below : (table : List Tree) (t : Tree) → IsTrue (has table t) → number_in table t < length table
number_below [] t h = absurd (false≢true h)
number_below (u ∷ table) t h =
    elim (same_tells u t) [
      | inl is ↦ rw is.0 (omega arith)
      | inr differs ↦
          let later : IsTrue (has table t) = sym (ap (λ b. b || has table t) differs.0) ∙ h in
          rw differs.0 (omega (arith, number_below table t later))
    ]

all : (n : ℕ) → (n == n) ≡ true
all n =
    elim (eqb_tells n n) [
      | inl is ↦ is.0
      | inr differs ↦ absurd (differs.1 refl)
    ]

not_all : (m n : ℕ) → n < m → (m == n) ≡ false
not_all m n below =
    elim (eqb_tells m n) [
      | inl is ↦ absurd (omega (arith, below, is.1))
      | inr differs ↦ differs.0
    ]

-- the tree that has the number of a tree is that tree
pub numbered_back : (table : List Tree) (t : Tree) → IsTrue (has table t) → numbered table (number_in table t) ≡ Some t
numbered_back [] t h = absurd (false≢true h)
numbered_back (u ∷ table) t h =
    elim (same_tells u t) [
      | inl is ↦ rw (is.0, all (length table)) (ap Some is.1)
      | inr differs ↦
          let later : IsTrue (has table t) = sym (ap (λ b. b || has table t) differs.0) ∙ h in
          rw (differs.0, not_all (length table) (number_in table t) (number_below table t later)) (numbered_back table t later)
    ]

pub some_same : (t u : Tree) → Some t ≡ Some u → t ≡ u
some_same t u h = cc

pub has_numbered : (table : List Tree) (n : ℕ) (t : Tree) → numbered table n ≡ Some t → IsTrue (has table t)
has_numbered [] n t h = cc
has_numbered (u ∷ table) n t h =
    elim (eqb_tells (length table) n) [
      | inl here ↦
          let is : u ≡ t = some_same u t (sym (ap (λ b. if b then Some u else numbered table n) here.0) ∙ h) in
          rw is (or_left _ _ (itself t))
      | inr differs ↦
          or_right _ _ (has_numbered table n t (sym (ap (λ b. if b then Some u else numbered table n) differs.0) ∙ h))
    ]

pub below_numbered : (table : List Tree) (n : ℕ) (t : Tree) → numbered table n ≡ Some t → n < length table
below_numbered [] n t h = cc
below_numbered (u ∷ table) n t h =
    elim (eqb_tells (length table) n) [
      | inl here ↦ omega (arith, here.1)
      | inr differs ↦ omega (arith, below_numbered table n t (sym (ap (λ b. if b then Some u else numbered table n) differs.0) ∙ h))
    ]

pub not_numbered : (table : List Tree) (n : ℕ) → length table ≤ n → numbered table n ≡ None
not_numbered [] n above = refl
not_numbered (u ∷ table) n above =
    elim (eqb_tells (length table) n) [
      | inl here ↦ absurd (omega (arith, here.1, above))
      | inr differs ↦ rw differs.0 (not_numbered table n (omega (arith, above)))
    ]

pub is_numbered : (table : List Tree) (n : ℕ) → n < length table → (t : Tree) × (numbered table n ≡ Some t)
is_numbered [] n below = absurd (omega (arith, below))
is_numbered (u ∷ table) n below =
    elim (eqb_tells (length table) n) [
      | inl here ↦ rw here.0 (u, refl)
      | inr differs ↦ rw differs.0 (is_numbered table n (omega (arith, below, differs.1)))
    ]

-- the number of the tree that has a number is that number
pub number_back : (table : List Tree) (n : ℕ) (t : Tree) → IsTable table → numbered table n ≡ Some t → number_in table t ≡ n
number_back [] n t is h = cc
number_back (u ∷ table) n t is h =
    elim (eqb_tells (length table) n) [
      | inl here ↦
          let same_here : u ≡ t = some_same u t (sym (ap (λ b. if b then Some u else numbered table n) here.0) ∙ h) in
          rw (same_here, itself t) here.1
      | inr differs ↦
          let later : numbered table n ≡ Some t = sym (ap (λ b. if b then Some u else numbered table n) differs.0) ∙ h in
          elim (same_tells u t) [
            | inl twice ↦ absurd (false≢true (sym is.2 ∙ ap (has table) twice.1 ∙ has_numbered table n t later))
            | inr other ↦ rw other.0 (number_back table n t is.3 later)
          ]
    ]

-- what lies in a whole is legal, and has at most 63 containers in one another
pub legal_numbered : (table : List Tree) (n : ℕ) (t : Tree) → IsTable table → numbered table n ≡ Some t → IsLegal t
legal_numbered [] n t is h = cc
legal_numbered (u ∷ table) n t is h =
    elim (eqb_tells (length table) n) [
      | inl here ↦ subst IsLegal (some_same u t (sym (ap (λ b. if b then Some u else numbered table n) here.0) ∙ h)) is.0.0
      | inr differs ↦ legal_numbered table n t is.3 (sym (ap (λ b. if b then Some u else numbered table n) differs.0) ∙ h)
    ]

pub deep_numbered : (table : List Tree) (n : ℕ) (t : Tree) → IsTable table → numbered table n ≡ Some t → depth t < 64
deep_numbered [] n t is h = cc
deep_numbered (u ∷ table) n t is h =
    elim (eqb_tells (length table) n) [
      | inl here ↦ subst (λ w. depth w < 64) (some_same u t (sym (ap (λ b. if b then Some u else numbered table n) here.0) ∙ h)) is.0.1
      | inr differs ↦ deep_numbered table n t is.3 (sym (ap (λ b. if b then Some u else numbered table n) differs.0) ∙ h)
    ]

-- ---- larger tables

pub has_more : (u : Tree) (table : List Tree) (t : Tree) → IsTrue (has table t) → IsTrue (has (u ∷ table) t)
has_more u table t h = or_right _ _ h

number_stays : (u : Tree) (table : List Tree) (t : Tree) → has table u ≡ false → IsTrue (has table t) → number_in (u ∷ table) t ≡ number_in table t
number_stays u table t new h =
    elim (same_tells u t) [
      | inl is ↦ absurd (false≢true (sym new ∙ ap (has table) is.1 ∙ h))
      | inr differs ↦ rw differs.0 refl
    ]

-- a tree whose wholes are in a table has the same items under a larger one
mutual
  pub items_stay : (u : Tree) (table : List Tree) (t : Tree) → has table u ≡ false → IsNumbered table t → items (u ∷ table) t ≡ items table t
  items_stay u table (leaf l) new is = refl
  items_stay u table (shared t) new is = refl
  items_stay u table nothing new is = refl
  items_stay u table (just t) new is = ap (λ w. some_item ∷ w) (items_stay u table t new is)
  items_stay u table (list ts) new is = ap (λ w. list_item (count ts) ∷ w) (items_stay_of u table ts new is)
  items_stay u table (map kind ps) new is = ap (λ w. map_item kind (pair_count ps) ∷ w) (items_stay_of_pairs u table ps new is)
  items_stay u table (whole t) new is = ap (λ n. whole_item n ∷ []) (number_stays u table t new is)

  items_stay_of : (u : Tree) (table : List Tree) (ts : Trees) → has table u ≡ false → AreNumbered table ts → items_of (u ∷ table) ts ≡ items_of table ts
  items_stay_of u table no_trees new are = refl
  items_stay_of u table (more_trees t ts) new are =
      ap (λ w. w ++ items_of (u ∷ table) ts) (items_stay u table t new are.0) ∙ ap (λ w. items table t ++ w) (items_stay_of u table ts new are.1)

  items_stay_of_pairs : (u : Tree) (table : List Tree) (ps : Pairs) → has table u ≡ false → ArePairsNumbered table ps → items_of_pairs (u ∷ table) ps ≡ items_of_pairs table ps
  items_stay_of_pairs u table no_pairs new are = refl
  items_stay_of_pairs u table (more_pairs k t ps) new are =
      ap (λ w. key_item k ∷ (w ++ items_of_pairs (u ∷ table) ps)) (items_stay u table t new are.0)
      ∙ ap (λ w. key_item k ∷ (items table t ++ w)) (items_stay_of_pairs u table ps new are.1)

-- a table has all that another has
abbrev pub IsPart : List Tree → List Tree → Type 0
IsPart table more = (t : Tree) → IsTrue (has table t) → IsTrue (has more t)

mutual
  pub numbered_still : (table more : List Tree) → IsPart table more → (t : Tree) → IsNumbered table t → IsNumbered more t
  numbered_still table more part (leaf l) is = tt
  numbered_still table more part (shared t) is = tt
  numbered_still table more part nothing is = tt
  numbered_still table more part (just t) is = numbered_still table more part t is
  numbered_still table more part (list ts) is = numbered_still_in table more part ts is
  numbered_still table more part (map kind ps) is = numbered_still_by table more part ps is
  numbered_still table more part (whole t) is = part t is

  pub numbered_still_in : (table more : List Tree) → IsPart table more → (ts : Trees) → AreNumbered table ts → AreNumbered more ts
  numbered_still_in table more part no_trees are = tt
  numbered_still_in table more part (more_trees t ts) are = (numbered_still table more part t are.0, numbered_still_in table more part ts are.1)

  pub numbered_still_by : (table more : List Tree) → IsPart table more → (ps : Pairs) → ArePairsNumbered table ps → ArePairsNumbered more ps
  numbered_still_by table more part no_pairs are = tt
  numbered_still_by table more part (more_pairs k t ps) are = (numbered_still table more part t are.0, numbered_still_by table more part ps are.1)

-- ---- the wholes of a tree

part_with : (table : List Tree) (t : Tree) → IsPart table (with_tree table t)
part_with table t u h =
    elim (cases_Bool (has table t)) [
      | inl is ↦ rw is h
      | inr new ↦ rw new (has_more t table u h)
    ]

has_with : (table : List Tree) (t : Tree) → IsTrue (has (with_tree table t) t)
has_with table t =
    elim (cases_Bool (has table t)) [
      | inl is ↦ rw is is
      | inr new ↦ rw new (or_left _ _ (itself t))
    ]

mutual
  pub part_wholes : (table : List Tree) (t : Tree) → IsPart table (with_wholes table t)
  part_wholes table (leaf l) u h = h
  part_wholes table (shared t) u h = h
  part_wholes table nothing u h = h
  part_wholes table (just t) u h = part_wholes table t u h
  part_wholes table (list ts) u h = part_wholes_in table ts u h
  part_wholes table (map kind ps) u h = part_wholes_by table ps u h
  part_wholes table (whole t) u h = part_with (with_wholes table t) t u (part_wholes table t u h)

  pub part_wholes_in : (table : List Tree) (ts : Trees) → IsPart table (with_wholes_in table ts)
  part_wholes_in table no_trees u h = h
  part_wholes_in table (more_trees t ts) u h = part_wholes_in (with_wholes table t) ts u (part_wholes table t u h)

  pub part_wholes_by : (table : List Tree) (ps : Pairs) → IsPart table (with_wholes_by table ps)
  part_wholes_by table no_pairs u h = h
  part_wholes_by table (more_pairs k t ps) u h = part_wholes_by (with_wholes table t) ps u (part_wholes table t u h)

mutual
  pub numbered_wholes : (table : List Tree) (t : Tree) → IsNumbered (with_wholes table t) t
  numbered_wholes table (leaf l) = tt
  numbered_wholes table (shared t) = tt
  numbered_wholes table nothing = tt
  numbered_wholes table (just t) = numbered_wholes table t
  numbered_wholes table (list ts) = numbered_wholes_in table ts
  numbered_wholes table (map kind ps) = numbered_wholes_by table ps
  numbered_wholes table (whole t) = has_with (with_wholes table t) t

  numbered_wholes_in : (table : List Tree) (ts : Trees) → AreNumbered (with_wholes_in table ts) ts
  numbered_wholes_in table no_trees = tt
  numbered_wholes_in table (more_trees t ts) = (
    numbered_still (with_wholes table t) _ (part_wholes_in (with_wholes table t) ts) t (numbered_wholes table t),
    numbered_wholes_in (with_wholes table t) ts,
  )

  numbered_wholes_by : (table : List Tree) (ps : Pairs) → ArePairsNumbered (with_wholes_by table ps) ps
  numbered_wholes_by table no_pairs = tt
  numbered_wholes_by table (more_pairs k t ps) = (
    numbered_still (with_wholes table t) _ (part_wholes_by (with_wholes table t) ps) t (numbered_wholes table t),
    numbered_wholes_by (with_wholes table t) ps,
  )

-- each tree of a list has its wholes among those before it
abbrev pub IsListed : List Tree → Type 0
IsListed [] = Unit {0}
IsListed (t ∷ table) = IsNumbered table t × IsListed table

pub listed_table : (table : List Tree) → IsTable table → IsListed table
listed_table [] is = tt
listed_table (t ∷ table) is = (is.1, listed_table table is.3)

-- the wholes in a tree of a table are in the table
pub listed_numbered : (table : List Tree) (t : Tree) → IsListed table → IsTrue (has table t) → IsNumbered table t
listed_numbered [] t is h = absurd (false≢true h)
listed_numbered (u ∷ table) t is h =
    elim (same_tells u t) [
      | inl here ↦ numbered_still table (u ∷ table) (has_more u table) t (subst (IsNumbered table) here.1 is.0)
      | inr differs ↦
          let later : IsTrue (has table t) = sym (ap (λ b. b || has table t) differs.0) ∙ h in
          numbered_still table (u ∷ table) (has_more u table) t (listed_numbered table t is.1 later)
    ]

listed_with : (table : List Tree) (t : Tree) → IsListed table → IsNumbered table t → IsListed (with_tree table t)
listed_with table t is known =
    elim (cases_Bool (has table t)) [
      | inl there ↦ rw there is
      | inr new ↦ rw new (known, is)
    ]

mutual
  pub listed_wholes : (table : List Tree) (t : Tree) → IsListed table → IsListed (with_wholes table t)
  listed_wholes table (leaf l) is = is
  listed_wholes table (shared t) is = is
  listed_wholes table nothing is = is
  listed_wholes table (just t) is = listed_wholes table t is
  listed_wholes table (list ts) is = listed_wholes_in table ts is
  listed_wholes table (map kind ps) is = listed_wholes_by table ps is
  listed_wholes table (whole t) is = listed_with (with_wholes table t) t (listed_wholes table t is) (numbered_wholes table t)

  listed_wholes_in : (table : List Tree) (ts : Trees) → IsListed table → IsListed (with_wholes_in table ts)
  listed_wholes_in table no_trees is = is
  listed_wholes_in table (more_trees t ts) is = listed_wholes_in (with_wholes table t) ts (listed_wholes table t is)

  listed_wholes_by : (table : List Tree) (ps : Pairs) → IsListed table → IsListed (with_wholes_by table ps)
  listed_wholes_by table no_pairs is = is
  listed_wholes_by table (more_pairs k t ps) is = listed_wholes_by (with_wholes table t) ps (listed_wholes table t is)

one_more_tree : (table : List Tree) (t : Tree) → IsTable table → IsLegal t → depth t < 64 → IsNumbered table t → IsTable (with_tree table t)
one_more_tree table t is legal deep known =
    elim (cases_Bool (has table t)) [
      | inl there ↦ rw there is
      | inr new ↦ rw new ((legal, deep), known, new, is)
    ]

mutual
  pub table_wholes : (table : List Tree) (t : Tree) → IsTable table → IsLegal t → depth t ≤ 64 → IsTable (with_wholes table t)
  table_wholes table (leaf l) is legal deep = is
  table_wholes table (shared t) is legal deep = is
  table_wholes table nothing is legal deep = is
  table_wholes table (just t) is legal deep = table_wholes table t is legal (omega (arith, deep))
  table_wholes table (list ts) is legal deep = table_wholes_in table ts is legal.0 (omega (arith, deep))
  table_wholes table (map kind ps) is legal deep = table_wholes_by table kind [] ps is legal.0 (omega (arith, deep))
  table_wholes table (whole t) is legal deep =
      one_more_tree (with_wholes table t) t (table_wholes table t is legal (omega (arith, deep))) legal (omega (arith, deep)) (numbered_wholes table t)

  table_wholes_in : (table : List Tree) (ts : Trees) → IsTable table → AreLegal ts → most_depth ts ≤ 64 → IsTable (with_wholes_in table ts)
  table_wholes_in table no_trees is legal deep = is
  table_wholes_in table (more_trees t ts) is legal deep =
      table_wholes_in (with_wholes table t) ts (table_wholes table t is legal.0 (omega (arith, deep))) legal.1 (omega (arith, deep))

  table_wholes_by : (table : List Tree) (kind : MapKind) (keys : List (List ℕ)) (ps : Pairs) → IsTable table → ArePairs kind keys ps → pairs_depth ps ≤ 64 → IsTable (with_wholes_by table ps)
  table_wholes_by table kind keys no_pairs is legal deep = is
  table_wholes_by table kind keys (more_pairs k t ps) is legal deep =
      table_wholes_by (with_wholes table t) kind (k ∷ keys) ps (table_wholes table t is legal.1.0 (omega (arith, deep))) legal.1.1 (omega (arith, deep))

-- a document's wholes are a table in which each has its number
pub document_table : (t : Tree) → IsDocument t → IsTable (wholes_of t)
document_table t document = table_wholes [] t tt document.0 document.1

pub document_numbered : (t : Tree) → IsNumbered (wholes_of t) t
document_numbered t = numbered_wholes [] t
