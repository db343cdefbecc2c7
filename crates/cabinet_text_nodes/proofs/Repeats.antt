-- Trees that are twice in a table, found by their texts.
use Rattle.std.proofs.Common.{◌≡◌, ℕ, ◌≤◌, ◌<◌, ◌^◌, Bool, true, false, not, List, [], ◌∷◌, length, map, refl, sym, ap, ◌∙◌, subst, arith, inl, inr, Some, None, Global, String, Vec}
use Rattle.std.specs.Prelude.{IsTrue, string_bytes}
use Rattle.std.specs.BTreeSet.{insert_key}
use Rattle.std.specs.Cmp.Lexicographic.{slice_cmp}
use Rattle.std.specs.List.{list_any}
use Rattle.std.specs.Ordering.{nat_cmp, is_eq}
use Rattle.std.specs.Str.{bytes_eq}
use Rattle.cabinet_text_grammar.specs.Completing.{text_in, texts_of}
use Rattle.cabinet_text_grammar.specs.Keys.{MapKind, ordered, hashed, kept}
use Rattle.cabinet_text_grammar.specs.Tree.{Tree, most_depth, IsLegal, AreLegal, ArePairs}
use Rattle.cabinet_text_grammar.specs.Wholes.{has, numbered, IsNumbered, AreNumbered, ArePairsNumbered, IsTable}
use Rattle.cabinet_text_grammar.proofs.Tables.{has_numbered}
use Rattle.cabinet_text_grammar.proofs.TreeTexts.{text_among}
use Rattle.cabinet_text_nodes.specs.Faults.{wholes_with, HasTwice}
use Rattle.cabinet_text_nodes.specs.View.{trees_of, pairs_of, whole_of, view_step, node_tree, known_below, table_after, table_of}
use Rattle.cabinet_text_nodes.specs.declared.node.Node.{Node}
use Rattle.cabinet_text_nodes.specs.declared.node.Node.TheFolds.{map-Node, fold-roll-Node, ind-Node}
use Rattle.cabinet_text_nodes.specs.declared.node.Node.TheOpen.{Node-F}
use Rattle.cabinet_text_nodes.specs.declared.node.Node.TheViews.{roll-Node}
use Rattle.cabinet_text_nodes.proofs.Added.{contains_bytes, texts_more}
use Rattle.cabinet_text_nodes.proofs.Entries.{legal_whole, legal_known, length_after}

-- ---- the wholes of a legal node are in the table

abbrev pub Numbers : Node → Type 0
Numbers n = (table : List Tree) → IsLegal (node_tree table n) → IsNumbered table (node_tree table n)

abbrev Numbered : Type 0
Numbered = (n : Node) × Numbers n

module _ (table : List Tree) where
  elements_number : (es : List Numbered) → AreLegal (trees_of (map (node_tree table) (map (λ (e : Numbered). e.0) es))) → AreNumbered table (trees_of (map (node_tree table) (map (λ (e : Numbered). e.0) es)))
  elements_number [] legal = tt
  elements_number (e ∷ es) legal = (e.1 table legal.0, elements_number es legal.1)

  pairs_number : (kind : MapKind) (keys : List (List ℕ)) (es : List (String Global × Numbered))
      → ArePairs kind keys (pairs_of (map (λ (p : String Global × Node). (p.0, node_tree table p.1)) (map (λ (e : String Global × Numbered). (e.0, e.1.0)) es)))
      → ArePairsNumbered table (pairs_of (map (λ (p : String Global × Node). (p.0, node_tree table p.1)) (map (λ (e : String Global × Numbered). (e.0, e.1.0)) es)))
  pairs_number kind keys [] legal = tt
  pairs_number kind keys (e ∷ es) legal = (e.1.1 table legal.1.0, pairs_number kind (string_bytes e.0 ∷ keys) es legal.1.1)

  layer_numbers : (y : Node-F Numbered) → IsLegal (view_step table (map-Node Node Tree (node_tree table) (map-Node Numbered Node (λ e. e.0) y)))
      → IsNumbered table (view_step table (map-Node Node Tree (node_tree table) (map-Node Numbered Node (λ e. e.0) y)))
  layer_numbers (Node-F.Bool b) legal = tt
  layer_numbers (Node-F.Int n) legal = tt
  layer_numbers (Node-F.Text t) legal = tt
  layer_numbers (Node-F.Shared t) legal = tt
  layer_numbers (Node-F.Maybe None) legal = tt
  layer_numbers (Node-F.Maybe (Some b)) legal = b.value.1 table legal
  layer_numbers (Node-F.List v) legal = elements_number v.items legal.0
  layer_numbers (Node-F.Ordered m) legal = pairs_number ordered [] m.entries legal.0
  layer_numbers (Node-F.Hashed m) legal = pairs_number hashed [] m.entries legal.0
  layer_numbers (Node-F.Kept v) legal = pairs_number kept [] v.items legal.0
  layer_numbers (Node-F.Whole n) legal =
      let found = legal_whole (numbered table n) legal in
      subst (λ o. IsNumbered table (whole_of o)) (sym found.1) (has_numbered table n found.0 found.1)

numbers_layer : (x : Node-F Node) (y : Node-F Numbered) → map-Node Numbered Node (λ e. e.0) y ≡ x → Numbers (roll-Node x)
numbers_layer x y is table legal =
    let seen = fold-roll-Node Tree (view_step table) x in
    subst (IsNumbered table) (sym seen)
    (subst (λ z. IsLegal (view_step table (map-Node Node Tree (node_tree table) z)) → IsNumbered table (view_step table (map-Node Node Tree (node_tree table) z))) is (layer_numbers table y) (subst IsLegal seen legal))

pub numbers : (n : Node) → Numbers n
numbers = ind-Node Numbers numbers_layer

-- ---- larger tables

legal_before : (table : List Tree) (ns : List Node) → AreLegal (wholes_with (table_after table ns)) → AreLegal (wholes_with table)
legal_before table [] legal = legal
legal_before table (n ∷ ns) legal = (legal_before (node_tree table n ∷ table) ns legal).1

deep_before : (table : List Tree) (ns : List Node) → most_depth (wholes_with (table_after table ns)) ≤ 64 → most_depth (wholes_with table) ≤ 64
deep_before table [] deep = deep
deep_before table (n ∷ ns) deep = omega (arith, deep_before (node_tree table n ∷ table) ns deep)

twice_after : (table : List Tree) (ns : List Node) → HasTwice table → HasTwice (table_after table ns)
twice_after table [] twice = twice
twice_after table (n ∷ ns) twice = twice_after (node_tree table n ∷ table) ns (inr twice)

-- ---- the loop over the nodes of the wholes

abbrev HasTexts : List Tree → List (Vec ℕ Global) → Type 0
HasTexts table texts = (bytes : List ℕ) → list_any (λ (v : Vec ℕ Global). bytes_eq v.items bytes) texts ≡ list_any (λ w. bytes_eq w bytes) (texts_of table)

-- the trees of the nodes before the rest have these texts, and no two of them are equal
pub record AreUnique (ns rest : List Node) (texts : List (Vec ℕ Global)) : Type 0 where
  pub table : List Tree
  pub table_is : table_after table rest ≡ table_of ns
  pub unique : AreLegal (wholes_with table) → most_depth (wholes_with table) ≤ 64 → IsTable table × HasTexts table texts

pub none_unique : (ns : List Node) (texts : List (Vec ℕ Global)) → texts ≡ [] → AreUnique ns ns texts
none_unique ns texts is = record { table = []; table_is = refl; unique = λ legal deep. (tt, subst (HasTexts []) (sym is) (λ bytes. refl)) }

-- the text of a node
abbrev pub IsTextOf : Node → List ℕ → Type 0
IsTextOf n text = (table : List Tree) → IsTable table → IsTrue (known_below (length table) n) → text ≡ text_in table (node_tree table n)

module _ (ns : List Node) (few : length ns < 2 ^ 64) (n : Node) (rest before : List Node) (texts : List (Vec ℕ Global)) (v : Vec ℕ Global) (is_new : Bool) (split : before ≡ n ∷ rest) (done : AreUnique ns before texts) (text : IsTextOf n v.items)
    (told : is_new ≡ not (list_any (λ (k : Vec ℕ Global). is_eq (slice_cmp nat_cmp v.items k.items)) texts)) where
  found : AreLegal (wholes_with (node_tree done.table n ∷ done.table)) → most_depth (wholes_with done.table) ≤ 64 → is_new ≡ not (has done.table (node_tree done.table n))
  found legal deep =
      let T = done.table in
      let t = node_tree T n in
      let u = done.unique legal.1 deep in
      let same = text T u.0 (legal_known T n legal.0) in
      let many : length T < 2 ^ 64 = omega (arith, few, length_after T before, ap length done.table_is, length_after [] ns) in
      told ∙ ap not (contains_bytes (λ (k : Vec ℕ Global). k.items) v.items texts ∙ u.1 v.items ∙ ap (λ w. list_any (λ x. bytes_eq x w) (texts_of T)) same ∙ text_among T t many u.0 legal.0 (numbers n T legal.0))

  still : table_after (node_tree done.table n ∷ done.table) rest ≡ table_of ns
  still = ap (table_after done.table) (sym split) ∙ done.table_is

  pub more_unique : (more : List (Vec ℕ Global)) → is_new ≡ true → more ≡ insert_key (λ (x y : Vec ℕ Global). slice_cmp nat_cmp x.items y.items) texts v → AreUnique ns rest more
  more_unique more new inserted =
      let T = done.table in
      let t = node_tree T n in
      record {
        table = t ∷ T;
        table_is = still;
        unique = λ legal deep.
            let shallow : most_depth (wholes_with T) ≤ 64 = omega (arith, deep) in
            let u = done.unique legal.1 shallow in
            let same = text T u.0 (legal_known T n legal.0) in (
              ((legal.0, omega (arith, deep)), numbers n T legal.0, not_has (has T t) (sym (found legal shallow) ∙ new), u.0),
              subst (HasTexts (t ∷ T)) (sym inserted) (texts_more (λ (k : Vec ℕ Global). k.items) T t texts v u.1 same),
            );
      }
    where
      not_has : (b : Bool) → not b ≡ true → b ≡ false
      not_has true h = sym h
      not_has false h = refl

  pub found_twice : is_new ≡ false → AreLegal (wholes_with (table_of ns)) → most_depth (wholes_with (table_of ns)) ≤ 64 → HasTwice (table_of ns)
  found_twice old legal deep =
      let T = done.table in
      let t = node_tree T n in
      let legal_here : AreLegal (wholes_with (t ∷ T)) = legal_before (t ∷ T) rest (subst (λ w. AreLegal (wholes_with w)) (sym still) legal) in
      let deep_here : most_depth (wholes_with (t ∷ T)) ≤ 64 = deep_before (t ∷ T) rest (subst (λ w. most_depth (wholes_with w) ≤ 64) (sym still) deep) in
      subst HasTwice still (twice_after (t ∷ T) rest (inl (does_have (has T t) (sym (found legal_here (omega (arith, deep_here))) ∙ old))))
    where
      does_have : (b : Bool) → not b ≡ false → b ≡ true
      does_have true h = refl
      does_have false h = sym h

pub all_unique : (ns before : List Node) (texts : List (Vec ℕ Global)) → before ≡ [] → AreUnique ns before texts → AreLegal (wholes_with (table_of ns)) → most_depth (wholes_with (table_of ns)) ≤ 64 → IsTable (table_of ns)
all_unique ns before texts none done legal deep =
    let same : done.table ≡ table_of ns = ap (table_after done.table) (sym none) ∙ done.table_is in
    subst IsTable same (done.unique (subst (λ w. AreLegal (wholes_with w)) (sym same) legal) (subst (λ w. most_depth (wholes_with w) ≤ 64) (sym same) deep)).0
