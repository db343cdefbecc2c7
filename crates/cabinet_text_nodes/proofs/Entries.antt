-- The numbers of wholes in nodes, and the trees of the nodes of a table.
use Rattle.std.proofs.Common.{◌≡◌, ℕ, zero, suc, ◌+◌, ◌<◌, Bool, true, List, [], ◌∷◌, length, map, refl, sym, ap, ◌∙◌, subst, arith, inl, inr, Option, Some, None, Bor, Global, String}
use Rattle.std.specs.Prelude.{string_bytes, slice_get}
use Rattle.std.specs.List.{list_all}
use Rattle.std.proofs.lemmas.Bool.{and_from, lt-ltb}
use Rattle.std.proofs.lemmas.Bool.Decides.{eqb_tells}
use Rattle.cabinet_text_grammar.specs.Keys.{MapKind, ordered, hashed, kept}
use Rattle.cabinet_text_grammar.specs.Tree as tree
use Rattle.cabinet_text_grammar.specs.Tree.{Tree, IsLegal, AreLegal, ArePairs}
use Rattle.cabinet_text_grammar.specs.Wholes.{numbered, with_wholes, with_wholes_in, with_wholes_by, wholes_of, IsTable}
use Rattle.cabinet_text_grammar.proofs.Tables.{below_numbered, legal_numbered, some_same}
use Rattle.cabinet_text_nodes.specs.Faults.{AreDepths, AllLegal}
use Rattle.cabinet_text_nodes.specs.View.{trees_of, pairs_of, whole_of, view_step, node_tree, known_step, known_below, table_after, table_of}
use Rattle.cabinet_text_nodes.specs.declared.node.Node.{Node}
use Rattle.cabinet_text_nodes.specs.declared.node.Node.TheVariants as node
use Rattle.cabinet_text_nodes.proofs.Views.{node_tree-whole}
use Rattle.cabinet_text_nodes.proofs.Paths.{map_behind}
use Rattle.cabinet_text_grammar.specs.Path.{inside, node_at}
use Rattle.std.specs.Option.{option_map, option_copied}
use Rattle.cabinet_text_nodes.specs.declared.node.Node.TheFolds.{map-Node, fold-roll-Node, ind-Node}
use Rattle.cabinet_text_nodes.specs.declared.node.Node.TheOpen.{Node-F}
use Rattle.cabinet_text_nodes.specs.declared.node.Node.TheViews.{roll-Node}

-- ---- larger tables

-- a whole that is legal has a number of the table
pub legal_whole : (found : Option Tree) → IsLegal (whole_of found) → (t : Tree) × (found ≡ Some t)
legal_whole None legal = absurd (omega (arith, legal.sfits))
legal_whole (Some t) legal = (t, refl)

pub numbered_stays : (u : Tree) (table : List Tree) (n : ℕ) → n < length table → numbered (u ∷ table) n ≡ numbered table n
numbered_stays u table n below =
    elim (eqb_tells (length table) n) [
      | inl is ↦ absurd (omega (arith, below, is.1))
      | inr differs ↦ rw differs.0 refl
    ]

-- a legal node has numbers of the table alone, so a larger one changes nothing
abbrev Stays : Node → Type 0
Stays n = (u : Tree) (table : List Tree) → IsLegal (node_tree table n) → (node_tree (u ∷ table) n ≡ node_tree table n) × (known_below (length table) n ≡ true)

-- a node of which this is known
abbrev Known : Type 0
Known = (n : Node) × Stays n

module _ (u : Tree) (table : List Tree) where
  elements_stay : (es : List Known) → AreLegal (trees_of (map (node_tree table) (map (λ (e : Known). e.0) es)))
      → (trees_of (map (node_tree (u ∷ table)) (map (λ (e : Known). e.0) es)) ≡ trees_of (map (node_tree table) (map (λ (e : Known). e.0) es)))
      × (list_all (λ (known : Bool). known) (map (known_below (length table)) (map (λ (e : Known). e.0) es)) ≡ true)
  elements_stay [] legal = (refl, refl)
  elements_stay (e ∷ es) legal =
      let here = e.1 u table legal.0 in
      let rest = elements_stay es legal.1 in
      (ap (λ t. tree.more_trees t (trees_of (map (node_tree (u ∷ table)) (map (λ (e : Known). e.0) es)))) here.0 ∙ ap (tree.more_trees (node_tree table e.0)) rest.0, and_from _ _ here.1 rest.1)

  pairs_stay : (kind : MapKind) (keys : List (List ℕ)) (es : List (String Global × Known))
      → ArePairs kind keys (pairs_of (map (λ (p : String Global × Node). (p.0, node_tree table p.1)) (map (λ (e : String Global × Known). (e.0, e.1.0)) es)))
      → (pairs_of (map (λ (p : String Global × Node). (p.0, node_tree (u ∷ table) p.1)) (map (λ (e : String Global × Known). (e.0, e.1.0)) es)) ≡ pairs_of (map (λ (p : String Global × Node). (p.0, node_tree table p.1)) (map (λ (e : String Global × Known). (e.0, e.1.0)) es)))
      × (list_all (λ (p : String Global × Bool). p.1) (map (λ (p : String Global × Node). (p.0, known_below (length table) p.1)) (map (λ (e : String Global × Known). (e.0, e.1.0)) es)) ≡ true)
  pairs_stay kind keys [] legal = (refl, refl)
  pairs_stay kind keys (e ∷ es) legal =
      let k = string_bytes e.0 in
      let here = e.1.1 u table legal.1.0 in
      let rest = pairs_stay kind (k ∷ keys) es legal.1.1 in (
        ap (λ t. tree.more_pairs k t (pairs_of (map (λ (p : String Global × Node). (p.0, node_tree (u ∷ table) p.1)) (map (λ (e : String Global × Known). (e.0, e.1.0)) es)))) here.0 ∙ ap (tree.more_pairs k (node_tree table e.1.0)) rest.0,
        and_from _ _ here.1 rest.1,
      )

  layer_stays : (y : Node-F Known) → IsLegal (view_step table (map-Node Node Tree (node_tree table) (map-Node Known Node (λ e. e.0) y)))
      → (view_step (u ∷ table) (map-Node Node Tree (node_tree (u ∷ table)) (map-Node Known Node (λ e. e.0) y)) ≡ view_step table (map-Node Node Tree (node_tree table) (map-Node Known Node (λ e. e.0) y)))
      × (known_step (length table) (map-Node Node Bool (known_below (length table)) (map-Node Known Node (λ e. e.0) y)) ≡ true)
  layer_stays (Node-F.Bool b) legal = (refl, refl)
  layer_stays (Node-F.Int n) legal = (refl, refl)
  layer_stays (Node-F.Text t) legal = (refl, refl)
  layer_stays (Node-F.Shared t) legal = (refl, refl)
  layer_stays (Node-F.Maybe None) legal = (refl, refl)
  layer_stays (Node-F.Maybe (Some b)) legal =
      let here = b.value.1 u table legal in
      (ap tree.just here.0, here.1)
  layer_stays (Node-F.List v) legal =
      let all = elements_stay v.items legal.0 in
      (ap tree.list all.0, all.1)
  layer_stays (Node-F.Ordered m) legal =
      let all = pairs_stay ordered [] m.entries legal.0 in
      (ap (tree.map ordered) all.0, all.1)
  layer_stays (Node-F.Hashed m) legal =
      let all = pairs_stay hashed [] m.entries legal.0 in
      (ap (tree.map hashed) all.0, all.1)
  layer_stays (Node-F.Kept v) legal =
      let all = pairs_stay kept [] v.items legal.0 in
      (ap (tree.map kept) all.0, all.1)
  layer_stays (Node-F.Whole n) legal =
      let found = legal_whole (numbered table n) legal in
      let below = below_numbered table n found.0 found.1 in
      (ap whole_of (numbered_stays u table n below), lt-ltb n (length table) below)

stays_layer : (x : Node-F Node) (y : Node-F Known) → map-Node Known Node (λ e. e.0) y ≡ x → Stays (roll-Node x)
stays_layer x y is u table legal =
    let small = fold-roll-Node Tree (view_step table) x in
    let large = fold-roll-Node Tree (view_step (u ∷ table)) x in
    let known = fold-roll-Node Bool (known_step (length table)) x in
    let here =
    subst
    (λ z. IsLegal (view_step table (map-Node Node Tree (node_tree table) z))
    → (view_step (u ∷ table) (map-Node Node Tree (node_tree (u ∷ table)) z) ≡ view_step table (map-Node Node Tree (node_tree table) z))
    × (known_step (length table) (map-Node Node Bool (known_below (length table)) z) ≡ true))
    is (layer_stays u table y) (subst IsLegal small legal) in
    (large ∙ here.0 ∙ sym small, known ∙ here.1)

pub stays : (n : Node) → Stays n
stays = ind-Node Stays stays_layer

pub node_stays : (u : Tree) (table : List Tree) (n : Node) → IsLegal (node_tree table n) → node_tree (u ∷ table) n ≡ node_tree table n
node_stays u table n legal = (stays n u table legal).0

pub legal_known : (table : List Tree) (n : Node) → IsLegal (node_tree table n) → known_below (length table) n ≡ true
legal_known table n legal = (stays n tree.nothing table legal).1

-- ---- the nodes of a table

pub tree_after : (table : List Tree) (ns : List Node) (n : Node) → IsLegal (node_tree table n) → node_tree (table_after table ns) n ≡ node_tree table n
tree_after table [] n legal = refl
tree_after table (x ∷ ns) n legal =
    let here = node_stays (node_tree table x) table n legal in
    tree_after (node_tree table x ∷ table) ns n (subst IsLegal (sym here) legal) ∙ here

pub numbered_after : (table : List Tree) (ns : List Node) (n : ℕ) → n < length table → numbered (table_after table ns) n ≡ numbered table n
numbered_after table [] n below = refl
numbered_after table (x ∷ ns) n below =
    numbered_after (node_tree table x ∷ table) ns n (omega (arith, below)) ∙ numbered_stays (node_tree table x) table n below

pub length_after : (table : List Tree) (ns : List Node) → length (table_after table ns) ≡ length table + length ns
length_after table [] = omega arith
length_after table (x ∷ ns) = omega (arith, length_after (node_tree table x ∷ table) ns)

pub first_numbered : (u : Tree) (table : List Tree) → numbered (u ∷ table) (length table) ≡ Some u
first_numbered u table =
    elim (eqb_tells (length table) (length table)) [
      | inl is ↦ rw is.0 refl
      | inr differs ↦ absurd (differs.1 refl)
    ]

-- the tree that has the number of a node of the table is that of the node
node_at_after : (table : List Tree) (ns : List Node) (i : ℕ) (n : Node) → AllLegal (table_after table ns) → slice_get ns i ≡ Some n → numbered (table_after table ns) (length table + i) ≡ Some (node_tree (table_after table ns) n)
node_at_after table [] i n legal there = cc
node_at_after table (x ∷ ns) zero n legal there =
    let same : x ≡ n = cc in
    let t = node_tree table x in
    let at : numbered (table_after (t ∷ table) ns) (length table + 0) ≡ Some t =
    ap (numbered (table_after (t ∷ table) ns)) (omega arith) ∙ numbered_after (t ∷ table) ns (length table) (omega arith) ∙ first_numbered t table in
    let is_legal : IsLegal (node_tree table x) = legal (length table + 0) t at in
    let large : node_tree (table_after (t ∷ table) ns) x ≡ t = tree_after table (x ∷ ns) x is_legal in
    at ∙ ap Some (sym large) ∙ ap (λ m. Some (node_tree (table_after (t ∷ table) ns) m)) same
node_at_after table (x ∷ ns) (suc i) n legal there =
    ap (numbered (table_after (node_tree table x ∷ table) ns)) (omega arith) ∙ node_at_after (node_tree table x ∷ table) ns i n legal there

pub all_legal : (table : List Tree) → IsTable table → AllLegal table
all_legal table is n t there = legal_numbered table n t is there

pub node_numbered : (ns : List Node) (i : ℕ) (n : Node) → IsTable (table_of ns) → slice_get ns i ≡ Some n → numbered (table_of ns) i ≡ Some (node_tree (table_of ns) n)
node_numbered ns i n is there =
    let same : i ≡ 0 + i = omega arith in
    ap (numbered (table_of ns)) same ∙ node_at_after [] ns i n (all_legal (table_of ns) is) there

pub within_table : (ns : List Node) (i : ℕ) → IsLegal (whole_of (numbered (table_of ns) i)) → i < length ns
within_table ns i legal =
    let found = legal_whole (numbered (table_of ns) i) legal in
    omega (arith, below_numbered (table_of ns) i found.0 found.1, length_after [] ns)

pub some_at : (ns : List Node) (i : ℕ) → i < length ns → (n : Node) × (slice_get ns i ≡ Some n)
some_at [] i within = absurd (omega (arith, within))
some_at (n ∷ ns) zero within = (n, refl)
some_at (n ∷ ns) (suc i) within = some_at ns i (omega (arith, within))

-- the node in a whole
pub whole_behind : (ns : List Node) (m : ℕ) (n : Node) (found : Option (Bor Node)) → n ≡ node.Whole m → IsTable (table_of ns) → IsLegal (node_tree (table_of ns) n) → option_copied found ≡ slice_get ns m
    → option_map (λ (x : Bor Node). node_tree (table_of ns) x.now) found ≡ node_at (node_tree (table_of ns) n) (inside ∷ [])
whole_behind ns m n found is table legal there =
    let t = table_of ns in
    let seen : node_tree t n ≡ whole_of (numbered t m) = ap (node_tree t) is ∙ node_tree-whole t m in
    let x = some_at ns m (within_table ns m (subst IsLegal seen legal)) in
    let at = node_numbered ns m x.0 table x.1 in
    map_behind t found ∙ ap (option_map (node_tree t)) (there ∙ x.1) ∙ sym (ap (λ o. node_at (whole_of o) (inside ∷ [])) at) ∙ sym (ap (λ v. node_at v (inside ∷ [])) seen)

-- no table has no depths
pub no_depths : AreDepths [] []
no_depths = record { as_many = refl; each = λ n t there. cc }

-- a whole that is legal, the tree in it, and the node that has it
pub record Inside (ns : List Node) (m : ℕ) : Type 0 where
  pub tree_in : Tree
  pub seen : node_tree (table_of ns) (node.Whole m) ≡ tree.whole tree_in
  pub legal : IsLegal tree_in
  pub within : m < length ns
  pub entry : (n : Node) → slice_get ns m ≡ Some n → node_tree (table_of ns) n ≡ tree_in

pub inside_of : (ns : List Node) (m : ℕ) → IsTable (table_of ns) → IsLegal (node_tree (table_of ns) (node.Whole m)) → Inside ns m
inside_of ns m is legal =
    let t = table_of ns in
    let whole_legal = subst IsLegal (node_tree-whole t m) legal in
    let found = legal_whole (numbered t m) whole_legal in
    record {
      tree_in = found.0;
      seen = node_tree-whole t m ∙ ap whole_of found.1;
      legal = legal_numbered t m found.0 is found.1;
      within = within_table ns m whole_legal;
      entry = λ n there. some_same (node_tree t n) found.0 (sym (node_numbered ns m n is there) ∙ found.1);
    }

-- a whole that is legal has a node
pub no_entry : (ns : List Node) (m : ℕ) → IsTable (table_of ns) → IsLegal (node_tree (table_of ns) (node.Whole m)) → slice_get ns m ≡ None → ⊥
no_entry ns m is legal none =
    let there = some_at ns m (inside_of ns m is legal).within in
    cc

-- ---- nodes without wholes

-- where there are no wholes, a legal node has none
abbrev Lacks : Node → Type 0
Lacks n = IsLegal (node_tree [] n) → (table : List Tree) → with_wholes table (node_tree [] n) ≡ table

abbrev Lacking : Type 0
Lacking = (n : Node) × Lacks n

elements_lack : (es : List Lacking) → AreLegal (trees_of (map (node_tree []) (map (λ (e : Lacking). e.0) es))) → (table : List Tree) → with_wholes_in table (trees_of (map (node_tree []) (map (λ (e : Lacking). e.0) es))) ≡ table
elements_lack [] legal table = refl
elements_lack (e ∷ es) legal table =
    ap (λ w. with_wholes_in w (trees_of (map (node_tree []) (map (λ (e : Lacking). e.0) es)))) (e.1 legal.0 table) ∙ elements_lack es legal.1 table

pairs_lack : (kind : MapKind) (keys : List (List ℕ)) (es : List (String Global × Lacking))
    → ArePairs kind keys (pairs_of (map (λ (p : String Global × Node). (p.0, node_tree [] p.1)) (map (λ (e : String Global × Lacking). (e.0, e.1.0)) es))) → (table : List Tree)
    → with_wholes_by table (pairs_of (map (λ (p : String Global × Node). (p.0, node_tree [] p.1)) (map (λ (e : String Global × Lacking). (e.0, e.1.0)) es))) ≡ table
pairs_lack kind keys [] legal table = refl
pairs_lack kind keys (e ∷ es) legal table =
    ap (λ w. with_wholes_by w (pairs_of (map (λ (p : String Global × Node). (p.0, node_tree [] p.1)) (map (λ (e : String Global × Lacking). (e.0, e.1.0)) es)))) (e.1.1 legal.1.0 table)
    ∙ pairs_lack kind (string_bytes e.0 ∷ keys) es legal.1.1 table

layer_lacks : (y : Node-F Lacking) → IsLegal (view_step [] (map-Node Node Tree (node_tree []) (map-Node Lacking Node (λ e. e.0) y))) → (table : List Tree)
    → with_wholes table (view_step [] (map-Node Node Tree (node_tree []) (map-Node Lacking Node (λ e. e.0) y))) ≡ table
layer_lacks (Node-F.Bool b) legal table = refl
layer_lacks (Node-F.Int n) legal table = refl
layer_lacks (Node-F.Text t) legal table = refl
layer_lacks (Node-F.Shared t) legal table = refl
layer_lacks (Node-F.Maybe None) legal table = refl
layer_lacks (Node-F.Maybe (Some b)) legal table = b.value.1 legal table
layer_lacks (Node-F.List v) legal table = elements_lack v.items legal.0 table
layer_lacks (Node-F.Ordered m) legal table = pairs_lack ordered [] m.entries legal.0 table
layer_lacks (Node-F.Hashed m) legal table = pairs_lack hashed [] m.entries legal.0 table
layer_lacks (Node-F.Kept v) legal table = pairs_lack kept [] v.items legal.0 table
layer_lacks (Node-F.Whole n) legal table =
    let found = legal_whole None legal in
    let none : None ≡ Some found.0 = found.1 in
    cc

lacks_layer : (x : Node-F Node) (y : Node-F Lacking) → map-Node Lacking Node (λ e. e.0) y ≡ x → Lacks (roll-Node x)
lacks_layer x y is legal table =
    let seen = fold-roll-Node Tree (view_step []) x in
    let here =
    subst
    (λ z. IsLegal (view_step [] (map-Node Node Tree (node_tree []) z)) → (w : List Tree) → with_wholes w (view_step [] (map-Node Node Tree (node_tree []) z)) ≡ w)
    is (layer_lacks y) (subst IsLegal seen legal) table in
    ap (with_wholes table) seen ∙ here

lacks : (n : Node) → Lacks n
lacks = ind-Node Lacks lacks_layer

pub no_wholes : (n : Node) → IsLegal (node_tree [] n) → wholes_of (node_tree [] n) ≡ []
no_wholes n legal = lacks n legal []
