-- The pairs of a map that are loaded one after the other, and those that are left.
use Rattle.std.proofs.Common.{◌≡◌, ◌∙◌, ℕ, ◌+◌, ◌<◌, Bor, length, get_or, drop, drop-cons, add-one, Global, String, string_bytes, List, [], ◌∷◌, ◌++◌, refl, sym, ap, subst, append-nil}
use Rattle.std.specs.Prelude.{⊤}
use Rattle.archive_shape_layout.specs.Shape.{Shape}
use Rattle.archive_shape_layout.specs.Shape.Shape.{text}
use Rattle.archive_shape_layout.specs.Value.{Value}
use Rattle.archive_shape_layout.specs.Value.Value.{string}
use Rattle.archive_shape.specs.Key.{HeldAt}
use Rattle.cabinet_text_grammar.specs.Keys.{MapKind}
use Rattle.cabinet_text_grammar.specs.Tree as tree
use Rattle.cabinet_text_grammar.specs.Tree.{Tree, Pairs, no_pairs, more_pairs, IsLegal}
use Rattle.cabinet_text_grammar.specs.Wholes.{with_wholes, with_wholes_by}
use Rattle.cabinet_text_nodes.specs.View.{node_tree, node_pairs}
use Rattle.cabinet_text_nodes.specs.declared.node.Node.{Node}
use Rattle.cabinet_documents.proofs.ByKey.{pair_keys}
use Rattle.cabinet_archives.specs.Found.{OfDocument}
use Rattle.cabinet_archives.specs.Keyed.{knows_pairs}
use Rattle.cabinet_archives.specs.Loading.{HasTree, OfTree, LeadTo, AreEntriesOf, ArePairsLoaded, loaded_table, all_added}
use Rattle.cabinet_archives.specs.declared.loading.wholes.LoadedWholes.{LoadedWholes}
use Rattle.cabinet_archives.proofs.Added.{IsSorted, added_same}
use Rattle.cabinet_archives.proofs.LoadedTrees.{Loaded, AreNodesLegal, IsProgress, progress_on, progress_done, trees_by, keys_of, nodes_of, pairs_from, wholes_by_trees}

pub drop_here : {A : Type 0} (xs : List A) (i : ℕ) (d : A) → i < length xs → drop i xs ≡ get_or xs i d ∷ drop (i + 1) xs
drop_here xs i d less = drop-cons xs i d less ∙ ap (λ j. get_or xs i d ∷ drop j xs) (sym (add-one i))

-- the same bytes and entries, by other names
pub led : {x y : Bor (List ℕ)} {es fs : List (ℕ × ℕ)} (is : Pairs → Type 0) → x ≡ y → es ≡ fs → ((ps : Pairs) → LeadTo x.now es ps → is ps) → (ps : Pairs) → LeadTo y.now fs ps → is ps
led {x = x} {fs = fs} is e f of = λ ps lead. of ps (subst (λ gs. LeadTo x.now gs ps) (sym f) (subst (λ (b : Bor (List ℕ)). LeadTo b.now fs ps) (sym e) lead))

module _ (bytes : List ℕ) where
  -- the first of some pairs are these, and entries lead to the rest of them
  pub record PairsLeft (first table : List Tree) (items : List Loaded) (left : List (ℕ × ℕ)) (ps : Pairs) : Type 0 where
    pub rest : Pairs
    pub keys : pair_keys ps ≡ keys_of items ++ pair_keys rest
    pub progress : IsProgress first table (nodes_of items) (trees_by ps) (trees_by rest)
    pub lead : LeadTo bytes left rest

  pub none_loaded : (table : List Tree) (items : List Loaded) (left : List (ℕ × ℕ)) → items ≡ [] → (ps : Pairs) → LeadTo bytes left ps → PairsLeft table table items left ps
  none_loaded table items left none ps lead =
      subst (λ is. PairsLeft table table is left ps) (sym none) (record { rest = ps; keys = refl; progress = (refl, refl); lead = lead })

  pub nodes_more : (is : List Loaded) (key : String Global) (n : Node) → nodes_of (is ++ (key, n) ∷ []) ≡ nodes_of is ++ n ∷ []
  nodes_more [] key n = refl
  nodes_more (i ∷ is) key n = ap (λ ns. i.1 ∷ ns) (nodes_more is key n)

  keys_more : (is : List Loaded) (key : String Global) (n : Node) (ks : List (List ℕ)) → keys_of is ++ string_bytes key ∷ ks ≡ keys_of (is ++ (key, n) ∷ []) ++ ks
  keys_more [] key n ks = refl
  keys_more (i ∷ is) key n ks = ap (λ ls. string_bytes i.0 ∷ ls) (keys_more is key n ks)

  module _ {first table : List Tree} {items : List Loaded} {entry : ℕ × ℕ} {later : List (ℕ × ℕ)} where
    pub one_loaded : {more : List Tree} {ps : Pairs} (key : String Global) (n : Node) → AreNodesLegal table (nodes_of items) → ((k : List ℕ) → HeldAt text (λ _. ⊤) bytes entry.0 (string k) → string_bytes key ≡ k)
        → OfDocument bytes entry.1 (λ u. (node_tree more n ≡ u) × (more ≡ with_wholes table u)) → PairsLeft first table items (entry ∷ later) ps → PairsLeft first more (items ++ (key, n) ∷ []) later ps
    one_loaded {more = more} {ps = ps} key n legal says of l = by l.rest l.keys l.progress l.lead
      where
        by : (rest : Pairs) → pair_keys ps ≡ keys_of items ++ pair_keys rest → IsProgress first table (nodes_of items) (trees_by ps) (trees_by rest) → LeadTo bytes (entry ∷ later) rest → PairsLeft first more (items ++ (key, n) ∷ []) later ps
        by no_pairs keys progress lead = absurd lead
        by (more_pairs k t rest) keys progress lead =
            let one = of lead.1.0 t lead.1.1 lead.1.2 in
            record {
              rest = rest;
              keys = keys ∙ ap (λ l. keys_of items ++ l ∷ pair_keys rest) (sym (says k lead.0)) ∙ keys_more items key n (pair_keys rest);
              progress = subst (λ ns. IsProgress first more ns (trees_by ps) (trees_by rest)) (sym (nodes_more items key n)) (progress_on first table (nodes_of items) (trees_by rest) n legal one.0 one.1 progress);
              lead = lead.2;
            }

  pub all_loaded : {first table : List Tree} {items : List Loaded} {left : List (ℕ × ℕ)} {ps : Pairs} → left ≡ [] → PairsLeft first table items left ps → (node_pairs table items ≡ ps) × (table ≡ with_wholes_by first ps)
  all_loaded {first = first} {table = table} {items = items} {left = left} {ps = ps} none l = by l.rest l.keys l.progress (subst (λ es. LeadTo bytes es l.rest) none l.lead)
    where
      by : (rest : Pairs) → pair_keys ps ≡ keys_of items ++ pair_keys rest → IsProgress first table (nodes_of items) (trees_by ps) (trees_by rest) → LeadTo bytes [] rest → (node_pairs table items ≡ ps) × (table ≡ with_wholes_by first ps)
      by no_pairs keys progress lead =
          let done = progress_done first table (nodes_of items) progress in
          (pairs_from table items ps (sym (append-nil (keys_of items)) ∙ sym keys) done.0, done.1 ∙ sym (wholes_by_trees first ps))
      by (more_pairs k t rest) keys progress lead = absurd lead

  -- ---- a map of them

  module _ {kind : MapKind} {node : Value → Value} {s : Shape} {pos outer : ℕ} (entries : List (ℕ × ℕ)) (are : AreEntriesOf kind node s bytes pos entries) (has : HasTree node s knows_pairs bytes pos outer)
      (old new : LoadedWholes) (items : List Loaded) (loaded : (ps : Pairs) → LeadTo bytes entries ps → ArePairsLoaded old new items ps)
    where
      pub pairs_map : OfTree node s knows_pairs bytes pos (λ t. (tree.map kind (node_pairs (loaded_table new) items) ≡ t) × (loaded_table new ≡ with_wholes (loaded_table old) t))
      pairs_map = λ v t h d.
          let o = (are outer has).1 v t h d in
          let l = loaded o.0 o.2 in
          (ap (tree.map kind) l.0 ∙ sym o.1, l.1 ∙ ap (with_wholes (loaded_table old)) (sym o.1))

      -- in the order of the keys
      pub sorted_map : IsSorted kind → (sorted_items : List Loaded) → node_pairs (loaded_table new) sorted_items ≡ all_added (node_pairs (loaded_table new) items) no_pairs
          → OfTree node s knows_pairs bytes pos (λ t. (tree.map kind (node_pairs (loaded_table new) sorted_items) ≡ t) × (loaded_table new ≡ with_wholes (loaded_table old) t))
      sorted_map sorted sorted_items is = λ v t h d.
          let o = (are outer has).1 has.value has.tree has.held has.denotes in
          let l = loaded o.0 o.2 in
          let legal = subst IsLegal o.1 has.legal in
          let same = subst (λ ps. all_added ps no_pairs ≡ ps) (sym l.0) (added_same sorted o.0 legal.0) in
          let all = pairs_map v t h d in
          (ap (tree.map kind) (is ∙ same) ∙ all.0, all.1)
