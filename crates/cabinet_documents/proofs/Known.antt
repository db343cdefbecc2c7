-- The document that the value of a node that holds denotes.
use Rattle.std.proofs.Common.{◌≡◌, ℕ, zero, suc, ◌<◌, Bool, true, false, List, Some, refl, sym, ap, subst, ◌∙◌, arith, true≢false}
use Rattle.std.specs.Str.{bytes_eq}
use Rattle.std.proofs.lemmas.Slice.Eq.{bytes_eq-Decides}
use Rattle.archive_shape_layout.specs.Value.{Value, Values}
use Rattle.archive_shape_layout.specs.Value.Value.{string, group, chosen, counted}
use Rattle.archive_shape_layout.specs.Value.Values.{no_values}
use Rattle.archive_shape_layout.specs.Path.{value_in}
use Rattle.cabinet_text_grammar.specs.Keys.{ordered, hashed, kept}
use Rattle.cabinet_text_grammar.specs.Tree.{Leaf, truth, number, text, Tree, Trees, Pairs, leaf, shared, nothing, just, list, map, whole, no_trees, IsLegal, AreLegal}
use Rattle.cabinet_text_grammar.specs.Tree as document
use Rattle.cabinet_text_grammar.specs.Path.{Step, node_at, node_in, node_by, enters, enters_in, enters_by}
use Rattle.cabinet_documents.specs.Denotes.{Denotes, DenoteAll, DenotePairs, tagged_value, pair_value}
use Rattle.cabinet_documents.specs.Denotes.Denotes.{denotes_truth, denotes_number, denotes_text, denotes_shared, denotes_nothing, denotes_some, denotes_list, denotes_ordered, denotes_hashed, denotes_kept, denotes_whole}
use Rattle.cabinet_documents.specs.Denotes.DenoteAll.{denote_none, denote_more}
use Rattle.cabinet_documents.specs.Denotes.DenotePairs.{denote_no_pairs, denote_pair}
use Rattle.cabinet_documents.specs.Order.{arranged}
use Rattle.cabinet_documents.specs.Laws.{payload_of}
use Rattle.cabinet_documents.proofs.ByKey.{node_here, node_past, AreDistinct, enters_here, enters_past}
use Rattle.cabinet_documents.proofs.Changing.{of_some, of_list, of_ordered, of_hashed, of_kept, of_whole}
use Rattle.cabinet_documents.proofs.Denoted.{one_tree}
use Rattle.cabinet_documents.proofs.Nodes.{NodeValue, truth_value, number_value, text_value, shared_value, none_value, some_value, list_value, ordered_value, hashed_value, kept_value, whole_value, NodeValues, no_nodes, more_nodes, PairValues, no_pairs, more_pairs}

abbrev pub leaf_tag : Leaf → ℕ
leaf_tag (truth b) = 0
leaf_tag (number n) = 1
leaf_tag (text s) = 2

abbrev pub LeafValue : Value → Leaf → Type 0
LeafValue v l = v ≡ tagged_value (leaf_tag l) (payload_of l)

pub data Known (bytes : List ℕ) (v : Value) (t : Tree) : Type 0 where
  known_leaf : (l : Leaf) → LeafValue v l → t ≡ leaf l → Known bytes v t
  known_shared : {pos : ℕ} {s : List ℕ} → v ≡ tagged_value 3 (counted pos (string s)) → t ≡ shared s → Known bytes v t
  known_none : v ≡ tagged_value 4 (chosen 0 no_values) → t ≡ nothing → Known bytes v t
  known_some : {w : Value} {u : Tree} → v ≡ tagged_value 4 (tagged_value 1 w) → t ≡ just u → NodeValue bytes w → Denotes w u → Known bytes v t
  known_list : {vs : Values} {ts : Trees} → v ≡ tagged_value 5 (group vs) → t ≡ list ts → NodeValues bytes vs → DenoteAll vs ts → Known bytes v t
  known_ordered : {vs : Values} {ps : Pairs} → v ≡ tagged_value 6 (group vs) → t ≡ map ordered ps → PairValues bytes vs → DenotePairs vs ps → Known bytes v t
  known_hashed : {vs : Values} {ps : Pairs} → v ≡ tagged_value 7 (group vs) → t ≡ map hashed (arranged ps) → PairValues bytes vs → DenotePairs vs ps → Known bytes v t
  known_kept : {vs : Values} {ps : Pairs} → v ≡ tagged_value 8 (group vs) → t ≡ map kept ps → PairValues bytes vs → DenotePairs vs ps → Known bytes v t
  known_whole : {pos : ℕ} {w : Value} {u : Tree} → v ≡ tagged_value 9 (counted pos w) → t ≡ whole u → NodeValue bytes w → Denotes w u → Known bytes v t

pub known : {bytes : List ℕ} {v : Value} {t : Tree} → NodeValue bytes v → Denotes v t → Known bytes v t
known (truth_value {b = b} e) d = known_leaf (truth b) e (one_tree d (denotes_truth e refl))
known (number_value {n = n} e f) d = known_leaf (number n) e (one_tree d (denotes_number e refl))
known (text_value {s = s} e f) d = known_leaf (text s) e (one_tree d (denotes_text e refl))
known (shared_value {s = s} e f) d = known_shared e (one_tree d (denotes_shared e refl))
known (none_value e) d = known_none e (one_tree d (denotes_nothing e refl))
known (some_value e n) d = let s = of_some e d in known_some e s.is n s.denotes
known (list_value e ns small) d = let s = of_list e d in known_list e s.is ns s.denotes
known (ordered_value e ps small) d = let s = of_ordered e d in known_ordered e s.is ps s.denotes
known (hashed_value e ps small) d = let s = of_hashed e d in known_hashed e s.is ps s.denotes
known (kept_value e ps small) d = let s = of_kept e d in known_kept e s.is ps s.denotes
known (whole_value e n) d = let s = of_whole e d in known_whole e s.is n s.denotes

-- the value of a leaf
pub leaf_value : {v : Value} {t : Tree} → Denotes v t → (l : Leaf) → t ≡ leaf l → LeafValue v l
leaf_value {v = v} (denotes_truth {b = b} e f) l g = let same : truth b ≡ l = cc in subst (LeafValue v) same e
leaf_value {v = v} (denotes_number {n = n} e f) l g = let same : number n ≡ l = cc in subst (LeafValue v) same e
leaf_value {v = v} (denotes_text {s = s} e f) l g = let same : text s ≡ l = cc in subst (LeafValue v) same e
leaf_value (denotes_shared e f) l g = absurd (cc)
leaf_value (denotes_nothing e f) l g = absurd (cc)
leaf_value (denotes_some e f k) l g = absurd (cc)
leaf_value (denotes_list e f k) l g = absurd (cc)
leaf_value (denotes_ordered e f k) l g = absurd (cc)
leaf_value (denotes_hashed e f k) l g = absurd (cc)
leaf_value (denotes_kept e f k) l g = absurd (cc)
leaf_value (denotes_whole e f k) l g = absurd (cc)

-- ---- element i

pub record KnownElement (bytes : List ℕ) (vs : Values) (i : ℕ) (path : List Step) (t : Tree) : Type 0 where
  pub value : Value
  pub tree : Tree
  pub there : value_in i vs ≡ Some value
  pub node : NodeValue bytes value
  pub denotes : Denotes value tree
  pub legal : IsLegal tree
  pub found : node_at tree path ≡ Some t
  pub outside : enters tree path ≡ false

pub known_element : {bytes : List ℕ} {vs : Values} {ts : Trees} (i : ℕ) (path : List Step) (t : Tree) → NodeValues bytes vs → DenoteAll vs ts → AreLegal ts → node_in ts i path ≡ Some t → enters_in ts i path ≡ false → KnownElement bytes vs i path t
known_element i path t ns (denote_none e f) l g o = let h : node_in no_trees i path ≡ Some t = subst (λ x. node_in x i path ≡ Some t) f g in absurd (cc)
known_element i path t (no_nodes n) (denote_more e f d ds) l g o = absurd (cc)
known_element {bytes = bytes} zero path t (more_nodes {v = v'} n h hs) (denote_more {v = v} {t = u} {ts = us} e f d ds) l g o =
    let same : v' ≡ v = cc in
    record {
      value = v;
      tree = u;
      there = ap (value_in 0) e;
      node = subst (NodeValue bytes) same h;
      denotes = d;
      legal = (subst AreLegal f l).0;
      found = subst (λ x. node_in x 0 path ≡ Some t) f g;
      outside = subst (λ x. enters_in x 0 path ≡ false) f o;
    }
known_element {bytes = bytes} (suc i) path t (more_nodes {ws = ws'} n h hs) (denote_more {vs = ws} e f d ds) l g o =
    let same : ws' ≡ ws = cc in
    let k = known_element i path t (subst (NodeValues bytes) same hs) ds (subst AreLegal f l).1 (subst (λ x. node_in x (suc i) path ≡ Some t) f g) (subst (λ x. enters_in x (suc i) path ≡ false) f o) in
    record { value = k.value; tree = k.tree; there = ap (value_in (suc i)) e ∙ k.there; node = k.node; denotes = k.denotes; legal = k.legal; found = k.found; outside = k.outside }

-- ---- the pair with a key

pub record KnownPair (bytes : List ℕ) (vs : Values) (k : List ℕ) (path : List Step) (t : Tree) : Type 0 where
  pub number : ℕ
  pub value : Value
  pub tree : Tree
  pub there : value_in number vs ≡ Some (pair_value k value)
  -- no pair before it has the key
  pub first : (i : ℕ) (other : Value) → i < number → value_in i vs ≡ Some (pair_value k other) → ⊥
  pub node : NodeValue bytes value
  pub denotes : Denotes value tree
  pub legal : IsLegal tree
  pub found : node_at tree path ≡ Some t
  pub outside : enters tree path ≡ false

pub known_pair : {bytes : List ℕ} {vs : Values} {ps : Pairs} (k : List ℕ) (path : List Step) (t : Tree) → PairValues bytes vs → DenotePairs vs ps → AreDistinct ps → node_by ps k path ≡ Some t → enters_by ps k path ≡ false → KnownPair bytes vs k path t
known_pair k path t ns (denote_no_pairs e f) each g o = let h : node_by document.no_pairs k path ≡ Some t = ap (λ x. node_by x k path) (sym f) ∙ g in absurd (cc)
known_pair k path t (no_pairs n) (denote_pair e f d ds) each g o = absurd (cc)
known_pair {bytes = bytes} {vs = vs} k path t (more_pairs {ws = ws'} {k = l'} {v = v'} n utf8 h hs) (denote_pair {k = l} {v = v} {vs = ws} {t = u} {ps = us} e f d ds) each g o =
    by_case (bytes_eq l k) refl (λ there free. known_pair k path t (subst (PairValues bytes) (cc) hs) ds others.2 there free)
  where
    all : node_by (document.more_pairs l u us) k path ≡ Some t
    all = ap (λ x. node_by x k path) (sym f) ∙ g

    free : enters_by (document.more_pairs l u us) k path ≡ false
    free = ap (λ x. enters_by x k path) (sym f) ∙ o

    others : AreDistinct (document.more_pairs l u us)
    others = subst AreDistinct f each

    by_case : (b : Bool) → bytes_eq l k ≡ b → (node_by us k path ≡ Some t → enters_by us k path ≡ false → KnownPair bytes ws k path t) → KnownPair bytes vs k path t
    by_case true keys on =
        let same : v' ≡ v = cc in
        record {
          number = 0;
          value = v;
          tree = u;
          there = ap (value_in 0) e ∙ ap (λ x. Some (pair_value x v)) ((bytes_eq-Decides l k).0 keys);
          first = λ i other less has. absurd (omega (arith, less));
          node = subst (NodeValue bytes) same h;
          denotes = d;
          legal = others.1;
          found = sym (node_here l u us k path keys) ∙ all;
          outside = sym (enters_here l u us k path keys) ∙ free;
        }
    by_case false keys on =
        let r = on (sym (node_past l u us k path keys) ∙ all) (sym (enters_past l u us k path keys) ∙ free) in
        record {
          number = suc r.number;
          value = r.value;
          tree = r.tree;
          there = ap (value_in (suc r.number)) e ∙ r.there;
          first = past r.number r.first;
          node = r.node;
          denotes = r.denotes;
          legal = r.legal;
          found = r.found;
          outside = r.outside;
        }
      where
        past : (n : ℕ) → ((i : ℕ) (other : Value) → i < n → value_in i ws ≡ Some (pair_value k other) → ⊥) → (i : ℕ) (other : Value) → i < suc n → value_in i vs ≡ Some (pair_value k other) → ⊥
        past n before zero other less has =
            let here : Some (pair_value l v) ≡ Some (pair_value k other) = sym (ap (value_in 0) e) ∙ has in
            let same : l ≡ k = cc in
            absurd (true≢false (sym ((bytes_eq-Decides l k).1 same) ∙ keys))
        past n before (suc i) other less has = before i other (omega (arith, less)) (sym (ap (value_in (suc i)) e) ∙ has)
