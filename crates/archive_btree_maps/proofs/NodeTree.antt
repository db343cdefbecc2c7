-- A node's tree by what is read of the node: its entries, with children before, between and after them.
use Rattle.std.proofs.Common.{◌≡◌, ◌∙◌, ℕ, zero, suc, ◌+◌, ◌*◌, ◌^◌, ◌<◌, ◌≤◌, List, [], ◌∷◌, length, Option, Some, None, refl, ap, sym, subst, arith}
use Rattle.std.specs.Prelude.{slice_index}
use Rattle.std.specs.declared.cmp.Ordering.{Ordering}
use Rattle.std.specs.declared.cmp.Ordering.TheVariants.{Less, Equal, Greater}
use Rattle.archive_shape_layout.specs.Bytes.{word_at, target_from}
use Rattle.archive_shape_layout.specs.Shape.{Shape, size_of}
use Rattle.archive_shape_layout.specs.Content.{keys_offset, values_offset, links_offset}
use Rattle.archive_shape_layout.proofs.Framed.{keys_fit, values_fit, links_fit}
use Rattle.archive_btree_layout.specs.Tree.{Tree, Branches, items, items_of}
use Rattle.archive_btree_layout.specs.Tree.Tree.{absent, leaf, inner}
use Rattle.archive_btree_layout.specs.Tree.Branches.{greater, lesser}
use Rattle.archive_btree_layout.specs.Descent.{find_in, descend, descend_in, met, met_in, met_by}
use Rattle.archive_btree_layout.specs.Reading.{Place, places, HasNode, HasBranches, HasChild}
use Rattle.archive_btree_layout.specs.Reading.HasNode.{has_leaf, has_inner}
use Rattle.archive_btree_layout.specs.Reading.HasBranches.{has_greater, has_lesser}
use Rattle.archive_btree_layout.specs.Reading.HasChild.{no_child, a_child}
use Rattle.archive_btree_maps.specs.Descents.{FindsIn, DescendsTo, DescendsIn}
use Rattle.archive_btree_maps.specs.Layout.{IsLayout}
use Rattle.archive_btree_maps.specs.SearchingLayout.{IsTreeAt}
use Rattle.archive_btree_maps.specs.SearchingNodes.{child_of, entry_of, entry_count, pointer_at, link_at, IsReadable}
use Rattle.archive_btree_maps.specs.declared.nodes.layout.NodeLayout.{NodeLayout}
use Rattle.archive_btree_maps.proofs.Pointers.{valid, invalid}

module _ (bytes : List ℕ) (l : NodeLayout) where
  -- what a pointer leads to, by whether it is valid
  abbrev pub ChildIs : ℕ → Option ℕ → Tree Place → Type 0
  ChildIs level None t = t ≡ absent
  ChildIs level (Some p) t = IsTreeAt bytes l level p t

  -- from child i on, with n entries left; the children lie on a level
  pub data Branching (level pos : ℕ) : ℕ → ℕ → Branches Place → Type 0 where
    last :
        {n i : ℕ} {t : Tree Place} {bs : Branches Place}
        → n ≡ 0
        → ChildIs level (child_of bytes l pos i) t
        → bs ≡ greater t
        → Branching level pos n i bs
    more :
        {n m i : ℕ} {t : Tree Place} {bs cs : Branches Place}
        → n ≡ suc m
        → ChildIs level (child_of bytes l pos i) t
        → Branching level pos m (suc i) cs
        → bs ≡ lesser t (entry_of l pos i) cs
        → Branching level pos n i bs

-- entries without children
abbrev pub bare : {A : Type 0} → List A → Branches A
bare [] = greater absent
bare (e ∷ es) = lesser absent e (bare es)

pub items_of_bare : {A : Type 0} (es : List A) → items_of (bare es) ≡ es
items_of_bare [] = refl
items_of_bare (e ∷ es) = ap (λ s. e ∷ s) (items_of_bare es)

pub descend_in_bare : {A : Type 0} (order : A → Ordering) (es : List A) → descend_in order (bare es) ≡ find_in order es
descend_in_bare order [] = refl
descend_in_bare order (e ∷ es) = rw (descend_in_bare order es) refl

pub met_by_bare : {A : Type 0} (order : A → Ordering) (es : List A) → met_by order (bare es) ≡ met_in order es
met_by_bare order [] = refl
met_by_bare order (e ∷ es) = rw (met_by_bare order es) refl

pub said_in_bare : {A : Type 0} (says : A → Ordering → Type 0) (es : List A) (found : Option A) → DescendsIn says (bare es) found → FindsIn says es found
said_in_bare says [] found h = h
said_in_bare says (e ∷ es) found (Less, s, h) = (Less, s, h)
said_in_bare says (e ∷ es) found (Equal, s, h) = (Equal, s, h)
said_in_bare says (e ∷ es) found (Greater, s, h) = (Greater, s, said_in_bare says es found h)

-- the branches of a tree's node: those of an inner node, or the bare entries of a leaf
pub data MadeOf {A : Type 0} (t : Tree A) (bs : Branches A) : Type 0 where
  of_leaf : {es : List A} → t ≡ leaf es → bs ≡ bare es → MadeOf t bs
  of_inner : t ≡ inner bs → MadeOf t bs

pub same_said : {A : Type 0} (says : A → Ordering → Type 0) (t : Tree A) (bs : Branches A) (found : Option A) → MadeOf t bs → DescendsIn says bs found → DescendsTo says t found
same_said says t bs found (of_leaf {es = es} is e) ends = rw is (said_in_bare says es found (rw (sym e) ends))
same_said says t bs found (of_inner is) ends = rw is ends

-- the branches that a tree's node has
pub record HasBranching (bytes : List ℕ) (l : NodeLayout) (level pos : ℕ) (t : Tree Place) : Type 0 where
  pub branches : Branches Place
  pub stand : Branching bytes l (suc level) pos (entry_count bytes l pos) 0 branches
  pub same_items : items t ≡ items_of branches
  pub same_descent : (order : Place → Ordering) → descend order t ≡ descend_in order branches
  pub same_met : (order : Place → Ordering) → met order t ≡ met_by order branches
  pub made : MadeOf t branches

module _ (bytes : List ℕ) (most : ℕ) (k v : Shape) (l : NodeLayout) (lay : IsLayout most k v l) where
  child_is : (level link : ℕ) (t : Tree Place) → HasChild bytes most k v level link t → ChildIs bytes l level (pointer_at bytes link) t
  child_is level link t (no_child a b) = rw (invalid bytes link a) b
  child_is level link t (a_child {pos = pos} a b c) =
      rw (sym (valid bytes link pos a b)) (record { most = most; key = k; value = v; layout = lay; node = c })

  next_key : (pos i key : ℕ) → key ≡ pos + l.keys + i * l.key_size → key + size_of k ≡ pos + l.keys + suc i * l.key_size
  next_key pos i key e = let s = lay.key_size in omega arith

  next_value : (pos i value : ℕ) → value ≡ pos + l.values + i * l.value_size → value + size_of v ≡ pos + l.values + suc i * l.value_size
  next_value pos i value e = let s = lay.value_size in omega arith

  entry_is : (pos i key value : ℕ) → key ≡ pos + l.keys + i * l.key_size → value ≡ pos + l.values + i * l.value_size
      → record { key = key; value = value } ≡ entry_of l pos i
  entry_is pos i key value a b = cc

  -- ---- a leaf's entries have no children

  pub leaf_branching : (level pos len i key value : ℕ) → slice_index bytes pos ≡ 0
      → key ≡ pos + l.keys + i * l.key_size → value ≡ pos + l.values + i * l.value_size
      → Branching bytes l level pos len i (bare (places len k key v value))
  leaf_branching level pos zero i key value kind a b = last {t = absent} refl (rw kind refl) refl
  leaf_branching level pos (suc n) i key value kind a b =
      more {t = absent} refl (rw kind refl)
      (leaf_branching level pos n (suc i) (key + size_of k) (value + size_of v) kind (next_key pos i key a) (next_value pos i value b))
      (ap (λ e. lesser absent e (bare (places n k (key + size_of k) v (value + size_of v)))) (entry_is pos i key value a b))

  -- ---- an inner node's children are those that its pointers lead to

  pub inner_branching : (level pos n i link key value : ℕ) (bs : Branches Place) → slice_index bytes pos ≡ 1
      → link ≡ link_at bytes l pos i → key ≡ pos + l.keys + i * l.key_size → value ≡ pos + l.values + i * l.value_size
      → HasBranches bytes most k v n level link key value bs
      → Branching bytes l level pos n i bs
  inner_branching level pos n i link key value bs kind at a b (has_greater {t = t} z c e) =
      last {t = t} z (rw (kind, sym at) (child_is level link t c)) e
  inner_branching level pos n i link key value bs kind at a b (has_lesser {m = m} {t = t} {cs = cs} z c r e) =
      more {m = m} {t = t} {cs = cs} z (rw (kind, sym at) (child_is level link t c))
      (inner_branching level pos m (suc i) (link + 4) (key + size_of k) (value + size_of v) cs kind (omega arith) (next_key pos i key a) (next_value pos i value b) r)
      (e ∙ ap (λ p. lesser t p cs) (entry_is pos i key value a b))

  pub start_key : (pos : ℕ) → pos + keys_offset k ≡ pos + l.keys + 0 * l.key_size
  start_key pos = let s = lay.keys in omega arith

  pub start_value : (pos : ℕ) → pos + values_offset most k v ≡ pos + l.values + 0 * l.value_size
  start_value pos = let s = lay.values in omega arith

  pub start_link : (pos : ℕ) → pos + links_offset most k v ≡ link_at bytes l pos 0
  start_link pos = let s = lay.links in omega arith

  pub leaf_count : (pos : ℕ) → slice_index bytes pos ≡ 0 → entry_count bytes l pos ≡ word_at bytes (pos + links_offset most k v)
  leaf_count pos kind = rw (kind, lay.links) refl

  pub inner_count : (pos : ℕ) → slice_index bytes pos ≡ 1 → entry_count bytes l pos ≡ most
  inner_count pos kind = rw kind lay.entries

  pub node_branching : (level pos : ℕ) (t : Tree Place) → HasNode bytes most k v level pos t → HasBranching bytes l level pos t
  node_branching level pos t (has_leaf {len = len} a b kind d e f) =
      let es = places len k (pos + keys_offset k) v (pos + values_offset most k v) in
      let count : entry_count bytes l pos ≡ len = leaf_count pos kind ∙ d in
      record {
        branches = bare es;
        stand = rw count (leaf_branching (suc level) pos len 0 (pos + keys_offset k) (pos + values_offset most k v) kind (start_key pos) (start_value pos));
        same_items = rw f (sym (items_of_bare es));
        same_descent = λ order. rw f (sym (descend_in_bare order es));
        same_met = λ order. rw f (sym (met_by_bare order es));
        made = of_leaf f refl;
      }
  node_branching level pos t (has_inner {bs = bs} a b kind d e) =
      record {
        branches = bs;
        stand =
            rw (inner_count pos kind)
            (inner_branching (suc level) pos most 0 (pos + links_offset most k v) (pos + keys_offset k) (pos + values_offset most k v) bs kind (start_link pos) (start_key pos) (start_value pos) d);
        same_items = rw e refl;
        same_descent = λ order. rw e refl;
        same_met = λ order. rw e refl;
        made = of_inner e;
      }

  -- ---- a node can be read

  child_within : (level link : ℕ) (t : Tree Place) → length bytes < 2 ^ 64 → HasChild bytes most k v level link t → (word_at bytes link ≡ 1 → ⊥)
      → (child : ℕ) × (target_from link (word_at bytes link) ≡ Some child) × (child < 2 ^ 64)
  child_within level link t small (no_child a b) other = absurd (other a)
  child_within level link t small (a_child {pos = pos} a b (has_leaf {len = len} c d kind e f g)) other =
      let fit = links_fit 1 most k v in
      (pos, b, omega arith)
  child_within level link t small (a_child {pos = pos} a b (has_inner c d kind e f)) other =
      let fit = links_fit (most + 1) most k v in
      (pos, b, omega arith)

  branch_within : (n i level link key value : ℕ) (bs : Branches Place) → length bytes < 2 ^ 64 → HasBranches bytes most k v n level link key value bs → i ≤ n
      → (word_at bytes (link + 4 * i) ≡ 1 → ⊥)
      → (child : ℕ) × (target_from (link + 4 * i) (word_at bytes (link + 4 * i)) ≡ Some child) × (child < 2 ^ 64)
  branch_within n i level link key value bs small (has_greater {t = t} z c e) below other =
      let here : link ≡ link + 4 * i = omega arith in
      child_within level (link + 4 * i) t small (subst (λ l. HasChild bytes most k v level l t) here c) other
  branch_within n zero level link key value bs small (has_lesser {t = t} z c r e) below other =
      let here : link ≡ link + 4 * 0 = omega arith in
      child_within level (link + 4 * 0) t small (subst (λ l. HasChild bytes most k v level l t) here c) other
  branch_within n (suc i) level link key value bs small (has_lesser {m = m} {cs = cs} z c r e) below other =
      let here : link + 4 * suc i ≡ link + 4 + 4 * i = omega arith in
      rw here (branch_within m i level (link + 4) (key + size_of k) (value + size_of v) cs small r (omega arith) (λ w. other (rw here w)))

  pub readable : (level pos : ℕ) (t : Tree Place) → length bytes < 2 ^ 64 → HasNode bytes most k v level pos t → IsReadable bytes l pos
  readable level pos t small (has_leaf {len = len} a b kind d e f) =
      let fit = links_fit 1 most k v in
      record {
        keys = rw (lay.keys, lay.key_size, lay.links, lay.entries) (omega (arith, keys_fit 0 most k v, values_fit most k v));
        values = rw (lay.values, lay.value_size, lay.links, lay.entries) (values_fit most k v);
        link = rw lay.links (omega arith);
        count = rw (leaf_count pos kind, lay.entries) (omega arith);
        links = λ other. absurd (other kind);
        leads = λ other. absurd (other kind);
      }
  readable level pos t small (has_inner {bs = bs} a b kind d e) =
      let fit = links_fit (most + 1) most k v in
      record {
        keys = rw (lay.keys, lay.key_size, lay.links, lay.entries) (omega (arith, keys_fit 0 most k v, values_fit most k v));
        values = rw (lay.values, lay.value_size, lay.links, lay.entries) (values_fit most k v);
        link = rw lay.links (omega arith);
        count = rw (inner_count pos kind, lay.entries) (omega arith);
        links = λ other. rw (lay.links, lay.entries) (omega arith);
        leads = λ other i below.
            rw lay.links
            (branch_within most i (suc level) (pos + links_offset most k v) (pos + keys_offset k) (pos + values_offset most k v) bs small d (rw (sym lay.entries) below));
      }

  pub node_level : (level pos : ℕ) (t : Tree Place) → HasNode bytes most k v level pos t → level ≤ 32
  node_level level pos t (has_leaf a b c d e f) = a
  node_level level pos t (has_inner a b c d e) = a

-- ---- the same of a tree whose nodes have a layout

module _ (bytes : List ℕ) (l : NodeLayout) (level pos : ℕ) (t : Tree Place) (is : IsTreeAt bytes l level pos t) where
  pub tree_branching : HasBranching bytes l level pos t
  tree_branching = node_branching bytes is.most is.key is.value l is.layout level pos t is.node

  pub tree_level : level ≤ 32
  tree_level = node_level bytes is.most is.key is.value l is.layout level pos t is.node

  pub tree_readable : length bytes < 2 ^ 64 → IsReadable bytes l pos
  tree_readable small = readable bytes is.most is.key is.value l is.layout level pos t small is.node
