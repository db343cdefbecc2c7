-- What a walk has left stays where the nodes of the tree do.
use Rattle.std.proofs.Common.{◌≡◌, ◌∙◌, ℕ, zero, suc, ◌+◌, ◌-◌, ◌*◌, ◌<◌, ◌≤◌, List, ◌∷◌, length, Some, None, refl, ap, sym, subst, arith}
use Rattle.std.specs.Prelude.{slice_index}
use Rattle.archive_shape_layout.specs.Bytes.{word_at, target_from}
use Rattle.archive_shape_layout.specs.Shape.{Shape, size_of}
use Rattle.archive_shape_layout.specs.Content.{keys_offset, values_offset, links_offset}
use Rattle.archive_btree_layout.specs.Tree.{Tree, Branches, items}
use Rattle.archive_btree_layout.specs.Changing.{IsNodeOf}
use Rattle.archive_btree_layout.specs.Changing.IsNodeOf.{is_top, is_below}
use Rattle.archive_btree_layout.specs.Reading.{Place, places, HasNode, HasBranches, HasChild}
use Rattle.archive_btree_layout.specs.Reading.HasNode.{has_leaf, has_inner}
use Rattle.archive_btree_layout.specs.Reading.HasBranches.{has_greater, has_lesser}
use Rattle.archive_btree_layout.specs.Reading.HasChild.{no_child, a_child}
use Rattle.archive_btree_layout.proofs.Descending.{length-places}
use Rattle.archive_btree_maps.specs.Layout.{IsLayout}
use Rattle.archive_btree_maps.specs.declared.nodes.layout.NodeLayout.{NodeLayout}
use Rattle.archive_btree_maps.specs.SearchingLayout.{IsTreeAt}
use Rattle.archive_btree_maps.specs.SearchingNodes.{entry_count, entry_of, child_of, pointer_at, link_at}
use Rattle.archive_btree_maps.specs.Ranges.{before_key}
use Rattle.archive_btree_maps.specs.Walking.{items_from, node_items, frame_items, stack_items}
use Rattle.archive_btree_maps.specs.Stepping.{IsReached, HasLeft}
use Rattle.archive_btree_maps.specs.Stepping.IsReached.{is_root, is_child}
use Rattle.archive_btree_maps.specs.declared.nodes.searching.stepping.EntryWalk.{EntryWalk}
use Rattle.archive_btree_maps.proofs.Pointers.{valid, invalid}
use Rattle.archive_btree_maps.proofs.NodeTree.{Branching, bare, leaf_branching, inner_branching, start_key, start_value, start_link, leaf_count, inner_count, node_level}
use Rattle.archive_btree_maps.proofs.NodeTree.Branching.{last, more}
use Rattle.archive_btree_maps.proofs.Walked.{branches_same, node_same}

module _ (most : ℕ) (k v : Shape) (l : NodeLayout) (lay : IsLayout most k v l) where
  -- ---- a node that two lists of bytes have

  module _ (bytes others : List ℕ) where
    -- it has the same entries and children in both
    record IsAlike (level pos : ℕ) : Type 0 where
      count : entry_count others l pos ≡ entry_count bytes l pos
      branches : Branches Place
      here : Branching bytes l (suc level) pos (entry_count bytes l pos) 0 branches
      there : Branching others l (suc level) pos (entry_count bytes l pos) 0 branches

    node_alike : (level pos : ℕ) (u : Tree Place) → HasNode bytes most k v level pos u → HasNode others most k v level pos u → IsAlike level pos
    node_alike level pos u (has_leaf {len = n} a b kind d e f) (has_leaf {len = m} a2 b2 kind2 d2 e2 f2) =
        let key = pos + keys_offset k in
        let value = pos + values_offset most k v in
        let es : places m k key v value ≡ places n k key v value = cc in
        let same : m ≡ n = sym (length-places m k key v value) ∙ ap length es ∙ length-places n k key v value in
        let here : entry_count bytes l pos ≡ n = leaf_count bytes most k v l lay pos kind ∙ d in
        let there : entry_count others l pos ≡ m = leaf_count others most k v l lay pos kind2 ∙ d2 in
        record {
          count = there ∙ same ∙ sym here;
          branches = bare (places n k key v value);
          here = rw here (leaf_branching bytes most k v l lay (suc level) pos n 0 key value kind (start_key bytes most k v l lay pos) (start_value bytes most k v l lay pos));
          there = rw here (leaf_branching others most k v l lay (suc level) pos n 0 key value kind2 (start_key others most k v l lay pos) (start_value others most k v l lay pos));
        }
    node_alike level pos u (has_inner {bs = bs} a b kind d e) (has_inner {bs = cs} a2 b2 kind2 d2 e2) =
        let link = pos + links_offset most k v in
        let key = pos + keys_offset k in
        let value = pos + values_offset most k v in
        let same : cs ≡ bs = cc in
        let here : entry_count bytes l pos ≡ most = inner_count bytes most k v l lay pos kind in
        record {
          count = inner_count others most k v l lay pos kind2 ∙ sym here;
          branches = bs;
          here = rw here (inner_branching bytes most k v l lay (suc level) pos most 0 link key value bs kind (start_link bytes most k v l lay pos) (start_key bytes most k v l lay pos) (start_value bytes most k v l lay pos) d);
          there =
              rw here
              (inner_branching others most k v l lay (suc level) pos most 0 link key value bs kind2 (start_link others most k v l lay pos) (start_key others most k v l lay pos) (start_value others most k v l lay pos)
              (subst (HasBranches others most k v most (suc level) link key value) same d2));
        }
    node_alike level pos u (has_leaf a b kind d e f) (has_inner a2 b2 kind2 d2 e2) = absurd cc
    node_alike level pos u (has_inner a b kind d e) (has_leaf a2 b2 kind2 d2 e2 f2) = absurd cc

    -- what is left of it is the same
    module _ (level : ℕ) (below under : ℕ → List Place) (same : (pos : ℕ) (t : Tree Place) → IsTreeAt bytes l level pos t → below pos ≡ items t) (alike : (pos : ℕ) (t : Tree Place) → IsTreeAt others l level pos t → under pos ≡ items t) where
      from_same : (pos n i d : ℕ) (bs : Branches Place) → d ≤ n → Branching bytes l level pos n i bs → Branching others l level pos n i bs
          → items_from others l under pos (n - d) (i + d) ≡ items_from bytes l below pos (n - d) (i + d)
      from_same pos n i d bs within (last z c e) b =
          let none : n - d ≡ 0 = omega arith in
          rw none refl
      from_same pos n i d bs within (more z c r e) (last y f g) = absurd (omega arith)
      from_same pos n i zero bs within (more {m = m} {cs = cs} z c r e) (more {m = o} {cs = ds} y f s g) =
          let first : n - 0 ≡ suc m = omega arith in
          let at : i + 0 ≡ i = omega arith in
          let one : o ≡ m = omega arith in
          let rest : ds ≡ cs = cc in
          let there : Branching others l level pos m (suc i) cs = subst (λ x. Branching others l level pos m (suc i) x) rest (subst (λ x. Branching others l level pos x (suc i) ds) one s) in
          rw (first, at)
          (ap (λ xs. entry_of l pos i ∷ xs) (branches_same others l under level alike pos m (suc i) cs there ∙ sym (branches_same bytes l below level same pos m (suc i) cs r)))
      from_same pos n i (suc d) bs within (more {m = m} {cs = cs} z c r e) (more {m = o} {cs = ds} y f s g) =
          let less : n - suc d ≡ m - d = omega arith in
          let at : i + suc d ≡ suc i + d = omega arith in
          let one : o ≡ m = omega arith in
          let rest : ds ≡ cs = cc in
          let there : Branching others l level pos m (suc i) cs = subst (λ x. Branching others l level pos m (suc i) x) rest (subst (λ x. Branching others l level pos x (suc i) ds) one s) in
          rw (less, at) (from_same pos m (suc i) d cs (omega arith) r there)

    frame_same : (level pos next : ℕ) (u : Tree Place) → HasNode bytes most k v level pos u → HasNode others most k v level pos u → next ≤ entry_count bytes l pos
        → frame_items others l (32 - level) pos next ≡ frame_items bytes l (32 - level) pos next
    frame_same level pos next u h g within =
        let deep = node_level bytes most k v l lay level pos u h in
        let a = node_alike level pos u h g in
        let sum : suc level + (32 - level) ≡ 33 = omega arith in
        let zero_next : 0 + next ≡ next = omega arith in
        let below = node_items bytes l (32 - level) in
        let under = node_items others l (32 - level) in
        let count = entry_count bytes l pos in
        rw a.count
        (subst (λ n. items_from others l under pos (count - next) n ≡ items_from bytes l below pos (count - next) n) zero_next
        (from_same (suc level) below under (λ p t is. node_same bytes l (32 - level) (suc level) p t sum is) (λ p t is. node_same others l (32 - level) (suc level) p t sum is)
        pos count 0 next a.branches within a.here a.there))

    -- a node that both have, and what is left of it
    record StandsInBoth (d pos next : ℕ) : Type 0 where
      tree : Tree Place
      here : HasNode bytes most k v (suc d) pos tree
      there : HasNode others most k v (suc d) pos tree
      within : next ≤ entry_count bytes l pos

    stack_stays : (nodes nexts : List ℕ) (depth : ℕ) → ((d : ℕ) → d < depth → StandsInBoth d (slice_index nodes d) (slice_index nexts d))
        → stack_items others l nodes nexts depth ≡ stack_items bytes l nodes nexts depth
    stack_stays nodes nexts zero stand = refl
    stack_stays nodes nexts (suc d) stand =
        let s = stand d (omega arith) in
        let levels : 32 - suc d ≡ 31 - d = omega arith in
        let first : frame_items others l (31 - d) (slice_index nodes d) (slice_index nexts d) ≡ frame_items bytes l (31 - d) (slice_index nodes d) (slice_index nexts d) =
        subst (λ n. frame_items others l n (slice_index nodes d) (slice_index nexts d) ≡ frame_items bytes l n (slice_index nodes d) (slice_index nexts d)) levels
        (frame_same (suc d) (slice_index nodes d) (slice_index nexts d) s.tree s.here s.there s.within)
        in
        rw (first, stack_stays nodes nexts d (λ e below. stand e (omega arith))) refl

  -- ---- nodes of the tree

  link_is : (bytes : List ℕ) (pos i : ℕ) → link_at bytes l pos i ≡ pos + links_offset most k v + i * 4
  link_is bytes pos i = let s = lay.links in omega arith

  module _ (bytes : List ℕ) where
    child_at : (n i level link key value : ℕ) (bs : Branches Place) → HasBranches bytes most k v n level link key value bs → i ≤ n → (t : Tree Place) × HasChild bytes most k v level (link + i * 4) t
    child_at n i level link key value bs (has_greater {t = t} z c e) within =
        let here : link ≡ link + i * 4 = omega arith in
        (t, subst (λ x. HasChild bytes most k v level x t) here c)
    child_at n zero level link key value bs (has_lesser {t = t} z c r e) within =
        let here : link ≡ link + 0 * 4 = omega arith in
        (t, subst (λ x. HasChild bytes most k v level x t) here c)
    child_at n (suc i) level link key value bs (has_lesser {m = m} {cs = cs} z c r e) within =
        let here : link + 4 + i * 4 ≡ link + suc i * 4 = omega arith in
        let rest = child_at m i level (link + 4) (key + size_of k) (value + size_of v) cs r (omega arith) in
        (rest.0, subst (λ x. HasChild bytes most k v level x rest.0) here rest.1)

    -- where child i of a node leads
    record IsChildOf (level pos i child : ℕ) : Type 0 where
      kind : slice_index bytes pos ≡ 1
      within : i ≤ most
      away : word_at bytes (pos + links_offset most k v + i * 4) ≡ 1 → ⊥
      leads : target_from (pos + links_offset most k v + i * 4) (word_at bytes (pos + links_offset most k v + i * 4)) ≡ Some child
      tree : Tree Place
      node : HasNode bytes most k v (suc level) child tree

    followed : (level pos i child : ℕ) (t : Tree Place) → slice_index bytes pos ≡ 1 → i ≤ most
        → pointer_at bytes (pos + links_offset most k v + i * 4) ≡ Some child
        → HasChild bytes most k v (suc level) (pos + links_offset most k v + i * 4) t → IsChildOf level pos i child
    followed level pos i child t kind within is (no_child word e) =
        let none = invalid bytes (pos + links_offset most k v + i * 4) word in
        absurd cc
    followed level pos i child t kind within is (a_child {pos = q} away leads node) =
        let some = valid bytes (pos + links_offset most k v + i * 4) q away leads in
        let same : q ≡ child = cc in
        record { kind = kind; within = within; away = away; leads = leads ∙ ap Some same; tree = t; node = subst (λ x. HasNode bytes most k v (suc level) x t) same node }

    child_is : (level pos i child : ℕ) (u : Tree Place) → HasNode bytes most k v level pos u → i ≤ entry_count bytes l pos → child_of bytes l pos i ≡ Some child → IsChildOf level pos i child
    child_is level pos i child u (has_leaf a b kind d e f) within is = let none : child_of bytes l pos i ≡ None = rw kind refl in absurd cc
    child_is level pos i child u (has_inner {bs = bs} a b kind d e) within is =
        let few : i ≤ most = subst (λ n. i ≤ n) (inner_count bytes most k v l lay pos kind) within in
        let c = child_at most i (suc level) (pos + links_offset most k v) (pos + keys_offset k) (pos + values_offset most k v) bs d few in
        let pointer : pointer_at bytes (link_at bytes l pos i) ≡ Some child = rw kind at is in
        followed level pos i child c.0 kind few (subst (λ x. pointer_at bytes x ≡ Some child) (link_is bytes pos i) pointer) c.1

    -- a node that is reached, and what is below it is below the root
    record IsBelowRoot (root depth pos : ℕ) : Type 0 where
      tree : Tree Place
      node : HasNode bytes most k v (suc depth) pos tree
      below : (node_level node_pos : ℕ) (u : Tree Place) → IsNodeOf bytes most k v node_level node_pos u (suc depth) pos → IsNodeOf bytes most k v node_level node_pos u 1 root

    reached_node : (root : ℕ) (t : Tree Place) → HasNode bytes most k v 1 root t → (depth pos : ℕ) → IsReached bytes l root depth pos → IsBelowRoot root depth pos
    reached_node root t top depth pos (is_root e f) =
        subst (λ d. IsBelowRoot root d pos) (sym e) (subst (λ p. IsBelowRoot root 0 p) (sym f) (record { tree = t; node = top; below = λ node_level node_pos u below. below }))
    reached_node root t top depth pos (is_child {above = above} {parent = parent} {i = i} e r within is) =
        let p = reached_node root t top above parent r in
        let c = child_is (suc above) parent i pos p.tree p.node within is in
        subst (λ d. IsBelowRoot root d pos) (sym e)
        (record {
          tree = c.tree;
          node = c.node;
          below = λ node_level node_pos u below. p.below node_level node_pos u (is_below c.kind c.within c.away c.leads below);
        })

    -- the other way round
    node_reached : (root node_level node_pos : ℕ) (u : Tree Place) (depth level pos d : ℕ) → level ≡ suc depth → node_level ≡ suc d → IsReached bytes l root depth pos
        → IsNodeOf bytes most k v node_level node_pos u level pos → IsReached bytes l root d node_pos
    node_reached root node_level node_pos u depth level pos d e f r (is_top g h node) =
        let same : depth ≡ d = omega arith in
        subst (λ x. IsReached bytes l root x node_pos) same (subst (IsReached bytes l root depth) h r)
    node_reached root node_level node_pos u depth level pos d e f r (is_below {i = i} {child = child} kind within away leads below) =
        let few : i ≤ entry_count bytes l pos = subst (λ n. i ≤ n) (sym (inner_count bytes most k v l lay pos kind)) within in
        let pointer : pointer_at bytes (link_at bytes l pos i) ≡ Some child =
        subst (λ x. pointer_at bytes x ≡ Some child) (sym (link_is bytes pos i)) (sym (valid bytes (pos + links_offset most k v + i * 4) child away leads))
        in
        let leads_on : child_of bytes l pos i ≡ Some child = rw kind pointer in
        node_reached root node_level node_pos u (suc depth) (suc level) child d (ap suc e) f (is_child refl r few leads_on) below

    node_stands : (node_level node_pos : ℕ) (u : Tree Place) (level pos : ℕ) → IsNodeOf bytes most k v node_level node_pos u level pos → HasNode bytes most k v node_level node_pos u
    node_stands node_level node_pos u level pos (is_top e f node) = node
    node_stands node_level node_pos u level pos (is_below {level = at} {child = child} kind within away leads below) = node_stands node_level node_pos u (suc at) child below

  -- ---- walks

  module _ (bytes others : List ℕ) (root : ℕ) (t : Tree Place) (top : HasNode bytes most k v 1 root t) (stay : (level pos : ℕ) (u : Tree Place) → IsNodeOf bytes most k v level pos u 1 root → IsNodeOf others most k v level pos u 1 root) where
    -- a node that is reached lies in both, and is reached in the other
    record StaysReached (depth pos : ℕ) : Type 0 where
      tree : Tree Place
      here : HasNode bytes most k v (suc depth) pos tree
      there : HasNode others most k v (suc depth) pos tree
      reached : IsReached others l root depth pos

    stays_reached : (depth pos : ℕ) → IsReached bytes l root depth pos → StaysReached depth pos
    stays_reached depth pos r =
        let b = reached_node bytes root t top depth pos r in
        let of_bytes = b.below (suc depth) pos b.tree (is_top refl refl b.node) in
        let of_others = stay (suc depth) pos b.tree of_bytes in
        record {
          tree = b.tree;
          here = b.node;
          there = node_stands others (suc depth) pos b.tree 1 root of_others;
          reached = node_reached others root (suc depth) pos b.tree 0 1 root depth refl refl (is_root refl refl) of_others;
        }

    -- a walk has the same left in both
    pub left_stays : (w : EntryWalk) (es : List Place) → HasLeft bytes l root w es → HasLeft others l root w es
    left_stays w es h =
        let nodes = w.stack.nodes in
        let nexts = w.stack.nexts in
        let s = h.stands in
        let both : (d : ℕ) → d < w.stack.depth → StandsInBoth bytes others d (slice_index nodes d) (slice_index nexts d) =
        λ d below.
        let r = stays_reached d (slice_index nodes d) (h.reached d below) in
        let f = s.frames d below in
        record { tree = r.tree; here = r.here; there = r.there; within = f.within }
        in
        record {
          layout = h.layout;
          stands =
              record {
                room = s.room;
                space = s.space;
                within = s.within;
                frames = λ d below.
                    let b = both d below in
                    let a = node_alike bytes others (suc d) (slice_index nodes d) b.tree b.here b.there in
                    let step : suc d ≡ d + 1 = omega arith in
                    record {
                      tree = b.tree;
                      stands = record { most = most; key = k; value = v; layout = lay; node = subst (λ x. HasNode others most k v x (slice_index nodes d) b.tree) step b.there };
                      within = subst (λ n. slice_index nexts d ≤ n) (sym a.count) b.within;
                    };
              };
          reached = λ d below. (stays_reached d (slice_index nodes d) (h.reached d below)).reached;
          left = ap (before_key w.end) (stack_stays bytes others nodes nexts w.stack.depth both) ∙ h.left;
        }
