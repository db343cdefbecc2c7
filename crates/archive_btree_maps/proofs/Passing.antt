-- The descent to the first item that does not pass a test.
use Rattle.std.proofs.Common.{◌≡◌, ◌∙◌, ℕ, zero, suc, ◌+◌, ◌-◌, ◌<◌, ◌≤◌, List, [], ◌∷◌, ◌++◌, length, set, Bool, true, false, Option, Some, None, refl, ap, sym, subst, arith, append_assoc, add-one, append-nil}
use Rattle.std.specs.Prelude.{All, filter, not}
use Rattle.std.proofs.lemmas.List.Elements.{filter-append}
use Rattle.archive_btree_layout.specs.Tree.{Tree, items}
use Rattle.archive_btree_layout.specs.Reading.{Place}
use Rattle.archive_btree_maps.specs.SearchingLayout.{IsTreeAt}
use Rattle.archive_btree_maps.specs.SearchingNodes.{child_of, entry_of, entry_count}
use Rattle.archive_btree_maps.specs.Walking.{child_items, items_from, node_items, frame_items, stack_items}
use Rattle.archive_btree_maps.specs.Ranges.{Decides, Stays, IfFirst}
use Rattle.archive_btree_maps.specs.declared.nodes.layout.NodeLayout.{NodeLayout}
use Rattle.archive_btree_maps.proofs.NodeSearch.{own_holds}
use Rattle.archive_btree_maps.proofs.Sublists.{all_front, all_back, pairs_front, pairs_back, filter_all, filter_none, stays_all, stays_none}
use Rattle.archive_btree_maps.proofs.NodeTree.{tree_level}
use Rattle.archive_btree_maps.proofs.Walked.{Pushes, pushed, pushed_items, leads_some, items_before, node_parted, node_same, empty_stack, empty_items}

module _ (bytes : List ℕ) (l : NodeLayout) where
  -- ---- the items of a node, where a test stays true

  module _ (f : Place → Bool) (below : ℕ → List Place) (pos : ℕ) where
    before_none : (n i : ℕ) → Stays f (items_before bytes l below pos n i) → ((j d : ℕ) → j ≡ i + d → d < n → f (entry_of l pos j) ≡ false)
        → filter f (items_before bytes l below pos n i) ≡ []
    before_none zero i h own = refl
    before_none (suc n) i h own =
        let first = child_items bytes l below (child_of bytes l pos i) in
        let e = entry_of l pos i in
        let rest = items_before bytes l below pos n (suc i) in
        let this : f e ≡ false = own i 0 (omega arith) (omega arith) in
        let one = filter_none f first (stays_none f first rest e h this) in
        let later = pairs_back (λ a b. f a ≡ true → f b ≡ true) (first ++ e ∷ []) rest (subst (Stays f) (sym (append_assoc first (e ∷ []) rest)) h) in
        let others = before_none n (suc i) later (λ j d at less. own j (suc d) (omega arith) (omega arith)) in
        filter-append f first (e ∷ rest) ∙ rw (one, this) others

    from_all : (n i : ℕ) → Stays f (items_from bytes l below pos n i) → (0 < n → f (entry_of l pos i) ≡ true)
        → filter f (items_from bytes l below pos n i) ≡ items_from bytes l below pos n i
    from_all zero i h own = refl
    from_all (suc n) i h own =
        let rest = child_items bytes l below (child_of bytes l pos (suc i)) ++ items_from bytes l below pos n (suc i) in
        filter_all f (entry_of l pos i ∷ rest) (stays_all f (entry_of l pos i) rest h (own (omega arith)))

  first_from : (P : Place → Type 0) (below : ℕ → List Place) (pos n i : ℕ) (others : List Place) → (0 < n → P (entry_of l pos i)) → IfFirst P others
      → IfFirst P (items_from bytes l below pos n i ++ others)
  first_from P below pos zero i others own h = h
  first_from P below pos (suc n) i others own h = own (omega arith)

  -- the items before child `next` do not pass, and those after it do
  node_filtered : (f : Place → Bool) (levels pos next : ℕ) → next ≤ entry_count bytes l pos → Stays f (node_items bytes l (suc levels) pos)
      → ((i : ℕ) → i < next → f (entry_of l pos i) ≡ false) → (next < entry_count bytes l pos → f (entry_of l pos next) ≡ true)
      → filter f (node_items bytes l (suc levels) pos)
      ≡ filter f (child_items bytes l (node_items bytes l levels) (child_of bytes l pos next)) ++ frame_items bytes l levels pos next
  node_filtered f levels pos next within h passed ends =
      let under = node_items bytes l levels in
      let front = items_before bytes l under pos next 0 in
      let inner = child_items bytes l under (child_of bytes l pos next) in
      let own = frame_items bytes l levels pos next in
      let parts = node_parted bytes l levels pos next within in
      let whole = subst (Stays f) parts h in
      let back = pairs_back (λ a b. f a ≡ true → f b ≡ true) front (inner ++ own) whole in
      let none = before_none f under pos next 0 (pairs_front (λ a b. f a ≡ true → f b ≡ true) front (inner ++ own) whole) (λ j d at less. passed j (omega arith)) in
      let all =
      from_all f under pos (entry_count bytes l pos - next) next (pairs_back (λ a b. f a ≡ true → f b ≡ true) inner own back) (λ some. ends (omega arith))
      in
      ap (filter f) parts ∙ filter-append f front (inner ++ own) ∙ ap (λ s. s ++ filter f (inner ++ own)) none ∙ filter-append f inner own
      ∙ ap (λ s. filter f inner ++ s) all

  -- ---- a stack on which a child is still to be pushed, of a descent to the first item that does not pass

  module _ {F : Type 0} (pre : F → ℕ → Type 0) (post : F → ℕ → Bool → Type 0) (passes : F) where
    pub record IsPassing (nodes nexts : List ℕ) (depth : ℕ) (child : Option ℕ) (whole : List Place) : Type 0 where
      pub before : List Place
      pub pushes : Pushes bytes l nodes nexts depth child before whole
      pub callable : All (λ e. pre passes e.key) (child_items bytes l (node_items bytes l (32 - depth)) child)
      pub first : IfFirst (λ e. post passes e.key false) (stack_items bytes l nodes nexts depth)
      pub rest :
          (test : Place → Bool) → Decides post passes test whole → Stays (λ e. not (test e)) whole
          → filter (λ e. not (test e)) whole
          ≡ filter (λ e. not (test e)) (child_items bytes l (node_items bytes l (32 - depth)) child) ++ stack_items bytes l nodes nexts depth

    module _ (nodes nexts : List ℕ) (depth pos : ℕ) (child : Option ℕ) (whole : List Place) (p : IsPassing nodes nexts depth child whole) (is : child ≡ Some pos) where
      levels : 32 - depth ≡ suc (31 - depth)
      levels = omega (arith, let at = leads_some bytes l (depth + 1) child pos p.pushes.leads is in tree_level bytes l (depth + 1) pos at.0 at.1)

      -- what holds of all items of the node holds of its entries
      own_all : (P : Place → Type 0) → All P (node_items bytes l (suc (31 - depth)) pos) → (i : ℕ) → i < entry_count bytes l pos → P (entry_of l pos i)
      own_all P all i below =
          let at = leads_some bytes l (depth + 1) child pos p.pushes.leads is in
          own_holds bytes l (depth + 1) pos at.0 at.1 P
          (subst (All P) (node_same bytes l (suc (31 - depth)) (depth + 1) pos at.0 (omega (arith, levels)) at.1) all) i below

      node_here : child_items bytes l (node_items bytes l (32 - depth)) child ≡ node_items bytes l (suc (31 - depth)) pos
      node_here = rw (is, levels) refl

      pub own_callable : (i : ℕ) → i < entry_count bytes l pos → pre passes (entry_of l pos i).key
      own_callable = own_all (λ e. pre passes e.key) (subst (All (λ e. pre passes e.key)) node_here p.callable)

      module _ (next : ℕ) (behind : Option ℕ) (within : next ≤ entry_count bytes l pos) (leads : behind ≡ child_of bytes l pos next)
          (passed : (i : ℕ) → i < next → post passes (entry_of l pos i).key true)
          (ends : next < entry_count bytes l pos → post passes (entry_of l pos next).key false) where
        parts : node_items bytes l (suc (31 - depth)) pos
            ≡ items_before bytes l (node_items bytes l (31 - depth)) pos next 0
            ++ (child_items bytes l (node_items bytes l (31 - depth)) (child_of bytes l pos next) ++ frame_items bytes l (31 - depth) pos next)
        parts = node_parted bytes l (31 - depth) pos next within

        stack_is : stack_items bytes l (set nodes depth pos) (set nexts depth next) (depth + 1) ≡ frame_items bytes l (31 - depth) pos next ++ stack_items bytes l nodes nexts depth
        stack_is =
            let s = p.pushes.stands in
            let room = s.room in
            let space = s.space in
            rw (add-one depth) (pushed_items bytes l nodes nexts depth pos next (omega (arith, levels)) (omega (arith, levels)))

        behind_is : child_items bytes l (node_items bytes l (32 - (depth + 1))) behind ≡ child_items bytes l (node_items bytes l (31 - depth)) (child_of bytes l pos next)
        behind_is =
            let below : 32 - (depth + 1) ≡ 31 - depth = omega arith in
            rw (below, leads) refl

        whole_is : p.before ++ (node_items bytes l (suc (31 - depth)) pos ++ stack_items bytes l nodes nexts depth) ≡ whole
        whole_is = ap (λ s. p.before ++ (s ++ stack_items bytes l nodes nexts depth)) (sym node_here) ∙ p.pushes.left

        rest_on : (test : Place → Bool) → Decides post passes test whole → Stays (λ e. not (test e)) whole
            → filter (λ e. not (test e)) whole
            ≡ filter (λ e. not (test e)) (child_items bytes l (node_items bytes l (31 - depth)) (child_of bytes l pos next))
            ++ (frame_items bytes l (31 - depth) pos next ++ stack_items bytes l nodes nexts depth)
        rest_on test decides stays =
            let f : Place → Bool = λ e. not (test e) in
            let node = node_items bytes l (suc (31 - depth)) pos in
            let others = stack_items bytes l nodes nexts depth in
            let inner = child_items bytes l (node_items bytes l (31 - depth)) (child_of bytes l pos next) in
            let own = frame_items bytes l (31 - depth) pos next in
            let D : Place → Type 0 = λ e. (r : Bool) → post passes e.key r → r ≡ test e in
            let decided = all_front D node others (all_back D p.before (node ++ others) (subst (All D) (sym whole_is) decides)) in
            let R : Place → Place → Type 0 = λ a b. f a ≡ true → f b ≡ true in
            let kept = pairs_front R node others (pairs_back R p.before (node ++ others) (subst (Stays f) (sym whole_is) stays)) in
            let no : (i : ℕ) → i < next → f (entry_of l pos i) ≡ false = λ i below. rw (sym (own_all D decided i (omega arith) true (passed i below))) refl in
            let yes : next < entry_count bytes l pos → f (entry_of l pos next) ≡ true = λ below. rw (sym (own_all D decided next below false (ends below))) refl in
            p.rest test decides stays ∙ ap (λ s. filter f s ++ others) node_here
            ∙ ap (λ s. s ++ others) (node_filtered f (31 - depth) pos next within kept no yes)
            ∙ append_assoc (filter f inner) own others

        pub passing_on : IsPassing (set nodes depth pos) (set nexts depth next) (depth + 1) behind whole
        passing_on =
            let P : Place → Type 0 = λ e. pre passes e.key in
            let under = node_items bytes l (31 - depth) in
            let front = items_before bytes l under pos next 0 in
            let inner = child_items bytes l under (child_of bytes l pos next) in
            let own = frame_items bytes l (31 - depth) pos next in
            record {
              before = p.before ++ front;
              pushes = pushed bytes l nodes nexts depth pos next child behind p.before whole p.pushes is within leads;
              callable =
                  subst (All P) (sym behind_is) (all_front P inner own (all_back P front (inner ++ own) (subst (All P) (node_here ∙ parts) p.callable)));
              first =
                  subst (IfFirst (λ e. post passes e.key false)) (sym stack_is)
                  (first_from (λ e. post passes e.key false) under pos (entry_count bytes l pos - next) next (stack_items bytes l nodes nexts depth) (λ some. ends (omega arith)) p.first);
              rest = λ test decides stays.
                  rest_on test decides stays
                  ∙ ap (λ s. filter (λ e. not (test e)) s ++ (own ++ stack_items bytes l nodes nexts depth)) (sym behind_is)
                  ∙ ap (λ s. filter (λ e. not (test e)) (child_items bytes l (node_items bytes l (32 - (depth + 1))) behind) ++ s) (sym stack_is);
            }

    -- nothing but the root is still to be pushed
    pub passing_root : (nodes nexts : List ℕ) (depth root levels : ℕ) (t : Tree Place) → length nodes ≡ 32 → length nexts ≡ 32 → depth ≡ 0 → levels ≡ 32 - depth
        → IsTreeAt bytes l 1 root t → All (λ e. pre passes e.key) (items t) → IsPassing nodes nexts depth (Some root) (node_items bytes l levels root)
    passing_root nodes nexts depth root levels t room space z e is all =
        let here : 1 ≡ depth + 1 = omega arith in
        let none = empty_items bytes l nodes nexts depth z in
        let same = node_same bytes l (32 - depth) 1 root t (omega arith) is in
        let P : Place → Type 0 = λ p. pre passes p.key in
        let same_level : node_items bytes l levels root ≡ node_items bytes l (32 - depth) root = ap (λ m. node_items bytes l m root) e in
        record {
          before = [];
          pushes =
              record {
                stands = empty_stack bytes l nodes nexts depth room space z;
                leads = (t, subst (λ i. IsTreeAt bytes l i root t) here is);
                left = ap (λ s. node_items bytes l (32 - depth) root ++ s) none ∙ append-nil (node_items bytes l (32 - depth) root) ∙ sym same_level;
              };
          callable = subst (All P) (sym same) all;
          first = subst (IfFirst (λ p. post passes p.key false)) (sym none) tt;
          rest = λ test decides stays.
              let f : Place → Bool = λ p. not (test p) in
              ap (filter f) same_level ∙ sym (append-nil (filter f (node_items bytes l (32 - depth) root)))
              ∙ ap (λ s. filter f (node_items bytes l (32 - depth) root) ++ s) (sym none);
        }

    -- no child is to be pushed any more
    module _ (nodes nexts : List ℕ) (depth : ℕ) (child : Option ℕ) (whole es : List Place) (p : IsPassing nodes nexts depth child whole) (end : child ≡ None) (is : whole ≡ es) where
      child_none : child_items bytes l (node_items bytes l (32 - depth)) child ≡ []
      child_none = rw end refl

      pub passing_left : (before : List Place) × (es ≡ before ++ stack_items bytes l nodes nexts depth)
      passing_left = (p.before, sym is ∙ sym p.pushes.left ∙ ap (λ s. p.before ++ (s ++ stack_items bytes l nodes nexts depth)) child_none)

      pub passing_rest : (test : Place → Bool) → Decides post passes test es → Stays (λ e. not (test e)) es → stack_items bytes l nodes nexts depth ≡ filter (λ e. not (test e)) es
      passing_rest test decides stays =
          let f : Place → Bool = λ e. not (test e) in
          let D : Place → Type 0 = λ e. (r : Bool) → post passes e.key r → r ≡ test e in
          sym
          (ap (filter f) (sym is) ∙ p.rest test (subst (All D) (sym is) decides) (subst (Stays f) (sym is) stays)
          ∙ ap (λ s. filter f s ++ stack_items bytes l nodes nexts depth) child_none)
