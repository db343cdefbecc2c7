-- The descent through a node, by what a search among its keys returns, and what holds of its items.
use Rattle.std.proofs.Common.{◌≡◌, ℕ, zero, suc, ◌+◌, ◌<◌, ◌≤◌, List, ◌∷◌, min, Option, Some, refl, ap, sym, subst, arith}
use Rattle.std.specs.Prelude.{All}
use Rattle.std.specs.declared.cmp.Ordering.{Ordering}
use Rattle.std.specs.declared.cmp.Ordering.TheVariants.{Less, Equal, Greater}
use Rattle.std.proofs.lemmas.List.Elements.{All-head, All-tail}
use Rattle.archive_btree_layout.specs.Tree.{Tree, Branches, items, items_of}
use Rattle.archive_btree_layout.specs.Descent.{descend, descend_in, met, met_by}
use Rattle.archive_btree_layout.specs.Reading.{Place}
use Rattle.archive_btree_maps.specs.SearchingNodes.{child_of, entry_of}
use Rattle.archive_btree_maps.specs.Descents.{DescendsTo, DescendsIn}
use Rattle.archive_btree_maps.specs.Searching.{AreBelow}
use Rattle.archive_btree_maps.specs.declared.nodes.layout.NodeLayout.{NodeLayout}
use Rattle.archive_btree_maps.proofs.Sublists.{all_front, all_back}
use Rattle.archive_btree_maps.proofs.NodeTree.{ChildIs, Branching}
use Rattle.archive_btree_maps.proofs.NodeTree.Branching.{last, more}
use Rattle.archive_btree_maps.proofs.Said.{IsAbove}

module _ (bytes : List ℕ) (l : NodeLayout) (level pos : ℕ) where
  module _ (P : Place → Type 0) where
    pub entry_holds : (n i d j : ℕ) (bs : Branches Place) → j ≡ i + d → Branching bytes l level pos n i bs → All P (items_of bs) → d < n → P (entry_of l pos j)
    entry_holds n i d j bs at (last z c e) all below = absurd (omega arith)
    entry_holds n i zero j bs at (more {t = t} {cs = cs} z c r e) all below =
        let own = all_back P (items t) (entry_of l pos i ∷ items_of cs) (subst (λ x. All P (items_of x)) e all) in
        let here : i ≡ j = omega arith in
        subst (λ x. P (entry_of l pos x)) here (All-head P _ _ own)
    entry_holds n i (suc d) j bs at (more {m = m} {t = t} {cs = cs} z c r e) all below =
        let own = all_back P (items t) (entry_of l pos i ∷ items_of cs) (subst (λ x. All P (items_of x)) e all) in
        entry_holds m (suc i) d j cs (omega arith) r (All-tail P _ _ own) (omega arith)

    pub record ChildHolds (j : ℕ) : Type 0 where
      pub tree : Tree Place
      pub is : ChildIs bytes l level (child_of bytes l pos j) tree
      pub holds : All P (items tree)

    pub child_holds : (n i d j : ℕ) (bs : Branches Place) → j ≡ i + d → Branching bytes l level pos n i bs → All P (items_of bs) → d ≤ n → ChildHolds j
    child_holds n i d j bs at (last {t = t} z c e) all below =
        let here : i ≡ j = omega arith in
        subst ChildHolds here (record { tree = t; is = c; holds = subst (λ x. All P (items_of x)) e all })
    child_holds n i zero j bs at (more {t = t} {cs = cs} z c r e) all below =
        let here : i ≡ j = omega arith in
        subst ChildHolds here (record { tree = t; is = c; holds = all_front P (items t) (entry_of l pos i ∷ items_of cs) (subst (λ x. All P (items_of x)) e all) })
    child_holds n i (suc d) j bs at (more {m = m} {t = t} {cs = cs} z c r e) all below =
        let own = all_back P (items t) (entry_of l pos i ∷ items_of cs) (subst (λ x. All P (items_of x)) e all) in
        child_holds m (suc i) d j cs (omega arith) r (All-tail P _ _ own) (omega arith)

  module _ (order : Place → Ordering) where
    -- entry j is the one that the descent ends at, after n keys
    pub record EndsAt (bs : Branches Place) (j n : ℕ) : Type 0 where
      pub found : descend_in order bs ≡ Some (entry_of l pos j)
      pub count : met_by order bs ≡ n

    pub ends_at : (n i d j : ℕ) (bs : Branches Place) → j ≡ i + d → Branching bytes l level pos n i bs → d < n → IsAbove (λ m. order (entry_of l pos m)) j
        → order (entry_of l pos j) ≡ Equal → EndsAt bs j (suc d)
    ends_at n i d j bs at (last z c e) below above is = absurd (omega arith)
    ends_at n i zero j bs at (more z c r e) below above is =
        let here : j ≡ i = omega arith in
        let own = subst (λ x. order (entry_of l pos x) ≡ Equal) here is in
        subst (λ x. EndsAt bs x 1) (sym here) (record { found = rw (e, own) refl; count = rw (e, own) refl })
    ends_at n i (suc d) j bs at (more {m = m} {cs = cs} z c r e) below above is =
        let own = above i (omega arith) in
        let rest = ends_at m (suc i) d j cs (omega arith) r (omega arith) above is in
        let next : 1 + met_by order cs ≡ suc (suc d) = omega (arith, rest.count) in
        record { found = rw (e, own) rest.found; count = rw (e, own) next }

    -- the descent continues in child j, after n keys, and what holds of all items holds of those of the child
    pub record GoesOn (P : Place → Type 0) (bs : Branches Place) (j n : ℕ) : Type 0 where
      pub tree : Tree Place
      pub is : ChildIs bytes l level (child_of bytes l pos j) tree
      pub same : descend_in order bs ≡ descend order tree
      pub count : met_by order bs ≡ n + met order tree
      pub holds : All P (items_of bs) → All P (items tree)

    pub goes_on : (P : Place → Type 0) (n i d j : ℕ) (bs : Branches Place) → j ≡ i + d → Branching bytes l level pos n i bs → d ≤ n → IsAbove (λ m. order (entry_of l pos m)) j
        → (d < n → order (entry_of l pos j) ≡ Less) → GoesOn P bs j (min (suc d) n)
    goes_on P n i d j bs at (last {t = t} z c e) below above is =
        let here : i ≡ j = omega arith in
        let none : met order t ≡ min (suc d) n + met order t = omega arith in
        subst (λ x. GoesOn P bs x (min (suc d) n)) here (record { tree = t; is = c; same = rw e refl; count = rw e none; holds = λ all. subst (λ x. All P (items_of x)) e all })
    goes_on P n i zero j bs at (more {t = t} {cs = cs} z c r e) below above is =
        let here : j ≡ i = omega arith in
        let own = subst (λ x. order (entry_of l pos x) ≡ Less) here (is (omega arith)) in
        let one : 1 + met order t ≡ min 1 n + met order t = omega arith in
        subst (λ x. GoesOn P bs x (min 1 n)) (sym here) (record { tree = t; is = c; same = rw (e, own) refl; count = rw (e, own) one; holds = λ all. all_front P (items t) (entry_of l pos i ∷ items_of cs) (subst (λ x. All P (items_of x)) e all) })
    goes_on P n i (suc d) j bs at (more {m = m} {t = t} {cs = cs} z c r e) below above is =
        let own = above i (omega arith) in
        let rest = goes_on P m (suc i) d j cs (omega arith) r (omega arith) above (λ b. is (omega arith)) in
        let next : 1 + met_by order cs ≡ min (suc (suc d)) n + met order rest.tree = omega (arith, rest.count) in
        record {
          tree = rest.tree;
          is = rest.is;
          same = rw (e, own) rest.same;
          count = rw (e, own) next;
          holds = λ all. rest.holds (All-tail P _ _ (all_back P (items t) (entry_of l pos i ∷ items_of cs) (subst (λ x. All P (items_of x)) e all)));
        }

  -- ---- by what is said of each entry

  module _ (says : Place → Ordering → Type 0) where
    pub ends_said : (n i d j : ℕ) (bs : Branches Place) → j ≡ i + d → Branching bytes l level pos n i bs → d < n → AreBelow (λ m. says (entry_of l pos m)) j
        → says (entry_of l pos j) Equal → DescendsIn says bs (Some (entry_of l pos j))
    ends_said n i d j bs at (last z c e) below above is = absurd (omega arith)
    ends_said n i zero j bs at (more z c r e) below above is =
        let here : j ≡ i = omega arith in
        rw e (Equal, subst (λ x. says (entry_of l pos x) Equal) here is, ap (λ x. Some (entry_of l pos x)) here)
    ends_said n i (suc d) j bs at (more {m = m} {cs = cs} z c r e) below above is =
        rw e (Greater, above i (omega arith), ends_said m (suc i) d j cs (omega arith) r (omega arith) above is)

    -- where the search in child j ends, the search in all branches does
    pub record Leads (bs : Branches Place) (j : ℕ) : Type 0 where
      pub tree : Tree Place
      pub is : ChildIs bytes l level (child_of bytes l pos j) tree
      pub leads : (found : Option Place) → DescendsTo says tree found → DescendsIn says bs found

    pub leads_on : (n i d j : ℕ) (bs : Branches Place) → j ≡ i + d → Branching bytes l level pos n i bs → d ≤ n → AreBelow (λ m. says (entry_of l pos m)) j
        → (d < n → says (entry_of l pos j) Less) → Leads bs j
    leads_on n i d j bs at (last {t = t} z c e) below above is =
        let here : i ≡ j = omega arith in
        subst (Leads bs) here (record { tree = t; is = c; leads = λ found ends. rw e ends })
    leads_on n i zero j bs at (more {t = t} z c r e) below above is =
        let here : j ≡ i = omega arith in
        let own = subst (λ x. says (entry_of l pos x) Less) here (is (omega arith)) in
        subst (Leads bs) (sym here) (record { tree = t; is = c; leads = λ found ends. rw e (Less, own, ends) })
    leads_on n i (suc d) j bs at (more {m = m} {cs = cs} z c r e) below above is =
        let own = above i (omega arith) in
        let rest = leads_on m (suc i) d j cs (omega arith) r (omega arith) above (λ b. is (omega arith)) in
        record { tree = rest.tree; is = rest.is; leads = λ found ends. rw e (Greater, own, rest.leads found ends) }
