-- A search in a node of a tree in bytes leads where the descent does.
use Rattle.std.proofs.Common.{◌≡◌, ◌∙◌, ℕ, suc, ◌+◌, ◌*◌, ◌<◌, ◌≤◌, List, min, Option, Some, None, refl, ap, subst, arith}
use Rattle.std.specs.Prelude.{All, ⊤}
use Rattle.std.specs.declared.cmp.Ordering.{Ordering}
use Rattle.archive_btree_layout.specs.Tree.{Tree, items}
use Rattle.archive_btree_layout.specs.Descent.{descend, met}
use Rattle.archive_btree_layout.specs.Reading.{Place}
use Rattle.archive_btree_maps.specs.declared.nodes.layout.NodeLayout.{NodeLayout}
use Rattle.archive_btree_maps.specs.declared.nodes.searching.search.Outcome.{Outcome}
use Rattle.archive_btree_maps.specs.declared.nodes.searching.search.Outcome.TheVariants.{Equals, Before}
use Rattle.archive_btree_maps.specs.SearchingLayout.{IsTreeAt}
use Rattle.archive_btree_maps.specs.SearchingNodes.{entry_count, entry_of, child_of}
use Rattle.archive_btree_maps.specs.Descents.{DescendsTo}
use Rattle.archive_btree_maps.specs.Searching.{IsSaid, Orders}
use Rattle.archive_btree_maps.proofs.NodeTree.{ChildIs, HasBranching, same_said, tree_branching}
use Rattle.archive_btree_maps.proofs.Descending.{entry_holds, child_holds, ends_at, goes_on, ends_said, leads_on}
use Rattle.archive_btree_maps.proofs.Said.{OrdersKeys, Answers, said_answers}

module _ (bytes : List ℕ) (l : NodeLayout) (level pos : ℕ) (t : Tree Place) (h : IsTreeAt bytes l level pos t) where
  own : HasBranching bytes l level pos t
  own = tree_branching bytes l level pos t h

  -- ---- what holds of all items

  module _ (P : Place → Type 0) (all : All P (items t)) where
    pub own_holds : (j : ℕ) → j < entry_count bytes l pos → P (entry_of l pos j)
    own_holds j below =
        entry_holds bytes l (suc level) pos P (entry_count bytes l pos) 0 j j own.branches (omega arith) own.stand (subst (λ x. All P x) own.same_items all) below

    pub record NextTree (p : ℕ) : Type 0 where
      pub tree : Tree Place
      pub stands : IsTreeAt bytes l (suc level) p tree
      pub holds : All P (items tree)

    pub child_stands : (j p : ℕ) → j ≤ entry_count bytes l pos → child_of bytes l pos j ≡ Some p → NextTree p
    child_stands j p below e =
        let c =
        child_holds bytes l (suc level) pos P (entry_count bytes l pos) 0 j j own.branches (omega arith) own.stand (subst (λ x. All P x) own.same_items all) below
        in
        record { tree = c.tree; stands = subst (λ o. ChildIs bytes l (suc level) o c.tree) e c.is; holds = c.holds }

  -- a comparison that returns an order of all items returns it at the node's own keys
  pub keys_order : {F : Type 0} (post : F → ℕ → Ordering → Type 0) (f : F) (order : Place → Ordering) → Orders post f order (items t)
      → OrdersKeys post f (λ i. order (entry_of l pos i)) (pos + l.keys) l.key_size (entry_count bytes l pos)
  keys_order post f order all i below = own_holds (λ e. (r : Ordering) → post f e.key r → r ≡ order e) all i below

  -- what a search among its keys returns, for an order of all items
  pub node_answers : {F : Type 0} (post : F → ℕ → Ordering → Type 0) (f : F) (order : Place → Ordering) (count : ℕ) (o : Outcome) → count ≡ entry_count bytes l pos
      → IsSaid (λ i r. post f (pos + l.keys + i * l.key_size) r) count o
      → Orders post f order (items t) → Answers (λ i. order (entry_of l pos i)) (entry_count bytes l pos) o
  node_answers post f order count o e said all =
      said_answers post f (pos + l.keys) l.key_size (entry_count bytes l pos) o (subst (λ n. IsSaid (λ i r. post f (pos + l.keys + i * l.key_size) r) n o) e said) (λ i. order (entry_of l pos i)) (keys_order post f order all)

  -- ---- what a search returns

  module _ (order : Place → Ordering) (j : ℕ) where
    pub record Found : Type 0 where
      pub found : descend order t ≡ Some (entry_of l pos j)
      pub count : met order t ≡ suc j

    pub found : Answers (λ i. order (entry_of l pos i)) (entry_count bytes l pos) (Equals j) → Found
    found a =
        let e = ends_at bytes l (suc level) pos order (entry_count bytes l pos) 0 j j own.branches (omega arith) own.stand a.0 a.1 a.2 in
        record { found = own.same_descent order ∙ e.found; count = own.same_met order ∙ e.count }

    pub record Missing : Type 0 where
      pub none : descend order t ≡ None
      pub count : met order t ≡ min (suc j) (entry_count bytes l pos)

    pub record Onward (P : Place → Type 0) (p : ℕ) : Type 0 where
      pub tree : Tree Place
      pub stands : IsTreeAt bytes l (suc level) p tree
      pub same : descend order t ≡ descend order tree
      pub count : met order t ≡ min (suc j) (entry_count bytes l pos) + met order tree
      pub holds : All P (items t) → All P (items tree)

    module _ (a : Answers (λ i. order (entry_of l pos i)) (entry_count bytes l pos) (Before j)) where
      pub missing : child_of bytes l pos j ≡ None → Missing
      missing e =
          let g = goes_on bytes l (suc level) pos order (λ q. ⊤) (entry_count bytes l pos) 0 j j own.branches (omega arith) own.stand a.0 a.1 a.2 in
          let none = subst (λ o. ChildIs bytes l (suc level) o g.tree) e g.is in
          let zero_met : met order g.tree ≡ 0 = ap (met order) none in
          record {
            none = own.same_descent order ∙ g.same ∙ ap (descend order) none;
            count = own.same_met order ∙ g.count ∙ (omega (arith, zero_met));
          }

      pub onward : (P : Place → Type 0) (p : ℕ) → child_of bytes l pos j ≡ Some p → Onward P p
      onward P p e =
          let g = goes_on bytes l (suc level) pos order P (entry_count bytes l pos) 0 j j own.branches (omega arith) own.stand a.0 a.1 a.2 in
          record {
            tree = g.tree;
            stands = subst (λ o. ChildIs bytes l (suc level) o g.tree) e g.is;
            same = own.same_descent order ∙ g.same;
            count = own.same_met order ∙ g.count;
            holds = λ all. g.holds (subst (All P) own.same_items all);
          }

  -- ---- where the search ends, by what is said of each entry

  module _ (says : Place → Ordering → Type 0) (count j : ℕ) (e : count ≡ entry_count bytes l pos) where
    abbrev IsSaidHere : ℕ → Outcome → Type 0
    IsSaidHere n o = IsSaid (λ i. says (entry_of l pos i)) n o

    pub ends_there : IsSaid (λ i. says (entry_of l pos i)) count (Equals j) → DescendsTo says t (Some (entry_of l pos j))
    ends_there said =
        let s = subst (λ n. IsSaidHere n (Equals j)) e said in
        same_said says t own.branches (Some (entry_of l pos j)) own.made (ends_said bytes l (suc level) pos says (entry_count bytes l pos) 0 j j own.branches (omega arith) own.stand s.0 s.1 s.2)

    -- the search in a child ends where that in the tree does
    pub record LeadsTo (p : ℕ) : Type 0 where
      pub tree : Tree Place
      pub stands : IsTreeAt bytes l (suc level) p tree
      pub leads : (found : Option Place) → DescendsTo says tree found → DescendsTo says t found

    module _ (said : IsSaid (λ i. says (entry_of l pos i)) count (Before j)) where
      pub ends_nowhere : child_of bytes l pos j ≡ None → DescendsTo says t None
      ends_nowhere no_child =
          let s = subst (λ n. IsSaidHere n (Before j)) e said in
          let g = leads_on bytes l (suc level) pos says (entry_count bytes l pos) 0 j j own.branches (omega arith) own.stand s.0 s.1 s.2 in
          let none = subst (λ o. ChildIs bytes l (suc level) o g.tree) no_child g.is in
          same_said says t own.branches None own.made (g.leads None (rw none refl))

      pub leads_to : (p : ℕ) → child_of bytes l pos j ≡ Some p → LeadsTo p
      leads_to p child =
          let s = subst (λ n. IsSaidHere n (Before j)) e said in
          let g = leads_on bytes l (suc level) pos says (entry_count bytes l pos) 0 j j own.branches (omega arith) own.stand s.0 s.1 s.2 in
          record { tree = g.tree; stands = subst (λ o. ChildIs bytes l (suc level) o g.tree) child g.is; leads = λ found ends. same_said says t own.branches found own.made (g.leads found ends) }
