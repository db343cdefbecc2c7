-- The plans of a search tree's nodes, by the items of each node.
use Rattle.std.proofs.Common.{◌≡◌, ◌∙◌, ℕ, zero, suc, ◌+◌, ◌<◌, ◌≤◌, List, [], ◌∷◌, ◌++◌, length, refl, ap, length-append, ap₂, sym, subst, arith}
use Rattle.archive_shape_layout.specs.Shape.{Shape, size_of}
use Rattle.archive_shape_layout.specs.Value.{Value, Values, append_values, count_values}
use Rattle.archive_shape_layout.specs.Value.Value.{group}
use Rattle.archive_shape_layout.specs.Value.Values.{no_values, more_values}
use Rattle.archive_shape_layout.specs.Content.{Names, Part, weave, first_values, other_values, children, entries, words_of, keys_offset, values_offset, links_offset, link_node_align, link_node_size}
use Rattle.archive_shape_canonical.specs.Packed.{levels_for, ArePacked}
use Rattle.archive_shape_canonical.specs.Settled.{Fit}
use Rattle.archive_shape_canonical.specs.Sharing.{erased, all_erased}
use Rattle.archive_shape_canonical.specs.Plan.{Target, Plan, parts, leads, Plans, no_plans, more_plans, whole_target, HasPlan, NodePlan, plan_leaf_node, plan_inner_node, HavePlans, plans_none, plans_at, plans_entry, plans_no_child, plans_child}
use Rattle.archive_shape_canonical.proofs.Nodes.{count_other, length-entries, length-children}
use Rattle.archive_btree_spelling.specs.Parted.{Parted, shares, between, parted}
use Rattle.archive_btree_spelling.proofs.Shares.{IsWoven, AreShares}
use Rattle.archive_btree_spelling.proofs.Weaving.{first_append, other_append}
use Rattle.archive_btree_spelling.proofs.Parting.{EachIs, EachListIs, NeedsFew, IsParted, parted_each, is_leaf, is_inner, parted_is, parted_low, no_levels}

-- ---- values after one another

-- values after one another are two lists without positions where the first ones are as long
erased_apart : (xs ys cs ds : Values) → count_values xs ≡ count_values cs → all_erased (append_values xs ys) ≡ append_values cs ds → (all_erased xs ≡ cs) × (all_erased ys ≡ ds)
erased_apart no_values ys no_values ds n e = (refl, e)
erased_apart no_values ys (more_values c cs) ds n e = absurd (omega (arith, n))
erased_apart (more_values x xs) ys no_values ds n e = absurd (omega (arith, n))
erased_apart (more_values x xs) ys (more_values c cs) ds n e =
    let first : erased x ≡ c = cc in
    let rest : all_erased (append_values xs ys) ≡ append_values cs ds = cc in
    let both = erased_apart xs ys cs ds (omega (arith, n)) rest in
    (ap₂ more_values first both.0, both.1)

count_erased : (vs : Values) → count_values (all_erased vs) ≡ count_values vs
count_erased no_values = refl
count_erased (more_values v vs) = ap (λ z. 1 + z) (count_erased vs)

-- the first of some plans, and the others
pub record FirstPlan (HasFirst : Target → Plan → Type 0) (HaveOthers : Plans → Type 0) (offset : ℕ) (all : Plans) : Type 0 where
  pub target : Target
  pub plan : Plan
  pub others : Plans
  pub first : HasFirst target plan
  pub rest : HaveOthers others
  pub is : all ≡ more_plans offset (leads [] target plan) others

module _ (fit : Fit) (names : Names) (most : ℕ) (k v : Shape) {C : Type 0} (item : C → Value) where
  -- the values of items, without positions
  abbrev pub listed : List C → Values
  listed [] = no_values
  listed (x ∷ xs) = more_values (item x) (listed xs)

  listed_append : (xs ys : List C) → listed (xs ++ ys) ≡ append_values (listed xs) (listed ys)
  listed_append [] ys = refl
  listed_append (x ∷ xs) ys = ap (more_values (item x)) (listed_append xs ys)

  count_listed : (xs : List C) → count_values (listed xs) ≡ length xs
  count_listed [] = refl
  count_listed (x ∷ xs) = let e = count_listed xs in omega (arith, e)

  pub count_same : (vs : Values) (xs : List C) → all_erased vs ≡ listed xs → count_values vs ≡ length xs
  count_same vs xs e = sym (count_erased vs) ∙ ap count_values e ∙ count_listed xs

  -- ---- the plans of entries and of children

  abbrev pub pair : Value → Value → Value
  pair key value = group (more_values key (more_values value no_values))

  -- of an entry's key, and of its value
  pub record EntryPlan (x : C) (p q : Plan) : Type 0 where
    pub key : Value
    pub value : Value
    pub same : erased (pair key value) ≡ item x
    pub key_planned : HasPlan fit names k key p
    pub value_planned : HasPlan fit names v value q

  pub record MorePlans (x : C) (HaveOthers : Plans → Type 0) (a b : ℕ) (all : Plans) : Type 0 where
    pub key_plan : Plan
    pub value_plan : Plan
    pub others : Plans
    pub entry : EntryPlan x key_plan value_plan
    pub rest : HaveOthers others
    pub is : all ≡ more_plans a key_plan (more_plans b value_plan others)

  -- of entries, their keys and their values side by side from two offsets on
  abbrev pub EntryPlans : ℕ → ℕ → List C → Plans → Type 0
  EntryPlans a b [] all = all ≡ no_plans
  EntryPlans a b (x ∷ xs) all = MorePlans x (λ ps. EntryPlans (a + size_of k) (b + size_of v) xs ps) a b all

  module _ (HasTree : List C → Target → Plan → Type 0) where
    -- of pointers side by side from an offset on, and others behind them; one without items has none
    abbrev pub ChildPlans : Plans → ℕ → List (List C) → Plans → Type 0
    ChildPlans behind link [] all = all ≡ behind
    ChildPlans behind link ([] ∷ xss) all = ChildPlans behind (link + 4) xss all
    ChildPlans behind link ((x ∷ xs) ∷ xss) all = FirstPlan (λ t q. HasTree (x ∷ xs) t q) (λ ps. ChildPlans behind (link + 4) xss ps) link all

    pub record PartedPlan (p : Parted C) (t : Target) (q : Plan) : Type 0 where
      pub all : Plans
      pub own : Plans
      pub children_planned : ChildPlans own (links_offset most k v) p.below all
      pub entries_planned : EntryPlans (keys_offset k) (values_offset most k v) p.own own
      pub target : t ≡ whole_target (link_node_size (words_of p.kind most) most k v) (link_node_align k v)
      pub is : q ≡ parts all

  -- of the node of items, on at most l levels
  abbrev pub TreePlan : ℕ → List C → Target → Plan → Type 0
  TreePlan zero xs t q = ⊥
  TreePlan (suc l) xs t q = PartedPlan (λ ys u r. TreePlan l ys u r) (parted most xs) t q

  -- ---- each plan of a node is one by its items

  entries_are_planned : (n a b : ℕ) (xs : List C) (vs : Values) (ps : Plans) → n ≡ length xs → all_erased vs ≡ listed xs → HavePlans fit names (entries n k a v b) vs ps → EntryPlans a b xs ps
  unfolding entries
  entries_are_planned zero a b [] vs ps n_is same plans_none = refl
  entries_are_planned zero a b (x ∷ xs) vs ps n_is same h = absurd (omega (arith, n_is))
  entries_are_planned (suc n) a b [] vs ps n_is same h = absurd (omega (arith, n_is))
  entries_are_planned (suc n) a b (x ∷ xs) vs ps n_is same (plans_entry {x = key} {y = value} {vs = us} {p = p} {q = q} {ps = others} f g rest) =
      let first : erased (pair key value) ≡ item x = cc in
      let later : all_erased us ≡ listed xs = cc in
      record {
        key_plan = p;
        value_plan = q;
        others = others;
        entry = record { key = key; value = value; same = first; key_planned = f; value_planned = g };
        rest = entries_are_planned n (a + size_of k) (b + size_of v) xs us others (omega (arith, n_is)) later rest;
        is = refl;
      }

  -- the value at a pointer is a group, and has a plan if it is not empty
  data ChildIs (link : ℕ) (us : Values) (others all : Plans) : Type 0 where
    child_none : us ≡ no_values → all ≡ others → ChildIs link us others all
    child_some : {t : Target} {q : Plan} → 1 ≤ count_values us → NodePlan fit names most k v us t q → all ≡ more_plans link (leads [] t q) others → ChildIs link us others all

  record FirstChild (n link : ℕ) (es : List Part) (vs : Values) (all : Plans) : Type 0 where
    items : Values
    later : Values
    others : Plans
    child : ChildIs link items others all
    rest : HavePlans fit names (children n 0 most k v (link + 4) ++ es) later others
    is : vs ≡ more_values (group items) later

  first_child : (n link : ℕ) (es : List Part) (vs : Values) (all : Plans) → HavePlans fit names (children (suc n) 0 most k v link ++ es) vs all → FirstChild n link es vs all
  unfolding children
  first_child n link es vs all (plans_no_child {vs = us} {ps = ps} rest) = record { items = no_values; later = us; others = ps; child = child_none refl refl; rest = rest; is = refl }
  first_child n link es vs all (plans_child {items = items} {vs = us} {ps = ps} some f rest) = record { items = items; later = us; others = ps; child = child_some some f refl; rest = rest; is = refl }

  no_children : (link : ℕ) (es : List Part) (vs : Values) (ps : Plans) → HavePlans fit names (children 0 0 most k v link ++ es) vs ps → HavePlans fit names es vs ps
  unfolding children
  no_children link es vs ps h = h

  module _ (HasTree : List C → Target → Plan → Type 0) (IsFew : List C → Type 0)
      (of_node : (c : List C) (us : Values) (t : Target) (q : Plan) → 0 < length c → IsFew c → all_erased us ≡ listed c → NodePlan fit names most k v us t q → HasTree c t q) where
    one_more : (link : ℕ) (c : List C) (xss : List (List C)) (us : Values) (behind others all : Plans) → IsFew c → all_erased us ≡ listed c → ChildIs link us others all
        → ChildPlans HasTree behind (link + 4) xss others → ChildPlans HasTree behind link (c ∷ xss) all
    one_more link [] xss us behind others all few same (child_none none is) rest = subst (ChildPlans HasTree behind (link + 4) xss) (sym is) rest
    one_more link [] xss us behind others all few same (child_some some f is) rest = let n = count_same us [] same in absurd (omega (arith, n, some))
    one_more link (x ∷ xs) xss us behind others all few same (child_none none is) rest =
        let n = count_same us (x ∷ xs) same in
        let m : count_values us ≡ 0 = ap count_values none in
        absurd (omega (arith, n, m))
    one_more link (x ∷ xs) xss us behind others all few same (child_some {t = t} {q = q} some f is) rest =
        record { target = t; plan = q; others = others; first = of_node (x ∷ xs) us t q (omega arith) few same f; rest = rest; is = is }

    -- pointers and the entries between
    record Children (link : ℕ) (es : List Part) (xss : List (List C)) (own : List C) (others ws : Values) (all : Plans) : Type 0 where
      behind : Plans
      planned : ChildPlans HasTree behind link xss all
      entries_have : HavePlans fit names es others behind
      same_own : all_erased ws ≡ listed own

    children_are_planned :
        (n size i link : ℕ) (es : List Part) (xs : List C) (xss : List (List C)) (own : List C) (vs ws : Values) (all : Plans)
        → IsWoven xs xss own → length xss ≡ suc n → AreShares most size i xss → EachIs IsFew xss
        → all_erased (weave (first_values (suc n) vs) ws) ≡ listed xs → ArePacked most size i (first_values (suc n) vs) → count_values ws ≡ n
        → HavePlans fit names (children (suc n) 0 most k v link ++ es) vs all
        → Children link es xss own (other_values (suc n) vs) ws all
    children_are_planned n size i link es xs [] own vs ws all woven long sizes few same packed count h = absurd woven
    children_are_planned n size i link es xs (c ∷ []) (o ∷ os) vs ws all woven long sizes few same packed count h = absurd woven
    children_are_planned n size i link es xs (c ∷ (d ∷ ds)) [] vs ws all woven long sizes few same packed count h = absurd woven
    children_are_planned (suc n) size i link es xs (c ∷ []) [] vs ws all woven long sizes few same packed count h = absurd (omega (arith, long))
    children_are_planned zero size i link es xs (c ∷ (d ∷ ds)) (o ∷ os) vs ws all woven long sizes few same packed count h = absurd (omega (arith, long))
    children_are_planned zero size i link es xs (c ∷ []) [] vs (more_values u us) all woven long sizes few same packed count h = absurd (omega (arith, count))
    children_are_planned (suc n) size i link es xs (c ∷ (d ∷ ds)) (o ∷ os) vs no_values all woven long sizes few same packed count h = absurd (omega (arith, count))
    children_are_planned zero size i link es xs (c ∷ []) [] vs no_values all woven long sizes few same packed count h =
        let f = first_child 0 link es vs all h in
        let items_same : all_erased f.items ≡ listed c = subst (λ z. all_erased (weave (first_values 1 z) no_values) ≡ listed xs) f.is same ∙ ap listed woven in
        record {
          behind = f.others;
          planned = one_more link c [] f.items f.others f.others all few.0 items_same f.child refl;
          entries_have = subst (λ z. HavePlans fit names es (other_values 1 z) f.others) (sym f.is) (no_children (link + 4) es f.later f.others f.rest);
          same_own = refl;
        }
    children_are_planned (suc n) size i link es xs (c ∷ (d ∷ ds)) (o ∷ os) vs (more_values u us) all woven long sizes few same packed count h =
        let f = first_child (suc n) link es vs all h in
        let rest = weave (first_values (suc n) f.later) us in
        let here = subst (λ z. ArePacked most size i (first_values (suc (suc n)) z)) f.is packed in
        let appended : all_erased (append_values f.items (more_values u rest)) ≡ append_values (listed c) (more_values (item o) (listed woven.0)) =
        subst (λ z. all_erased (weave (first_values (suc (suc n)) z) (more_values u us)) ≡ listed xs) f.is same
        ∙ ap listed woven.1
        ∙ listed_append c (o ∷ woven.0) in
        let as_long : count_values f.items ≡ count_values (listed c) = here.0 ∙ sym sizes.0 ∙ sym (count_listed c) in
        let both = erased_apart f.items (more_values u rest) (listed c) (more_values (item o) (listed woven.0)) as_long appended in
        let tail = both.1 in
        let own_same : erased u ≡ item o = cc in
        let rest_same : all_erased rest ≡ listed woven.0 = cc in
        let later = children_are_planned n size (i + 1) (link + 4) es woven.0 (d ∷ ds) os f.later us f.others woven.2 (omega (arith, long)) sizes.1 few.1 rest_same here.1 (omega (arith, count)) f.rest in
        record {
          behind = later.behind;
          planned = one_more link c (d ∷ ds) f.items later.behind f.others all few.0 both.0 f.child later.planned;
          entries_have = subst (λ z. HavePlans fit names es (other_values (suc (suc n)) z) later.behind) (sym f.is) later.entries_have;
          same_own = ap₂ more_values own_same later.same_own;
        }

  plans_count : {shapes : List Part} {vs : Values} {ps : Plans} → HavePlans fit names shapes vs ps → count_values vs ≡ length shapes
  plans_count plans_none = refl
  plans_count (plans_at h rest) = let e = plans_count rest in omega (arith, e)
  plans_count (plans_entry f g rest) = let e = plans_count rest in omega (arith, e)
  plans_count (plans_no_child rest) = let e = plans_count rest in omega (arith, e)
  plans_count (plans_child some f rest) = let e = plans_count rest in omega (arith, e)

  own_entries : List Part
  own_entries = entries most k (keys_offset k) v (values_offset most k v)

  parted_planned :
      (l : ℕ) (HasTree : List C → Target → Plan → Type 0)
      → ((c : List C) (us : Values) (t : Target) (q : Plan) → 0 < length c → levels_for most (length c) ≤ l → all_erased us ≡ listed c → NodePlan fit names most k v us t q → HasTree c t q)
      → (xs : List C) (us : Values) (t : Target) (q : Plan) (p : Parted C) → IsParted most l xs p → all_erased us ≡ listed xs → NodePlan fit names most k v us t q → PartedPlan HasTree p t q
  unfolding own_entries
  parted_planned l HasTree of_node xs us t q p (is_leaf few e) same (plan_leaf_node {ps = ps} less h) =
      let planned : PartedPlan HasTree (record { kind = 0; below = []; own = xs }) t q = record {
        all = ps;
        own = ps;
        children_planned = refl;
        entries_planned = entries_are_planned (count_values us) (keys_offset k) (values_offset most k v) xs us ps (count_same us xs same) same h;
        target = refl;
        is = refl;
      } in
      subst (λ z. PartedPlan HasTree z t q) (sym e) planned
  parted_planned l HasTree of_node xs us t q p (is_leaf few e) same (plan_inner_node more is packed h) = let n = count_same us xs same in absurd (omega (arith, n, few, more))
  parted_planned l HasTree of_node xs us t q p (is_inner more e s) same (plan_leaf_node less h) = let n = count_same us xs same in absurd (omega (arith, n, less, more))
  parted_planned l HasTree of_node xs us t q p (is_inner more e s) same (plan_inner_node {vs = vs} {ps = ps} many is packed h) =
      let n = length xs in
      let xss = shares most n 0 most xs in
      let own = between most n 0 most xs in
      let node : Parted C = record { kind = 1; below = xss; own = own } in
      let wide : most + 1 ≡ suc most = omega arith in
      let size : count_values (weave (first_values (most + 1) vs) (other_values (most + 1) vs)) ≡ n = ap count_values (sym is) ∙ count_same us xs same in
      let sizes = subst (λ z. ArePacked most n 0 (first_values z vs)) wide (subst (λ z. ArePacked most z 0 (first_values (most + 1) vs)) size packed.1) in
      let woven = subst (λ z. all_erased (weave (first_values z vs) (other_values z vs)) ≡ listed xs) wide (ap all_erased (sym is) ∙ same) in
      let parts_planned = subst (λ z. HavePlans fit names (children z 0 most k v (links_offset most k v) ++ own_entries) vs ps) wide h in
      let a = plans_count parts_planned in
      let b = length-append (children (suc most) 0 most k v (links_offset most k v)) own_entries in
      let c = length-children (suc most) 0 most k v (links_offset most k v) in
      let d = length-entries most k (keys_offset k) v (values_offset most k v) in
      let count = count_other (suc most) most vs (omega (arith, a, b, c, d)) in
      let r = children_are_planned HasTree (NeedsFew most l xs) of_node most n 0 (links_offset most k v) own_entries xs xss own vs (other_values (suc most) vs) ps
      s.woven s.pointers s.are_shares (parted_low most l xs node (is_inner more refl s)) woven sizes count parts_planned in
      let planned : PartedPlan HasTree node t q = record {
        all = ps;
        own = r.behind;
        children_planned = r.planned;
        entries_planned = entries_are_planned most (keys_offset k) (values_offset most k v) own (other_values (suc most) vs) r.behind (sym s.own) r.same_own r.entries_have;
        target = refl;
        is = refl;
      } in
      subst (λ z. PartedPlan HasTree z t q) (sym e) planned

  pub tree_planned : (l : ℕ) (xs : List C) (us : Values) (t : Target) (q : Plan) → 0 < most → 0 < length xs → levels_for most (length xs) ≤ l → all_erased us ≡ listed xs
      → NodePlan fit names most k v us t q → TreePlan l xs t q
  tree_planned zero xs us t q some items within same h = absurd (no_levels most (length xs) some items within)
  tree_planned (suc l) xs us t q some items within same h =
      parted_planned l (λ ys u r. TreePlan l ys u r) (λ c ws u r more low alike g. tree_planned l c ws u r some more low alike g) xs us t q (parted most xs) (parted_is most l xs some within) same h

  -- ---- there is one where each entry has one

  pub record HasEntryPlans (e : Value) : Type 0 where
    pub key : Value
    pub value : Value
    pub key_plan : Plan
    pub value_plan : Plan
    pub is : e ≡ pair key value
    pub key_planned : HasPlan fit names k key key_plan
    pub value_planned : HasPlan fit names v value value_plan

  abbrev pub IsPlanned : C → Type 0
  IsPlanned x = (e : Value) → erased e ≡ item x → HasEntryPlans e

  entries_have_plans : (n a b : ℕ) (xs : List C) (vs : Values) → n ≡ length xs → all_erased vs ≡ listed xs → EachIs IsPlanned xs → (ps : Plans) × HavePlans fit names (entries n k a v b) vs ps
  unfolding entries
  entries_have_plans zero a b (x ∷ xs) vs n_is same each = absurd (omega (arith, n_is))
  entries_have_plans (suc n) a b [] vs n_is same each = absurd (omega (arith, n_is))
  entries_have_plans zero a b [] no_values n_is same each = (no_plans, plans_none)
  entries_have_plans zero a b [] (more_values e vs) n_is same each = absurd cc
  entries_have_plans (suc n) a b (x ∷ xs) no_values n_is same each = absurd cc
  entries_have_plans (suc n) a b (x ∷ xs) (more_values e vs) n_is same each =
      let first : erased e ≡ item x = cc in
      let later : all_erased vs ≡ listed xs = cc in
      let h = each.0 e first in
      let others = entries_have_plans n (a + size_of k) (b + size_of v) xs vs (omega (arith, n_is)) later each.1 in
      let all = more_plans a h.key_plan (more_plans b h.value_plan others.0) in
      let made : HavePlans fit names (entries (suc n) k a v b) (more_values (pair h.key h.value) vs) all = plans_entry h.key_planned h.value_planned others.1 in
      (all, subst (λ z. HavePlans fit names (entries (suc n) k a v b) (more_values z vs) all) (sym h.is) made)

  -- values are those of some items, of one, and of others
  record Cut (us : Values) (c : List C) (o : C) (rest : List C) : Type 0 where
    first : Values
    one : Value
    later : Values
    is : us ≡ append_values first (more_values one later)
    first_same : all_erased first ≡ listed c
    one_same : erased one ≡ item o
    later_same : all_erased later ≡ listed rest

  cut_values : (us : Values) (c : List C) (o : C) (rest : List C) → all_erased us ≡ listed (c ++ o ∷ rest) → Cut us c o rest
  cut_values no_values [] o rest e = absurd cc
  cut_values no_values (x ∷ c) o rest e = absurd cc
  cut_values (more_values u us) [] o rest e =
      let here : erased u ≡ item o = cc in
      let there : all_erased us ≡ listed rest = cc in
      record { first = no_values; one = u; later = us; is = refl; first_same = refl; one_same = here; later_same = there }
  cut_values (more_values u us) (x ∷ c) o rest e =
      let here : erased u ≡ item x = cc in
      let there : all_erased us ≡ listed (c ++ o ∷ rest) = cc in
      let p = cut_values us c o rest there in
      record { first = more_values u p.first; one = p.one; later = p.later; is = ap (more_values u) p.is; first_same = ap₂ more_values here p.first_same; one_same = p.one_same; later_same = p.later_same }

  abbrev pub NodeHasPlan : Values → Type 0
  NodeHasPlan us = (t : Target) × (q : Plan) × NodePlan fit names most k v us t q

  before_parts : (link : ℕ) (es : List Part) (vs : Values) (ps : Plans) → HavePlans fit names es vs ps → HavePlans fit names (children 0 0 most k v link ++ es) vs ps
  unfolding children
  before_parts link es vs ps h = h

  module _ (IsFew : List C → Type 0) (of_list : (c : List C) (us : Values) → 0 < length c → IsFew c → EachIs IsPlanned c → all_erased us ≡ listed c → NodeHasPlan us) where
    one_child : (n link : ℕ) (c : List C) (us : Values) → IsFew c → EachIs IsPlanned c → all_erased us ≡ listed c
        → (es : List Part) (ws : Values) (ps : Plans) → HavePlans fit names (children n 0 most k v (link + 4) ++ es) ws ps
        → (all : Plans) × HavePlans fit names (children (suc n) 0 most k v link ++ es) (more_values (group us) ws) all
    unfolding children
    one_child n link [] no_values few each same es ws ps h = (ps, plans_no_child h)
    one_child n link [] (more_values u us) few each same es ws ps h = absurd cc
    one_child n link (x ∷ xs) us few each same es ws ps h =
        let p = of_list (x ∷ xs) us (omega arith) few each same in
        let count = count_same us (x ∷ xs) same in
        (more_plans link (leads [] p.0 p.1) ps, plans_child (omega (arith, count)) p.2 h)

    record InTurn (size i link : ℕ) (us : Values) (xss : List (List C)) (own : List C) : Type 0 where
      below : Values
      between_them : Values
      is : us ≡ weave below between_them
      counts : ArePacked most size i below
      wide : count_values below ≡ length xss
      own_same : all_erased between_them ≡ listed own
      plans : (es : List Part) (ws : Values) (ps : Plans) → HavePlans fit names es ws ps → (all : Plans) × HavePlans fit names (children (length xss) 0 most k v link ++ es) (append_values below ws) all

    in_turn : (size i link : ℕ) (us : Values) (xs : List C) (xss : List (List C)) (own : List C)
        → IsWoven xs xss own → AreShares most size i xss → EachIs IsFew xss → EachListIs IsPlanned xss → all_erased us ≡ listed xs → InTurn size i link us xss own
    in_turn size i link us xs [] own woven sizes few each same = absurd woven
    in_turn size i link us xs (c ∷ []) (o ∷ os) woven sizes few each same = absurd woven
    in_turn size i link us xs (c ∷ (d ∷ ds)) [] woven sizes few each same = absurd woven
    in_turn size i link us xs (c ∷ []) [] woven sizes few each same =
        let here : all_erased us ≡ listed c = same ∙ ap listed woven in
        record {
          below = more_values (group us) no_values;
          between_them = no_values;
          is = refl;
          counts = (count_same us c here ∙ sizes.0, tt);
          wide = omega arith;
          own_same = refl;
          plans = λ es ws ps h. one_child 0 link c us few.0 each.0 here es ws ps (before_parts (link + 4) es ws ps h);
        }
    in_turn size i link us xs (c ∷ (d ∷ ds)) (o ∷ os) woven sizes few each same =
        let p = cut_values us c o woven.0 (same ∙ ap listed woven.1) in
        let rest = in_turn size (i + 1) (link + 4) p.later woven.0 (d ∷ ds) os woven.2 sizes.1 few.1 each.1 p.later_same in
        record {
          below = more_values (group p.first) rest.below;
          between_them = more_values p.one rest.between_them;
          is = p.is ∙ ap (λ z. append_values p.first (more_values p.one z)) rest.is;
          counts = (count_same p.first c p.first_same ∙ sizes.0, rest.counts);
          wide = let e = rest.wide in omega (arith, e);
          own_same = ap₂ more_values p.one_same rest.own_same;
          plans = λ es ws ps h.
              let g = rest.plans es ws ps h in
              one_child (length (d ∷ ds)) link c p.first few.0 each.0 p.first_same es (append_values rest.below ws) g.0 g.1;
        }

  parted_has_plan :
      (l : ℕ) → ((c : List C) (us : Values) → 0 < length c → levels_for most (length c) ≤ l → EachIs IsPlanned c → all_erased us ≡ listed c → NodeHasPlan us)
      → (xs : List C) (us : Values) (p : Parted C) → IsParted most l xs p → EachIs IsPlanned xs → all_erased us ≡ listed xs → NodeHasPlan us
  unfolding own_entries
  parted_has_plan l of_list xs us p (is_leaf few e) each same =
      let count = count_same us xs same in
      let own = entries_have_plans (count_values us) (keys_offset k) (values_offset most k v) xs us count same each in
      (_, _, plan_leaf_node (omega (arith, count, few)) own.1)
  parted_has_plan l of_list xs us p (is_inner more e s) each same =
      let n = length xs in
      let xss = shares most n 0 most xs in
      let own = between most n 0 most xs in
      let node : Parted C = record { kind = 1; below = xss; own = own } in
      let is = is_inner more refl s in
      let apart = parted_each most l xs IsPlanned node is each in
      let r = in_turn (NeedsFew most l xs) of_list n 0 (links_offset most k v) us xs xss own s.woven s.are_shares (parted_low most l xs node is) apart.0 same in
      let ws = r.between_them in
      let vs = append_values r.below ws in
      let pointers = s.pointers in
      let wide : length xss ≡ most + 1 = omega (arith, pointers) in
      let first : first_values (most + 1) vs ≡ r.below = first_append (most + 1) r.below ws (r.wide ∙ wide) in
      let other : other_values (most + 1) vs ≡ ws = other_append (most + 1) r.below ws (r.wide ∙ wide) in
      let woven : us ≡ weave (first_values (most + 1) vs) (other_values (most + 1) vs) = r.is ∙ sym (ap₂ weave first other) in
      let count = count_same us xs same in
      let size : n ≡ count_values (weave (first_values (most + 1) vs) (other_values (most + 1) vs)) = sym count ∙ ap count_values woven in
      let packed : ArePacked most n 0 (first_values (most + 1) vs) = subst (ArePacked most n 0) (sym first) r.counts in
      let entries_have = entries_have_plans most (keys_offset k) (values_offset most k v) own ws (sym s.own) r.own_same apart.1 in
      let all = r.plans own_entries ws entries_have.0 entries_have.1 in (
        _,
        _,
        plan_inner_node (omega (arith, count, more)) woven (omega (arith, size, more), subst (λ z. ArePacked most z 0 (first_values (most + 1) vs)) size packed)
            (subst (λ z. HavePlans fit names (children z 0 most k v (links_offset most k v) ++ own_entries) vs all.0) wide all.1),
      )

  pub tree_has_plan : (l : ℕ) (xs : List C) (us : Values) → 0 < most → 0 < length xs → levels_for most (length xs) ≤ l → EachIs IsPlanned xs → all_erased us ≡ listed xs → NodeHasPlan us
  tree_has_plan zero xs us some items within each same = absurd (no_levels most (length xs) some items within)
  tree_has_plan (suc l) xs us some items within each same =
      parted_has_plan l (λ c ws more low each_c alike. tree_has_plan l c ws some more low each_c alike) xs us (parted most xs) (parted_is most l xs some within) each same
