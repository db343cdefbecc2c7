-- The plans of a table, by the items at its places.
use Rattle.std.proofs.Common.{◌≡◌, ℕ, ◌+◌, ◌-◌, ◌*◌, ◌≤◌, List, [], ◌∷◌, map, length, take, Option, Some, None, refl, sym, ap, ap₂, subst, ◌∙◌, arith}
use Rattle.std.specs.List.{AllByRecursion}
use Rattle.std.proofs.lemmas.List.{length-map}
use Rattle.archive_shape_layout.specs.Shape.{Shape, size_of, align_of}
use Rattle.archive_shape_layout.specs.Shape.Shape.{table}
use Rattle.archive_shape_layout.specs.Value.{Value, Values, count_values}
use Rattle.archive_shape_layout.specs.Value.Value.{group}
use Rattle.archive_shape_layout.specs.Value.Values.{no_values, more_values}
use Rattle.archive_shape_layout.specs.Content.{Names, Part, tagged_items, control_count}
use Rattle.archive_shape_layout.specs.Content.Item.{item}
use Rattle.archive_shape_layout.specs.Content.Part.{at}
use Rattle.archive_shape_canonical.specs.FirstFit.{present}
use Rattle.archive_shape_canonical.specs.Plan.{Target, Plan, parts, leads, Plans, no_plans, more_plans, HasPlan, plan_flat, plan_no_table, plan_table, HavePlans, plans_none, plans_at}
use Rattle.archive_shape_canonical.specs.Seen.{keys_alone}
use Rattle.archive_shape_canonical.specs.Settled.{Fit}
use Rattle.archive_shape_canonical.specs.Sharing.{erased, all_erased}
use Rattle.archive_forms_laws.specs.Views.{listed}
use Rattle.archive_shape_canonical.proofs.Choosing.{erased_by_keys}
use Rattle.archive_hash_writing.proofs.SpellingBuckets.{tagged_none, tagged_some}
use Rattle.archive_hash_writing.proofs.SpellingFilled.{AreControlsOf}
use Rattle.archive_hash_writing.proofs.Tagged.{AreTagged}

-- the region of so many places, to the end of whose buckets its pointer leads
abbrev pub table_target : Shape → ℕ → Target
table_target s cap = record { size = cap * size_of s + control_count cap; align = align_of s; lead = cap * size_of s }

pub count_listed : (vs : Values) → length (listed (all_erased vs)) ≡ count_values vs
count_listed no_values = refl
count_listed (more_values v vs) = let rest = count_listed vs in omega (arith, rest)

module _ (fit : Fit) (names : Names) (s : Shape) {C : Type 0} (as_value : C → Value) where
  -- of the item in a bucket at an offset, and of others
  pub record ItemPlan (x : C) (HaveOthers : Plans → Type 0) (offset : ℕ) (all : Plans) : Type 0 where
    pub value : Value
    pub plan : Plan
    pub others : Plans
    pub same : erased value ≡ as_value x
    pub planned : HasPlan fit names s value plan
    pub rest : HaveOthers others
    pub is : all ≡ more_plans offset plan others

  -- of the items at places from place i on, where the buckets of all places end at an offset
  abbrev pub ItemPlans : ℕ → ℕ → List (Option C) → Plans → Type 0
  ItemPlans target i [] all = all ≡ no_plans
  ItemPlans target i (None ∷ os) all = ItemPlans target (i + 1) os all
  ItemPlans target i (Some x ∷ os) all = ItemPlan x (λ ps. ItemPlans target (i + 1) os ps) (target - (i + 1) * size_of s) all

  -- ---- each plan of a table is one by its items

  record FirstPlan (offset : ℕ) (others : List Part) (vs : Values) (all : Plans) : Type 0 where
    value : Value
    values : Values
    plan : Plan
    plans : Plans
    planned : HasPlan fit names s value plan
    rest : HavePlans fit names others values plans
    vs_is : vs ≡ more_values value values
    all_is : all ≡ more_plans offset plan plans

  first_planned : (offset : ℕ) (others : List Part) (vs : Values) (all : Plans) → HavePlans fit names (at offset s ∷ others) vs all → FirstPlan offset others vs all
  first_planned offset others vs all (plans_at {v = v} {vs = us} {p = p} {ps = ps} here there) =
      record { value = v; values = us; plan = p; plans = ps; planned = here; rest = there; vs_is = refl; all_is = refl }

  pub items_planned : (target i : ℕ) (os : List (Option C)) (cs : List ℕ) (vs : Values) (all : Plans) → AreTagged os cs → listed (all_erased vs) ≡ map as_value (present os)
      → HavePlans fit names (tagged_items target (item s) i cs) vs all → ItemPlans target i os all
  unfolding tagged_items
  items_planned target i [] [] vs all tags same plans_none = refl
  items_planned target i [] (c ∷ cs) vs all tags same h = absurd tags
  items_planned target i (o ∷ os) [] vs all tags same h = absurd tags
  items_planned target i (None ∷ os) (c ∷ cs) vs all tags same h =
      items_planned target (i + 1) os cs vs all tags.1 same (subst (λ z. HavePlans fit names z vs all) (tagged_none target (item s) i c cs tags.0) h)
  items_planned target i (Some x ∷ os) (c ∷ cs) vs all tags same h =
      let f = first_planned (target - (i + 1) * size_of s) (tagged_items target (item s) (i + 1) cs) vs all (subst (λ z. HavePlans fit names z vs all) (tagged_some target (item s) i c cs tags.0) h) in
      let both : erased f.value ∷ listed (all_erased f.values) ≡ as_value x ∷ map as_value (present os) = ap (λ z. listed (all_erased z)) (sym f.vs_is) ∙ same in
      let here : erased f.value ≡ as_value x = cc in
      let there : listed (all_erased f.values) ≡ map as_value (present os) = cc in
      record {
        value = f.value;
        plan = f.plan;
        others = f.plans;
        same = here;
        planned = f.planned;
        rest = items_planned target (i + 1) os cs f.values f.plans tags.1 there f.rest;
        is = f.all_is;
      }

  -- ---- there is one where each item has one

  abbrev pub IsPlanned : C → Type 0
  IsPlanned x = (v : Value) → erased v ≡ as_value x → (p : Plan) × HasPlan fit names s v p

  items_have_plans : (target i : ℕ) (os : List (Option C)) (cs : List ℕ) (vs : Values) → AreTagged os cs → listed (all_erased vs) ≡ map as_value (present os)
      → AllByRecursion IsPlanned (present os) → (all : Plans) × HavePlans fit names (tagged_items target (item s) i cs) vs all
  unfolding tagged_items
  items_have_plans target i [] [] no_values tags same each = (no_plans, plans_none)
  items_have_plans target i [] [] (more_values v vs) tags same each = absurd cc
  items_have_plans target i [] (c ∷ cs) vs tags same each = absurd tags
  items_have_plans target i (o ∷ os) [] vs tags same each = absurd tags
  items_have_plans target i (None ∷ os) (c ∷ cs) vs tags same each =
      let rest = items_have_plans target (i + 1) os cs vs tags.1 same each in
      (rest.0, subst (λ z. HavePlans fit names z vs rest.0) (sym (tagged_none target (item s) i c cs tags.0)) rest.1)
  items_have_plans target i (Some x ∷ os) (c ∷ cs) no_values tags same each = absurd cc
  items_have_plans target i (Some x ∷ os) (c ∷ cs) (more_values v vs) tags same each =
      let here : erased v ≡ as_value x = cc in
      let there : listed (all_erased vs) ≡ map as_value (present os) = cc in
      let p = each.0 v here in
      let rest = items_have_plans target (i + 1) os cs vs tags.1 there each.1 in
      let offset = target - (i + 1) * size_of s in
      let made : HavePlans fit names (at offset s ∷ tagged_items target (item s) (i + 1) cs) (more_values v vs) (more_plans offset p.0 rest.0) = plans_at p.1 rest.1 in
      (more_plans offset p.0 rest.0, subst (λ z. HavePlans fit names z (more_values v vs) (more_plans offset p.0 rest.0)) (sym (tagged_some target (item s) i c cs tags.0)) made)

  -- ---- tables that have items

  -- a fit gives items the places that they have here
  pub record IsFilled (os : List (Option C)) (controls : List ℕ) (len cap : ℕ) (vs : Values) : Type 0 where
    pub some : 1 ≤ len
    pub count : length (present os) ≡ len
    pub long : length os ≡ cap
    pub are : AreControlsOf os controls
    pub values_are : listed vs ≡ map as_value (present os)
    pub capacity_is : fit.capacity len ≡ cap
    pub controls_are : fit.table_controls (keys_alone vs) ≡ controls

  module _ (os : List (Option C)) (controls : List ℕ) (len cap : ℕ) (vs : Values) (filled : IsFilled os controls len cap vs) where
    abbrev pub table_plan : Plans → Plan
    table_plan ps = leads (len ∷ (cap ∷ [])) (table_target s cap) (parts ps)

    tags : AreTagged os (take cap controls)
    tags = subst (λ n. AreTagged os (take n controls)) filled.long filled.are.tagged

    module _ (us : Values) (same : all_erased us ≡ vs) where
      count_items : count_values us ≡ len
      count_items = sym (count_listed us) ∙ ap (λ z. length (listed z)) same ∙ ap length filled.values_are ∙ length-map (present os) as_value ∙ filled.count

      controls_seen : fit.table_controls (all_erased (keys_alone us)) ≡ controls
      controls_seen = ap fit.table_controls (erased_by_keys (group us) ∙ ap keys_alone same) ∙ filled.controls_are

      items_same : listed (all_erased us) ≡ map as_value (present os)
      items_same = ap listed same ∙ filled.values_are

    pub table_planned : (us : Values) (v : Value) (p : Plan) → v ≡ group us → all_erased us ≡ vs → HasPlan fit names (table s) v p → (ps : Plans) × ItemPlans (cap * size_of s) 0 os ps × (p ≡ table_plan ps)
    table_planned us v p is same (plan_flat f) = elim f [ ]
    table_planned us v p is same plan_no_table =
        let none : no_values ≡ us = cc in
        let count = count_items us same in
        let zero_of : count_values us ≡ 0 = ap count_values (sym none) in
        let some = filled.some in
        absurd (omega (arith, count, zero_of, some))
    table_planned us v p is same (plan_table {items = items} {keys = keys} {n = n} {cap = places} {ps = ps} some n_is cap_is keys_are h) =
        let alike : items ≡ us = cc in
        let here : all_erased items ≡ vs = ap all_erased alike ∙ same in
        let size : n ≡ len = n_is ∙ count_items items here in
        let room : places ≡ cap = cap_is ∙ ap fit.capacity size ∙ filled.capacity_is in
        let seen : fit.table_controls keys ≡ controls = ap fit.table_controls keys_are ∙ controls_seen items here in
        let planned : HavePlans fit names (tagged_items (cap * size_of s) (item s) 0 (take cap controls)) items ps =
        subst (λ z. HavePlans fit names (tagged_items (cap * size_of s) (item s) 0 (take cap z)) items ps) seen
        (subst (λ m. HavePlans fit names (tagged_items (m * size_of s) (item s) 0 (take m (fit.table_controls keys))) items ps) room h) in (
          ps,
          items_planned (cap * size_of s) 0 os (take cap controls) items ps tags (items_same items here) planned,
          ap₂ (λ m k. leads (m ∷ (k ∷ [])) (table_target s k) (parts ps)) size room,
        )

    pub table_has_plan : (us : Values) → all_erased us ≡ vs → AllByRecursion IsPlanned (present os) → (p : Plan) × HasPlan fit names (table s) (group us) p
    table_has_plan us same each =
        let count = count_items us same in
        let some : 1 ≤ count_values us = omega (arith, count, filled.some) in
        let own = items_have_plans (cap * size_of s) 0 os (take cap controls) us tags (items_same us same) each in
        let seen = controls_seen us same in
        let room : cap ≡ fit.capacity (count_values us) = sym (ap fit.capacity count ∙ filled.capacity_is) in
        let planned = subst (λ z. HavePlans fit names (tagged_items (cap * size_of s) (item s) 0 (take cap z)) us own.0) (sym seen) own.1 in
        (_, plan_table some refl room refl planned)
