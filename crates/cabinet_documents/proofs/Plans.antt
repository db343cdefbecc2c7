-- The plans that values of documents have: what their own bytes lead to.
use Rattle.std.proofs.Common.{◌≡◌, ℕ, suc, ◌+◌, ◌*◌, ◌<◌, ◌≤◌, true, false, List, [], ◌∷◌, length, map as list_map, Some, refl, sym, ap, ap₂, subst, ◌∙◌, arith, ⊎_elim}
use Rattle.std.specs.Int.{w64}
use Rattle.std.specs.List.{AllByRecursion}
use Rattle.std.proofs.lemmas.Bool.{cases_lt}
use Rattle.std.proofs.lemmas.List.{nil_from_length, length-map}
use Rattle.archive_shape_layout.specs.Bytes.{align_up}
use Rattle.archive_shape_layout.specs.Shape.{Shape, size_of, align_of}
use Rattle.archive_shape_layout.specs.Shape.Shape.{number, truth, text, option, choice, vector, tree, table, index_map, shared as shared_shape}
use Rattle.archive_shape_layout.specs.Shape.Pointee.{sized, str}
use Rattle.archive_shape_layout.specs.Value.{Value, Values, count_values}
use Rattle.archive_shape_layout.specs.Value.Value.{integer, boolean, string, group, chosen, counted}
use Rattle.archive_shape_layout.specs.Value.Values.{no_values, more_values}
use Rattle.archive_shape_layout.specs.Content.{shape_tagged, fields, elements}
use Rattle.archive_shape_layout.specs.Content.Part.{at}
use Rattle.archive_shape_canonical.specs.Packed.{levels_for}
use Rattle.archive_shape_canonical.specs.Settled.{Fit}
use Rattle.archive_shape_canonical.specs.Sharing.{erased, all_erased}
use Rattle.archive_shape_canonical.specs.Plan.{Plan, flat, parts, leads, leads_to_text, counts, Target, Plans, no_plans, more_plans, whole_target, truth_is_flat, number_is_flat, HasPlan, plan_flat, plan_inline, plan_text, plan_tuple, plan_none, plan_some, plan_choice, plan_box, plan_vector, plan_shared, plan_no_tree, plan_tree, plan_no_table, plan_table, plan_no_map, plan_map, plan_named, plan_sized, plan_slice, plan_str, HavePlans, plans_none, plans_at}
use Rattle.archive_forms_laws.specs.Views.{listed as listed_in}
use Rattle.archive_forms_laws.specs.Sample.{number_shape}
use Rattle.archive_btree_spelling.proofs.Parting.{EachIs}
use Rattle.archive_btree_spelling.proofs.Planned.{pair, listed, count_same, EntryPlan, TreePlan, tree_planned, IsPlanned, tree_has_plan}
use Rattle.archive_hash_writing.specs.Fitted.{capacity_of, places_of, table_of, controls_of}
use Rattle.archive_hash_writing.proofs.Placed.{placed_each}
use Rattle.archive_hash_writing.proofs.Planned.{table_target, count_listed, ItemPlans, IsFilled, table_planned, table_has_plan, IsPlanned as IsItemPlanned}
use Rattle.cabinet_text_grammar.specs.Keys.{MapKind, ordered, hashed, kept}
use Rattle.cabinet_text_grammar.specs.Tree as document
use Rattle.cabinet_text_grammar.specs.Tree.{Tree, Trees, Pairs, leaf, shared, nothing, just, list, map, whole, no_trees, more_trees, no_pairs, more_pairs, IsLegal, AreLegal, ArePairs}
use Rattle.cabinet_documents.specs.Node.{node_shape, node_names, pair_shape, whole_shape, payloads}
use Rattle.cabinet_documents.specs.Denotes.{tagged_value, pair_value}
use Rattle.cabinet_documents.specs.Spelling.{boxed_shape, trees_in, pairs_in}
use Rattle.cabinet_documents.proofs.FirstFit.{by_first_fit, listed_mapped}
use Rattle.cabinet_documents.proofs.PlacedPairs.{pair_hashes}
use Rattle.cabinet_documents.proofs.Values.{value_of, values_of, values_of_pairs, entry_value, pairs_are}
use Rattle.cabinet_documents.proofs.SpellingDenoted.{tagged, simply_tagged, counted_value, shared_text, grouped, paired}

-- the plan of a text, inline or out of line
pub data TextPlan (t : List ℕ) (p : Plan) : Type 0 where
  is_inline : length t ≤ 8 → p ≡ flat → TextPlan t p
  is_far : 8 < length t → p ≡ leads_to_text (length t) → TextPlan t p

abbrev pub text_plan : List ℕ → Plan
text_plan t = counts str (string t) (length t ∷ []) (whole_target (length t) 1) flat

abbrev pub box_plan : Plan → Plan
box_plan p = leads [] (whole_target (size_of node_shape) (align_of node_shape)) p

-- of a whole with this value, and the plan of what is in it
abbrev pub whole_plan : Value → Plan → Plan
whole_plan v p = counts (sized node_shape) v [] (whole_target (size_of node_shape) (align_of node_shape)) p

-- of a pointer to so many values, with numbers beside it
abbrev pub slice_plan : Shape → List ℕ → ℕ → Plans → Plan
slice_plan s numbers n ps = leads numbers (whole_target (n * size_of s) (align_of s)) (parts ps)

-- of one part at an offset
abbrev pub one_plan : ℕ → Plan → Plan
one_plan offset p = parts (more_plans offset p no_plans)

-- of a key and the node after it, where they lie in a pair
abbrev pub key_at : ℕ
key_at = 0 + align_up 0 (align_of text)

abbrev pub node_at : ℕ
node_at = 0 + align_up (align_up 0 (align_of text) + size_of text) (align_of node_shape)

abbrev pub pair_plan : Plan → Plan → Plan
pair_plan p q = parts (more_plans key_at p (more_plans node_at q no_plans))

-- of an index map: the table of the numbers of so many pairs, and the pairs
abbrev pub index_plan : (len cap : ℕ) → Plans → Plan
index_plan len cap ps =
    parts (more_plans 0 (leads (len ∷ (cap ∷ [])) (table_target number_shape cap) flat) (more_plans 12 (slice_plan pair_shape [] len ps) no_plans))

-- the number of places of the table of pairs
abbrev pub places_for : List (List ℕ × Tree) → ℕ
places_for xs = capacity_of 7 8 (pair_hashes xs) xs

pub entry_values : (fit : Fit) (ps : Pairs) → values_of_pairs ps ≡ listed fit node_names 5 text node_shape entry_value (pairs_in ps)
entry_values fit no_pairs = refl
entry_values fit (more_pairs k t ps) = ap (more_values (pair_value k (value_of t))) (entry_values fit ps)

pub values_listed : (ts : Trees) → listed_in (values_of ts) ≡ list_map value_of (trees_in ts)
values_listed no_trees = refl
values_listed (more_trees t ts) = ap (λ vs. value_of t ∷ vs) (values_listed ts)

pub pairs_listed : (ps : Pairs) → listed_in (values_of_pairs ps) ≡ list_map entry_value (pairs_in ps)
pairs_listed ps = ap listed_in (pairs_are ps) ∙ listed_mapped entry_value (λ p. p.0) (λ p. refl) (pairs_in ps)

pub length-values : {A : Type 0} (as_value : A → Value) (xs : List A) (vs : Values) → listed_in (all_erased vs) ≡ list_map as_value xs → count_values vs ≡ length xs
length-values as_value xs vs same = sym (count_listed vs) ∙ ap length same ∙ length-map xs as_value

module _ (fit : Fit) where
  abbrev pub Planned : Shape → Value → Plan → Type 0
  Planned s v p = HasPlan fit node_names s v p

  -- values side by side from an offset on
  abbrev pub ArePlanned : Shape → ℕ → Values → Plans → Type 0
  ArePlanned s offset vs ps = HavePlans fit node_names (elements offset (count_values vs) s) vs ps

  -- ---- what plans there are

  -- of the value after a tag
  pub record TaggedPlan (s : Shape) (u : Value) (p : Plan) : Type 0 where
    pub inner : Plan
    pub planned : Planned s u inner
    pub is : p ≡ one_plan (align_up 1 (align_of s)) inner

  pub record BoxPlan (u : Value) (p : Plan) : Type 0 where
    pub inner : Plan
    pub planned : Planned node_shape u inner
    pub is : p ≡ box_plan inner

  pub record ListPlan (vs : Values) (p : Plan) : Type 0 where
    pub inner : Plans
    pub planned : ArePlanned node_shape 0 vs inner
    pub is : p ≡ slice_plan node_shape (count_values vs ∷ []) (count_values vs) inner

  one_planned : (offset : ℕ) (s : Shape) (u : Value) (vs : Values) (ps : Plans) → vs ≡ more_values u no_values → HavePlans fit node_names (at offset s ∷ []) vs ps
      → (q : Plan) × Planned s u q × (ps ≡ more_plans offset q no_plans)
  one_planned offset s u vs ps is (plans_at {v = v} {p = q} h plans_none) =
      let same : v ≡ u = cc in
      (q, subst (λ x. Planned s x q) same h, refl)

  choice_planned : (tag : ℕ) (s : Shape) (u v : Value) (p : Plan) → v ≡ tagged_value tag u → shape_tagged tag payloads ≡ Some s → Planned (choice payloads) v p → TaggedPlan s u p
  choice_planned tag s u v p is e (plan_flat f) = elim f [ ]
  choice_planned tag s u v p is e (plan_choice {tag = t} {s = r} {vs = vs} {ps = ps} found h) =
      let tags : t ≡ tag = cc in
      let one : vs ≡ more_values u no_values = cc in
      let both : Some r ≡ Some s = sym found ∙ ap (λ n. shape_tagged n payloads) tags ∙ e in
      let same : r ≡ s = cc in
      let q = one_planned (align_up 1 (align_of r)) r u vs ps one h in
      record {
        inner = q.0;
        planned = subst (λ x. Planned x u q.0) same q.1;
        is = ap parts q.2 ∙ ap (λ x. one_plan (align_up 1 (align_of x)) q.0) same;
      }

  named_planned : (v : Value) (p : Plan) → Planned node_shape v p → Planned (choice payloads) v p
  named_planned v p (plan_flat f) = elim f [ ]
  named_planned v p (plan_named {s = s} found h) =
      let both : Some (choice payloads) ≡ Some s = found in
      let same : s ≡ choice payloads = cc in
      subst (λ x. Planned x v p) same h

  pub node_planned : (tag : ℕ) (s : Shape) (u v : Value) (p : Plan) → v ≡ tagged_value tag u → shape_tagged tag payloads ≡ Some s → Planned node_shape v p → TaggedPlan s u p
  node_planned tag s u v p is e h = choice_planned tag s u v p is e (named_planned v p h)

  pub truth_planned : (v : Value) (p : Plan) → Planned truth v p → p ≡ flat
  truth_planned v p (plan_flat f) = refl

  pub number_planned : (v : Value) (p : Plan) → Planned (number w64 true) v p → p ≡ flat
  number_planned v p (plan_flat f) = refl

  pub text_planned : (t : List ℕ) (v : Value) (p : Plan) → v ≡ string t → Planned text v p → TextPlan t p
  text_planned t v p is (plan_flat f) = elim f [ ]
  text_planned t v p is (plan_inline {bs = s} short) = let same : s ≡ t = cc in is_inline (subst (λ l. length l ≤ 8) same short) refl
  text_planned t v p is (plan_text {bs = s} {n = n} long n_is) =
      let same : s ≡ t = cc in
      let size : n ≡ length t = n_is ∙ ap length same in
      is_far (subst (λ k. 8 < k) size long) (ap leads_to_text size)

  pub shared_planned : (pos : ℕ) (t : List ℕ) (v : Value) (p : Plan) → v ≡ counted pos (string t) → Planned (shared_shape false str) v p → p ≡ text_plan t
  shared_planned pos t v p is (plan_flat f) = elim f [ ]
  shared_planned pos t v p is (plan_shared {u = u} (plan_str {bs = s} {n = n} n_is) u_is) =
      let same : s ≡ t = cc in
      let size : n ≡ length t = n_is ∙ ap length same in
      ap₂ (λ (x : Value) (k : ℕ). counts str x (k ∷ []) (whole_target k 1) flat) (u_is ∙ ap string same) size

  pub record WholePlan (u : Value) (v : Value) (p : Plan) : Type 0 where
    pub inner : Plan
    pub planned : Planned node_shape v inner
    pub is : p ≡ whole_plan u inner

  pub whole_planned : (pos : ℕ) (u v w : Value) (p : Plan) → w ≡ counted pos v → erased v ≡ u → Planned whole_shape w p → WholePlan u v p
  whole_planned pos u v w p is same (plan_flat f) = elim f [ ]
  whole_planned pos u v w p is same (plan_shared {pos = pos'} {v = v'} {u = u'} (plan_sized {p = q} h) e) =
      let inside : v' ≡ v = cc in
      record { inner = q; planned = subst (λ x. Planned node_shape x q) inside h; is = ap (λ x. whole_plan x q) (e ∙ ap erased inside ∙ same) }

  pub none_planned : (v : Value) (p : Plan) → v ≡ chosen 0 no_values → Planned (option boxed_shape) v p → p ≡ flat
  none_planned v p is (plan_flat f) = elim f [ ]
  none_planned v p is plan_none = refl
  none_planned v p is (plan_some h) = let e : ◌≡◌ {A = ℕ} 1 0 = cc in absurd (omega (arith, e))

  pub some_planned : (u v : Value) (p : Plan) → v ≡ tagged_value 1 u → Planned (option boxed_shape) v p
      → (q : Plan) × Planned boxed_shape u q × (p ≡ one_plan (align_up 1 (align_of boxed_shape)) q)
  some_planned u v p is (plan_flat f) = elim f [ ]
  some_planned u v p is plan_none = let e : ◌≡◌ {A = ℕ} 0 1 = cc in absurd (omega (arith, e))
  some_planned u v p is (plan_some {vs = vs} {ps = ps} h) =
      let one : vs ≡ more_values u no_values = cc in
      let q = one_planned (align_up 1 (align_of boxed_shape)) boxed_shape u vs ps one h in
      (q.0, q.1, ap parts q.2)

  pub box_planned : (u : Value) (p : Plan) → Planned boxed_shape u p → BoxPlan u p
  box_planned u p (plan_flat f) = elim f [ ]
  box_planned u p (plan_box (plan_sized {p = q} h)) = record { inner = q; planned = h; is = refl }

  pub list_planned : (us : Values) (v : Value) (p : Plan) → v ≡ group us → Planned (vector node_shape) v p → ListPlan us p
  list_planned us v p is (plan_flat f) = elim f [ ]
  list_planned us v p is (plan_vector (plan_slice {vs = vs} {n = n} {ps = ps} n_is h)) =
      let same : vs ≡ us = cc in
      let size : n ≡ count_values us = n_is ∙ ap count_values same in
      record {
        inner = ps;
        planned = subst (λ x. ArePlanned node_shape 0 x ps) same (subst (λ k. HavePlans fit node_names (elements 0 k node_shape) vs ps) n_is h);
        is = ap (λ k. slice_plan node_shape (k ∷ []) k ps) size;
      }

  -- the values and the plans of entries
  abbrev pub entries_listed : List (List ℕ × Tree) → Values
  entries_listed xs = listed fit node_names 5 text node_shape entry_value xs

  abbrev pub EntriesPlan : ℕ → List (List ℕ × Tree) → Target → Plan → Type 0
  EntriesPlan levels xs t q = TreePlan fit node_names 5 text node_shape entry_value levels xs t q

  -- the plan of an ordered map, without entries or with some
  pub data MapPlan (xs : List (List ℕ × Tree)) (p : Plan) : Type 0 where
    is_empty : xs ≡ [] → p ≡ flat → MapPlan xs p
    is_rooted : {t : Target} {q : Plan} → 0 < length xs → EntriesPlan (levels_for 5 (length xs)) xs t q → p ≡ leads (length xs ∷ []) t q → MapPlan xs p

  pub map_planned : (xs : List (List ℕ × Tree)) (us : Values) (v : Value) (p : Plan) → v ≡ group us → all_erased us ≡ entries_listed xs → Planned (tree 5 text node_shape) v p → MapPlan xs p
  map_planned xs us v p is same (plan_flat f) = elim f [ ]
  map_planned xs us v p is same plan_no_tree =
      let none : no_values ≡ us = cc in
      is_empty (nil_from_length xs (sym (count_same fit node_names 5 text node_shape entry_value us xs same) ∙ ap count_values (sym none))) refl
  map_planned xs us v p is same (plan_tree {items = items} {n = n} {t = t} {p = q} some n_is h) =
      let alike : items ≡ us = cc in
      let here : all_erased items ≡ entries_listed xs = ap all_erased alike ∙ same in
      let size : n ≡ length xs = n_is ∙ count_same fit node_names 5 text node_shape entry_value items xs here in
      let more : 0 < length xs = omega (arith, size, some) in
      is_rooted more (tree_planned fit node_names 5 text node_shape entry_value (levels_for 5 (length xs)) xs items t q (omega arith) more (omega arith) here h) (ap (λ m. leads (m ∷ []) t q) size)

  -- of a key and the node after it
  pub record PairPlan (x : List ℕ × Tree) (p : Plan) : Type 0 where
    pub key_plan : Plan
    pub value_plan : Plan
    pub entry : EntryPlan fit node_names 5 text node_shape entry_value x key_plan value_plan
    pub is : p ≡ pair_plan key_plan value_plan

  pub pair_planned : (x : List ℕ × Tree) (v : Value) (p : Plan) → erased v ≡ entry_value x → Planned pair_shape v p → PairPlan x p
  unfolding fields
  pair_planned x v p same (plan_flat f) = elim f [ ]
  pair_planned x v p same (plan_tuple (plans_at {v = key} {p = q} f (plans_at {v = value} {p = r} g plans_none))) = record {
    key_plan = q;
    value_plan = r;
    entry = record { key = key; value = value; same = same; key_planned = f; value_planned = g };
    is = refl;
  }

  -- the fit gives the pairs of a hashed map with these values the places where they are written
  abbrev pub FillsPairs : List (List ℕ × Tree) → Values → Type 0
  FillsPairs [] vs = vs ≡ no_values
  FillsPairs (x ∷ xs) vs =
      IsFilled fit node_names pair_shape entry_value (table_of 7 8 (pair_hashes (x ∷ xs)) (x ∷ xs)) (controls_of 7 8 (pair_hashes (x ∷ xs)) (x ∷ xs)) (length (x ∷ xs)) (places_for (x ∷ xs)) vs

  -- the plan of a hashed map
  abbrev pub PairsPlan : List (List ℕ × Tree) → Plan → Type 0
  PairsPlan [] p = p ≡ flat
  PairsPlan (x ∷ xs) p =
      (ps : Plans) × ItemPlans fit node_names pair_shape entry_value (places_for (x ∷ xs) * size_of pair_shape) 0 (table_of 7 8 (pair_hashes (x ∷ xs)) (x ∷ xs)) ps
      × (p ≡ leads (length (x ∷ xs) ∷ (places_for (x ∷ xs) ∷ [])) (table_target pair_shape (places_for (x ∷ xs))) (parts ps))

  no_pairs_planned : (us : Values) (v : Value) (p : Plan) → v ≡ group us → all_erased us ≡ no_values → Planned (table pair_shape) v p → p ≡ flat
  no_pairs_planned us v p is none (plan_flat f) = elim f [ ]
  no_pairs_planned us v p is none plan_no_table = refl
  no_pairs_planned us v p is none (plan_table {items = items} {n = n} some n_is cap_is keys_are h) =
      let alike : items ≡ us = cc in
      let count : count_values items ≡ 0 = sym (count_listed items) ∙ ap (λ z. length (listed_in z)) (ap all_erased alike ∙ none) in
      absurd (omega (arith, some, n_is, count))

  pub pairs_planned : (xs : List (List ℕ × Tree)) (vs us : Values) (v : Value) (p : Plan) → FillsPairs xs vs → v ≡ group us → all_erased us ≡ vs → Planned (table pair_shape) v p → PairsPlan xs p
  pairs_planned [] vs us v p fills is same h = no_pairs_planned us v p is (same ∙ fills) h
  pairs_planned (x ∷ xs) vs us v p fills is same h =
      table_planned fit node_names pair_shape entry_value (table_of 7 8 (pair_hashes (x ∷ xs)) (x ∷ xs)) (controls_of 7 8 (pair_hashes (x ∷ xs)) (x ∷ xs)) (length (x ∷ xs)) (places_for (x ∷ xs)) vs fills us v p is same h

  -- the plan of a kept map whose pairs have these values
  abbrev pub KeptPlan : List (List ℕ × Tree) → Values → Plan → Type 0
  KeptPlan [] us p = p ≡ flat
  KeptPlan (x ∷ xs) us p = (ps : Plans) × ArePlanned pair_shape 0 us ps × (p ≡ index_plan (length (x ∷ xs)) (places_for (x ∷ xs)) ps)

  -- a fit gives a kept map as many places as are written
  abbrev pub HasPlaces : Type 0
  HasPlaces = (xs : List (List ℕ × Tree)) → fit.capacity (length xs) ≡ places_for xs

  pub kept_planned : HasPlaces → (xs : List (List ℕ × Tree)) (us : Values) (v : Value) (p : Plan) → v ≡ group us → listed_in (all_erased us) ≡ list_map entry_value xs → Planned (index_map text node_shape) v p
      → KeptPlan xs us p
  kept_planned places xs us v p is same (plan_flat f) = elim f [ ]
  kept_planned places [] us v p is same plan_no_map = refl
  kept_planned places (x ∷ xs) us v p is same plan_no_map =
      let none : no_values ≡ us = cc in
      let count : count_values us ≡ length (x ∷ xs) = length-values entry_value (x ∷ xs) us same in
      let empty : count_values us ≡ 0 = ap count_values (sym none) in
      absurd (omega (arith, count, empty))
  kept_planned places [] us v p is same (plan_map {items = items} {n = n} some n_is cap_is h) =
      let alike : items ≡ us = cc in
      let count : count_values us ≡ 0 = length-values entry_value [] us same in
      let size : n ≡ count_values us = n_is ∙ ap count_values alike in
      absurd (omega (arith, some, size, count))
  kept_planned places (x ∷ xs) us v p is same (plan_map {items = items} {n = n} {cap = cap} some n_is cap_is (plan_slice {n = m} {ps = ps} m_is h)) =
      let alike : items ≡ us = cc in
      let count : count_values us ≡ length (x ∷ xs) = length-values entry_value (x ∷ xs) us same in
      let size : n ≡ length (x ∷ xs) = n_is ∙ ap count_values alike ∙ count in
      let wide : m ≡ length (x ∷ xs) = m_is ∙ ap count_values alike ∙ count in
      let room : cap ≡ places_for (x ∷ xs) = cap_is ∙ ap fit.capacity size ∙ places (x ∷ xs) in (
        ps,
        subst (λ z. ArePlanned pair_shape 0 z ps) alike (subst (λ k. HavePlans fit node_names (elements 0 k pair_shape) items ps) m_is h),
        (λ i.
            parts (more_plans 0 (leads (size i ∷ (room i ∷ [])) (table_target number_shape (room i)) flat) (more_plans 12 (slice_plan pair_shape [] (wide i) ps) no_plans))),
      )

  module _ (s : Shape) where
    -- the first of some elements, and the others
    pub record FirstPlan (offset : ℕ) (v : Value) (vs : Values) (ps : Plans) : Type 0 where
      pub first : Plan
      pub others : Plans
      pub planned : Planned s v first
      pub are : ArePlanned s (offset + size_of s) vs others
      pub is : ps ≡ more_plans offset first others

    first_of : (offset n : ℕ) (v : Value) (vs : Values) (ps : Plans) → n ≡ suc (count_values vs) → HavePlans fit node_names (elements offset n s) (more_values v vs) ps → FirstPlan offset v vs ps
    unfolding elements
    first_of offset n v vs ps e h = taken ps (subst (λ k. HavePlans fit node_names (elements offset k s) (more_values v vs) ps) e h) where
      taken : (qs : Plans) → HavePlans fit node_names (elements offset (suc (count_values vs)) s) (more_values v vs) qs → FirstPlan offset v vs qs
      taken qs (plans_at {p = p} {ps = others} here there) = record { first = p; others = others; planned = here; are = there; is = refl }

    pub first_planned : (offset : ℕ) (v : Value) (vs : Values) (ps : Plans) → ArePlanned s offset (more_values v vs) ps → FirstPlan offset v vs ps
    first_planned offset v vs ps h = first_of offset (count_values (more_values v vs)) v vs ps (omega arith) h

    pub none_are_planned : (offset : ℕ) (ps : Plans) → ArePlanned s offset no_values ps → ps ≡ no_plans
    unfolding elements
    none_are_planned offset ps plans_none = refl

  -- ---- that there are plans

  plan_node : (tag : ℕ) (s : Shape) (u v : Value) (q : Plan) → v ≡ tagged_value tag u → shape_tagged tag payloads ≡ Some s → Planned s u q → (p : Plan) × Planned node_shape v p
  plan_node tag s u v q is e h =
      let p = one_plan (align_up 1 (align_of s)) q in
      let made : Planned node_shape (tagged_value tag u) p = plan_named refl (plan_choice e (plans_at h plans_none)) in
      (p, subst (λ x. Planned node_shape x p) (sym is) made)

  text_has_plan : (t : List ℕ) → (p : Plan) × Planned text (string t) p
  text_has_plan t = ⊎_elim (λ long. (leads_to_text (length t), plan_text long refl)) (λ short. (flat, plan_inline short)) (cases_lt 8 (length t))

  map_has_plan : (xs : List (List ℕ × Tree)) (us : Values) (v : Value) → v ≡ tagged_value 6 (group us) → all_erased us ≡ entries_listed xs
      → EachIs (IsPlanned fit node_names 5 text node_shape entry_value) xs → (p : Plan) × Planned node_shape v p
  map_has_plan [] no_values v is same each = plan_node 6 (tree 5 text node_shape) (group no_values) v flat is refl plan_no_tree
  map_has_plan [] (more_values u us) v is same each = absurd cc
  map_has_plan (x ∷ xs) us v is same each =
      let count = count_same fit node_names 5 text node_shape entry_value us (x ∷ xs) same in
      let some : 1 ≤ count_values us = omega (arith, count) in
      let p = tree_has_plan fit node_names 5 text node_shape entry_value (levels_for 5 (length (x ∷ xs))) (x ∷ xs) us (omega arith) (omega arith) (omega arith) each same in
      plan_node 6 (tree 5 text node_shape) (group us) v (leads (count_values us ∷ []) p.0 p.1) is refl (plan_tree some refl p.2)

  pair_has_plan : (x : List ℕ × Tree) → IsPlanned fit node_names 5 text node_shape entry_value x → IsItemPlanned fit node_names pair_shape entry_value x
  unfolding fields
  pair_has_plan x each v same =
      let h = each v same in
      let p = pair_plan h.key_plan h.value_plan in
      let made : Planned pair_shape (pair fit node_names 5 text node_shape entry_value h.key h.value) p = plan_tuple (plans_at h.key_planned (plans_at h.value_planned plans_none)) in
      (p, subst (λ z. Planned pair_shape z p) (sym h.is) made)

  pairs_have_plan : (xs : List (List ℕ × Tree)) → EachIs (IsPlanned fit node_names 5 text node_shape entry_value) xs → AllByRecursion (IsItemPlanned fit node_names pair_shape entry_value) xs
  pairs_have_plan [] each = tt
  pairs_have_plan (x ∷ xs) each = (pair_has_plan x each.0, pairs_have_plan xs each.1)

  hashed_has_plan : (xs : List (List ℕ × Tree)) (vs us : Values) (v : Value) → v ≡ tagged_value 7 (group us) → all_erased us ≡ vs → FillsPairs xs vs
      → EachIs (IsPlanned fit node_names 5 text node_shape entry_value) xs → (p : Plan) × Planned node_shape v p
  hashed_has_plan [] vs no_values v is same fills each = plan_node 7 (table pair_shape) (group no_values) v flat is refl plan_no_table
  hashed_has_plan [] vs (more_values u us) v is same fills each = let none : more_values (erased u) (all_erased us) ≡ no_values = same ∙ fills in absurd cc
  hashed_has_plan (x ∷ xs) vs us v is same fills each =
      let qs = places_of 7 8 (pair_hashes (x ∷ xs)) (x ∷ xs) in
      let all = placed_each (IsItemPlanned fit node_names pair_shape entry_value) (places_for (x ∷ xs)) qs (x ∷ xs) (pairs_have_plan (x ∷ xs) each) in
      let p = table_has_plan fit node_names pair_shape entry_value (table_of 7 8 (pair_hashes (x ∷ xs)) (x ∷ xs)) (controls_of 7 8 (pair_hashes (x ∷ xs)) (x ∷ xs)) (length (x ∷ xs)) (places_for (x ∷ xs)) vs fills us same all in
      plan_node 7 (table pair_shape) (group us) v p.0 is refl p.1

  -- values side by side have plans where each has one
  module _ {A : Type 0} (s : Shape) (as_value : A → Value) where
    all_have_plans : (xs : List A) (vs : Values) (offset : ℕ) → listed_in (all_erased vs) ≡ list_map as_value xs → AllByRecursion (IsItemPlanned fit node_names s as_value) xs → (ps : Plans) × ArePlanned s offset vs ps
    unfolding elements
    all_have_plans [] no_values offset same each = (no_plans, plans_none)
    all_have_plans [] (more_values v vs) offset same each = absurd cc
    all_have_plans (x ∷ xs) no_values offset same each = absurd cc
    all_have_plans (x ∷ xs) (more_values v vs) offset same each =
        let first : erased v ≡ as_value x = cc in
        let rest : listed_in (all_erased vs) ≡ list_map as_value xs = cc in
        let p = each.0 v first in
        let ps = all_have_plans xs vs (offset + size_of s) rest each.1 in
        let count : suc (count_values vs) ≡ count_values (more_values v vs) = omega arith in
        let all : HavePlans fit node_names (elements offset (suc (count_values vs)) s) (more_values v vs) (more_plans offset p.0 ps.0) = plans_at p.1 ps.1 in
        (more_plans offset p.0 ps.0, subst (λ n. HavePlans fit node_names (elements offset n s) (more_values v vs) (more_plans offset p.0 ps.0)) count all)

  kept_has_plan : (xs : List (List ℕ × Tree)) (us : Values) (v : Value) → v ≡ tagged_value 8 (group us) → listed_in (all_erased us) ≡ list_map entry_value xs
      → EachIs (IsPlanned fit node_names 5 text node_shape entry_value) xs → (p : Plan) × Planned node_shape v p
  kept_has_plan [] no_values v is same each = plan_node 8 (index_map text node_shape) (group no_values) v flat is refl plan_no_map
  kept_has_plan [] (more_values u us) v is same each = absurd cc
  kept_has_plan (x ∷ xs) us v is same each =
      let n = count_values us in
      let count : n ≡ length (x ∷ xs) = length-values entry_value (x ∷ xs) us same in
      let some : 1 ≤ n = omega (arith, count) in
      let ps = all_have_plans pair_shape entry_value (x ∷ xs) us 0 same (pairs_have_plan (x ∷ xs) each) in
      plan_node 8 (index_map text node_shape) (group us) v (index_plan n (fit.capacity n) ps.0) is refl (plan_map some refl refl (plan_slice refl ps.1))

  -- hashed maps whose keys ascend are filled as they are written, and kept maps have as many places
  pub record FillsMaps : Type 0 where
    pub hashed_maps : (ps : Pairs) → ArePairs hashed [] ps → FillsPairs (pairs_in ps) (by_first_fit (values_of_pairs ps))
    pub kept_maps : HasPlaces

  module _ (fills : FillsMaps) where
    mutual
      pub has_plan : (t : Tree) (v : Value) → IsLegal t → erased v ≡ value_of t → (p : Plan) × Planned node_shape v p
      has_plan (leaf (document.truth b)) v legal e = let x = tagged 0 (boolean b) v e in plan_node 0 truth x.inner v flat x.is refl (plan_flat truth_is_flat)
      has_plan (leaf (document.number n)) v legal e = let x = tagged 1 (integer n) v e in plan_node 1 (number w64 true) x.inner v flat x.is refl (plan_flat number_is_flat)
      has_plan (leaf (document.text t)) v legal e =
          let p = text_has_plan t in
          plan_node 2 text (string t) v p.0 (simply_tagged 2 (string t) v tt e) refl p.1
      has_plan (shared t) v legal e =
          let x = tagged 3 (counted 0 (string t)) v e in
          let y = shared_text t x.inner x.same in
          plan_node 3 (shared_shape false str) (counted y.pos (string t)) v (text_plan t) (x.is ∙ ap (tagged_value 3) y.is) refl (plan_shared (plan_str refl) refl)
      has_plan nothing v legal e = plan_node 4 (option boxed_shape) (chosen 0 no_values) v flat (simply_tagged 4 (chosen 0 no_values) v tt e) refl plan_none
      has_plan (just t) v legal e =
          let x = tagged 4 (tagged_value 1 (value_of t)) v e in
          let y = tagged 1 (value_of t) x.inner x.same in
          let p = has_plan t y.inner legal y.same in
          plan_node 4 (option boxed_shape) (tagged_value 1 y.inner) v (one_plan (align_up 1 (align_of boxed_shape)) (box_plan p.0)) (x.is ∙ ap (tagged_value 4) y.is) refl
          (plan_some (plans_at (plan_box (plan_sized p.1)) plans_none))
      has_plan (list ts) v legal e =
          let x = tagged 5 (group (values_of ts)) v e in
          let y = grouped (values_of ts) x.inner x.same in
          let ps = all_have_plans node_shape value_of (trees_in ts) y.inner 0 (ap listed_in y.same ∙ values_listed ts) (trees_have_plans ts legal.0) in
          plan_node 5 (vector node_shape) (group y.inner) v (slice_plan node_shape (count_values y.inner ∷ []) (count_values y.inner) ps.0) (x.is ∙ ap (tagged_value 5) y.is) refl (plan_vector (plan_slice refl ps.1))
      has_plan (map ordered ps) v legal e =
          let x = tagged 6 (group (values_of_pairs ps)) v e in
          let y = grouped (values_of_pairs ps) x.inner x.same in
          map_has_plan (pairs_in ps) y.inner v (x.is ∙ ap (tagged_value 6) y.is) (y.same ∙ entry_values fit ps) (pairs_have_plans ordered [] ps legal.0)
      has_plan (map hashed ps) v legal e =
          let vs = by_first_fit (values_of_pairs ps) in
          let x = tagged 7 (group vs) v e in
          let y = grouped vs x.inner x.same in
          hashed_has_plan (pairs_in ps) vs y.inner v (x.is ∙ ap (tagged_value 7) y.is) y.same (fills.hashed_maps ps legal.0) (pairs_have_plans hashed [] ps legal.0)
      has_plan (map kept ps) v legal e =
          let x = tagged 8 (group (values_of_pairs ps)) v e in
          let y = grouped (values_of_pairs ps) x.inner x.same in
          kept_has_plan (pairs_in ps) y.inner v (x.is ∙ ap (tagged_value 8) y.is) (ap listed_in y.same ∙ pairs_listed ps) (pairs_have_plans kept [] ps legal.0)
      has_plan (whole t) v legal e =
          let x = tagged 9 (counted 0 (value_of t)) v e in
          let y = counted_value (value_of t) x.inner x.same in
          let p = has_plan t y.inner legal y.same in
          plan_node 9 whole_shape (counted y.pos y.inner) v (whole_plan (value_of t) p.0) (x.is ∙ ap (tagged_value 9) y.is) refl (plan_shared (plan_sized p.1) (sym y.same))

      pairs_have_plans : (kind : MapKind) (keys : List (List ℕ)) (ps : Pairs) → ArePairs kind keys ps → EachIs (IsPlanned fit node_names 5 text node_shape entry_value) (pairs_in ps)
      pairs_have_plans kind keys no_pairs legal = tt
      pairs_have_plans kind keys (more_pairs k t ps) legal = (
        λ e same.
            let x = paired k (value_of t) e same in
            let p = text_has_plan k in
            let q = has_plan t x.inner legal.1.0 x.same in
            record { key = string k; value = x.inner; key_plan = p.0; value_plan = q.0; is = x.is; key_planned = p.1; value_planned = q.1 },
        pairs_have_plans kind (k ∷ keys) ps legal.1.1,
      )

      trees_have_plans : (ts : Trees) → AreLegal ts → AllByRecursion (IsItemPlanned fit node_names node_shape value_of) (trees_in ts)
      trees_have_plans no_trees legal = tt
      trees_have_plans (more_trees t ts) legal = (λ v e. has_plan t v legal.0 e, trees_have_plans ts legal.1)
