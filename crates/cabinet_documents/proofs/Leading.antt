-- How a path in a value leads to a leaf, at each place.
use Rattle.std.proofs.Common.{◌≡◌, ℕ, zero, suc, ◌+◌, ◌-◌, ◌*◌, ◌<◌, ◌≤◌, nat_lt, cond, Bool, true, false, List, [], ◌∷◌, ◌++◌, Option, Some, None, refl, sym, ap, subst, ◌∙◌, arith, ◌⊎◌, inl, inr}
use Rattle.std.specs.Prelude.{⊤}
use Rattle.archive_shape_layout.specs.Value.{Value, Values}
use Rattle.archive_shape_layout.specs.Value.Value.{group, chosen}
use Rattle.archive_shape_layout.specs.Value.Values.{no_values, more_values}
use Rattle.archive_shape_layout.specs.Content.{Label, made, first_values, other_values}
use Rattle.archive_shape_layout.specs.Content.Label.{same, second, whole, woven, total}
use Rattle.archive_shape_layout.specs.Path.{value_in, value_at, and_then, through, child_place, entry_place, in_child, in_entry}
use Rattle.archive_shape_layout.proofs.Paths.{path_is, put_label}
use Rattle.archive_shape_canonical.specs.Laws.{IsBehindKey}
use Rattle.cabinet_text_grammar.specs.Tree.{Leaf, truth, number, text}
use Rattle.cabinet_text_grammar.specs.Path.{Step}
use Rattle.cabinet_documents.specs.Denotes.{tagged_value, pair_value}
use Rattle.cabinet_documents.specs.OwnBytes.{LeadsTo, leads_here, leads_inside, leads_place, leads_key}
use Rattle.cabinet_documents.proofs.Places.{Place, node_here, payload_here, truth_here, number_here, text_here, shared_here, option_here, box_here, list_here, ordered_here, table_here, index_here, whole_here, pair_here, tree_node, tree_child, entry_here, buckets_here, numbers_here, entry_number, node_behind, nodes_behind, pairs_behind, text_behind, Spot, each_from, entries_from, children_from, tagged_from}
use Rattle.cabinet_documents.proofs.Known.{leaf_tag, LeafValue}
use Rattle.cabinet_documents.proofs.Steps.{place_of}

-- ---- where the way to a leaf leads on

-- a path in a node's value leads to the payload of a leaf
pub record ToLeaf (v : Value) (path : List ℕ) : Type 0 where
  pub steps : List Step
  pub inner : List ℕ
  pub node : Value
  pub leads : LeadsTo v steps inner node
  pub leaf : Leaf
  pub is_leaf : LeafValue node leaf
  pub is : path ≡ inner ++ 0 ∷ []

-- a path begins with the number of an item, in which the rest of it leads to a leaf
pub record ToItem (v : Value) (path : List ℕ) : Type 0 where
  pub item : Value
  pub i : ℕ
  pub more : List ℕ
  pub there : value_at (i ∷ []) v ≡ Some item
  pub is : path ≡ i ∷ more
  pub on : ToLeaf item more

-- a path begins with the number of a pair, and leads on to a leaf in the pair's value, which is its item 1
pub record ToPair (v : Value) (path : List ℕ) : Type 0 where
  pub key : List ℕ
  pub item : Value
  pub i : ℕ
  pub more : List ℕ
  pub there : value_at (i ∷ []) v ≡ Some (pair_value key item)
  pub is : path ≡ i ∷ (1 ∷ more)
  pub on : ToLeaf item more

-- the same, from the pair on
pub record FromPair (v : Value) (path : List ℕ) : Type 0 where
  pub key : List ℕ
  pub item : Value
  pub more : List ℕ
  pub there : v ≡ pair_value key item
  pub is : path ≡ 1 ∷ more
  pub on : ToLeaf item more

-- that a path in the value at a place leads to a leaf
abbrev pub Aims : Place → Value → List ℕ → Type 0
Aims node_here v path = ToLeaf v path
Aims payload_here v path = ToLeaf v path
Aims truth_here v path = ⊤
Aims number_here v path = ⊤
Aims text_here v path = ⊤
Aims shared_here v path = ⊤
Aims option_here v path = ToItem v path
Aims box_here v path = ToLeaf v path
Aims list_here v path = ToItem v path
Aims ordered_here v path = ToPair v path
Aims table_here v path = ToPair v path
Aims index_here v path = ToPair v path
-- no path leads into a whole
Aims whole_here v path = ⊥
Aims pair_here v path = FromPair v path
Aims (tree_node level) v path = ToPair v path
Aims (tree_child level) v path = ToPair v path
Aims (entry_here key) v path = FromPair v path
Aims (buckets_here target len cap) v path = ToPair v path
Aims (numbers_here target len cap) v path = ⊤
Aims (entry_number limit) v path = ⊤
Aims node_behind v path = ToLeaf v path
Aims (nodes_behind len) v path = ToItem v path
Aims (pairs_behind len) v path = ToPair v path
Aims (text_behind len) v path = ⊤

pub value_is : {a b : Value} → ◌≡◌ {A = Option Value} (Some a) (Some b) → a ≡ b
value_is e = cc

-- ---- from a node to its payload

leaf_aims : (l : Leaf) (u : Value) (path : List ℕ) → Aims (place_of (leaf_tag l)) u path
leaf_aims (truth b) u path = tt
leaf_aims (number n) u path = tt
leaf_aims (text s) u path = tt

map_aims : (tag : ℕ) (u : Value) (path : List ℕ) → (tag ≡ 6) ⊎ ((tag ≡ 7) ⊎ (tag ≡ 8)) → ToPair u path → Aims (place_of tag) u path
map_aims tag u path (inl six) p = subst (λ n. Aims (place_of n) u path) (sym six) p
map_aims tag u path (inr (inl seven)) p = subst (λ n. Aims (place_of n) u path) (sym seven) p
map_aims tag u path (inr (inr eight)) p = subst (λ n. Aims (place_of n) u path) (sym eight) p

record SamePayload (tag n : ℕ) (u w : Value) : Type 0 where
  tags : n ≡ tag
  payload : u ≡ w

same_payload : {v u w : Value} {vs : Values} {tag n : ℕ} → v ≡ chosen tag vs → value_in 0 vs ≡ Some u → v ≡ tagged_value n w → SamePayload tag n u w
same_payload {u = u} {w = w} {vs = vs} e there f =
    let values : vs ≡ more_values w no_values = cc in
    record { tags = cc; payload = value_is (sym there ∙ ap (value_in 0) values) }

pub payload_aims : {v w : Value} {steps : List Step} {inner : List ℕ} (l : Leaf) (tag : ℕ) (vs : Values) (u : Value) (path : List ℕ)
    → LeadsTo v steps inner w → LeafValue w l → v ≡ chosen tag vs → value_in 0 vs ≡ Some u → 0 ∷ path ≡ inner ++ 0 ∷ [] → Aims (place_of tag) u path
payload_aims l tag vs u path (leads_here e f g) is_leaf c there is =
    let p = same_payload c there (e ∙ is_leaf) in
    subst (λ n. Aims (place_of n) u path) p.tags (leaf_aims l u path)
payload_aims l tag vs u path (leads_inside {w = w} {u = x} {rest = rest} {more = more} e f g k) is_leaf c there is =
    let p = same_payload c there e in
    let at : 0 ∷ path ≡ 0 ∷ (0 ∷ (more ++ 0 ∷ [])) = is ∙ ap (λ z. z ++ 0 ∷ []) g in
    subst (λ n. Aims (place_of n) u path) p.tags
    (record { item = x; i = 0; more = more ++ 0 ∷ []; there = ap (value_at (0 ∷ [])) p.payload; is = cc; on = record { steps = rest; inner = more; node = w; leads = k; leaf = l; is_leaf = is_leaf; is = refl } })
payload_aims l tag vs u path (leads_place {w = w} {u = x} {i = i} {rest = rest} {more = more} e i_is f g k) is_leaf c there is =
    let p = same_payload c there e in
    let at : 0 ∷ path ≡ 0 ∷ (i ∷ (more ++ 0 ∷ [])) = is ∙ ap (λ z. z ++ 0 ∷ []) g in
    subst (λ n. Aims (place_of n) u path) p.tags
    (record {
      item = x;
      i = i;
      more = more ++ 0 ∷ [];
      there = ap (value_at (i ∷ [])) p.payload ∙ ap (λ o. and_then o (λ z. Some z)) i_is;
      is = cc;
      on = record { steps = rest; inner = more; node = w; leads = k; leaf = l; is_leaf = is_leaf; is = refl };
    })
payload_aims l tag vs u path (leads_key {w = w} {u = x} {i = i} {tag = n} {k = key} {rest = rest} {more = more} e high i_is f g k) is_leaf c there is =
    let p = same_payload c there e in
    let at : 0 ∷ path ≡ 0 ∷ (i ∷ (1 ∷ (more ++ 0 ∷ []))) = is ∙ ap (λ z. z ++ 0 ∷ []) g in
    subst (λ n. Aims (place_of n) u path) p.tags
    (map_aims n u path high
    (record {
      key = key;
      item = x;
      i = i;
      more = more ++ 0 ∷ [];
      there = ap (value_at (i ∷ [])) p.payload ∙ ap (λ o. and_then o (λ z. Some z)) i_is;
      is = cc;
      on = record { steps = rest; inner = more; node = w; leads = k; leaf = l; is_leaf = is_leaf; is = refl };
    }))

-- ---- spots among those that follow

abbrev pub IsSpot : ℕ → List Spot → Spot → Type 0
IsSpot i [] q = ⊥
IsSpot zero (r ∷ qs) q = r ≡ q
IsSpot (suc i) (r ∷ qs) q = IsSpot i qs q

-- at the only spot
pub only_spot : (i : ℕ) (r q : Spot) → IsSpot i (r ∷ []) q → (i ≡ 0) × (r ≡ q)
only_spot zero r q s = (refl, s)
only_spot (suc i) r q s = absurd s

pub each_spot : (k : Place) (size i pos n : ℕ) (q : Spot) → IsSpot i (each_from k size pos n) q → q.place ≡ k
each_spot k size i pos zero q s = absurd s
each_spot k size zero pos (suc n) q s = ap (λ (x : Spot). x.place) (sym s)
each_spot k size (suc i) pos (suc n) q s = each_spot k size i (pos + size) n q s

pub entry_spot : (i n key value : ℕ) (q : Spot) → IsSpot i (entries_from n key value) q → (k : ℕ) × (q.place ≡ entry_here k)
entry_spot i zero key value q s = absurd s
entry_spot zero (suc n) key value q s = (key, ap (λ (x : Spot). x.place) (sym s))
entry_spot (suc i) (suc n) key value q s = entry_spot i n (key + 8) (value + 24) q s

pub tagged_spot : (k : Place) (size i target j : ℕ) (controls : List ℕ) (q : Spot) → IsSpot i (tagged_from k size target j controls) q → q.place ≡ k
tagged_spot k size i target j [] q s = absurd s
tagged_spot k size i target j (c ∷ cs) q s = by_test (nat_lt c 128) i s (λ n h. tagged_spot k size n target (j + 1) cs q h)
  where
    later : List Spot
    later = tagged_from k size target (j + 1) cs

    by_test : (b : Bool) (n : ℕ) → IsSpot n (cond b (record { place = k; pos = target - (j + 1) * size } ∷ later) later) q → ((m : ℕ) → IsSpot m later q → q.place ≡ k) → q.place ≡ k
    by_test true zero h on = ap (λ (x : Spot). x.place) (sym h)
    by_test true (suc n) h on = on n h
    by_test false n h on = on n h

-- children come before entries
pub child_spot : (i n level link : ℕ) (es : List Spot) (q : Spot) → i < n → IsSpot i (children_from n level link ++ es) q → q.place ≡ tree_child level
child_spot i zero level link es q low s = absurd (omega (arith, low))
child_spot zero (suc n) level link es q low s = ap (λ (x : Spot). x.place) (sym s)
child_spot (suc i) (suc n) level link es q low s = child_spot i n level (link + 4) es q (omega (arith, low)) s

pub spot_behind : (i n level link : ℕ) (es : List Spot) (q : Spot) → n ≤ i → IsSpot i (children_from n level link ++ es) q → (j : ℕ) × IsSpot j es q
spot_behind i zero level link es q high s = (i, s)
spot_behind zero (suc n) level link es q high s = absurd (omega (arith, high))
spot_behind (suc i) (suc n) level link es q high s = spot_behind i n level (link + 4) es q (omega (arith, high)) s

-- ---- how a path goes through labels

pub same_through : (vs : Values) (v u : Value) (i : ℕ) (inner path : List ℕ) → made same vs ≡ Some v → value_in i vs ≡ Some u → through same vs i inner ≡ Some path → (u ≡ v) × (inner ≡ path)
unfolding made
same_through no_values v u i inner path m there t = absurd (cc)
same_through (more_values x no_values) v u zero inner path m there t = (value_is (sym there ∙ m), path_is t)
same_through (more_values x no_values) v u (suc i) inner path m there t = absurd (cc)
same_through (more_values x (more_values y vs)) v u i inner path m there t = absurd (cc)

pub second_through : (vs : Values) (v u : Value) (i : ℕ) (inner path : List ℕ) → made second vs ≡ Some v → value_in i vs ≡ Some u → through second vs i inner ≡ Some path → (i ≡ 1) × (u ≡ v) × (inner ≡ path)
unfolding made
second_through no_values v u i inner path m there t = absurd (cc)
second_through (more_values x no_values) v u i inner path m there t = absurd (cc)
second_through (more_values x (more_values y no_values)) v u zero inner path m there t = absurd (cc)
second_through (more_values x (more_values y no_values)) v u (suc zero) inner path m there t = (refl, value_is (sym there ∙ m), path_is t)
second_through (more_values x (more_values y no_values)) v u (suc (suc i)) inner path m there t = absurd (cc)
second_through (more_values x (more_values y (more_values z vs))) v u i inner path m there t = absurd (cc)

-- a path in a part begins with the number of an item there, and the path in the whole with another number of that item
pub record IntoItem (l : Label) (vs : Values) (i : ℕ) (inner path : List ℕ) : Type 0 where
  pub m : ℕ
  pub j : ℕ
  pub rest : List ℕ
  pub inner_is : inner ≡ m ∷ rest
  pub way : path ≡ j ∷ rest
  pub alone : through l vs i (m ∷ []) ≡ Some (j ∷ [])

-- a path in a part, which is an item of the whole: its number comes before the path
pub record IntoPart (l : Label) (vs : Values) (i : ℕ) (inner path : List ℕ) : Type 0 where
  pub j : ℕ
  pub way : path ≡ j ∷ inner
  pub alone : through l vs i [] ≡ Some (j ∷ [])

pub total_through : (n : ℕ) (vs : Values) (i : ℕ) (inner path : List ℕ) → through (total n) vs i inner ≡ Some path → IntoItem (total n) vs i inner path
total_through n vs zero [] path t = absurd (cc)
total_through n vs zero (m ∷ rest) path t = record { m = m; j = m; rest = rest; inner_is = refl; way = sym (path_is t); alone = refl }
total_through n vs (suc i) inner path t = absurd (cc)

pub whole_through : (vs : Values) (i : ℕ) (inner path : List ℕ) → through whole vs i inner ≡ Some path → IntoPart whole vs i inner path
whole_through vs i inner path t = record { j = i; way = sym (path_is t); alone = refl }

pub child_through : (n : ℕ) (vs : Values) (i : ℕ) (inner path : List ℕ) → nat_lt i n ≡ true → through (woven n) vs i inner ≡ Some path → IntoItem (woven n) vs i inner path
child_through n vs i inner path low t = by_place (child_place i cs es) refl inner (ap (λ b. cond b (in_child (child_place i cs es) inner) (in_entry (entry_place (i - n) cs es) inner)) (sym low) ∙ t)
  where
    cs : Values
    cs = first_values n vs

    es : Values
    es = other_values n vs

    by_place : (o : Option ℕ) → child_place i cs es ≡ o → (inner : List ℕ) → in_child o inner ≡ Some path → IntoItem (woven n) vs i inner path
    by_place None e inner t = absurd (cc)
    by_place (Some k) e [] t = absurd (cc)
    by_place (Some k) e (m ∷ rest) t = record {
      m = m;
      j = k + m;
      rest = rest;
      inner_is = refl;
      way = sym (path_is t);
      alone = ap (λ b. cond b (in_child (child_place i cs es) (m ∷ [])) (in_entry (entry_place (i - n) cs es) (m ∷ []))) low ∙ ap (λ x. in_child x (m ∷ [])) e;
    }

pub entry_through : (n : ℕ) (vs : Values) (i : ℕ) (inner path : List ℕ) → nat_lt i n ≡ false → through (woven n) vs i inner ≡ Some path → IntoPart (woven n) vs i inner path
entry_through n vs i inner path high t = by_place (entry_place (i - n) cs es) refl (ap (λ b. cond b (in_child (child_place i cs es) inner) (in_entry (entry_place (i - n) cs es) inner)) (sym high) ∙ t)
  where
    cs : Values
    cs = first_values n vs

    es : Values
    es = other_values n vs

    by_place : (o : Option ℕ) → entry_place (i - n) cs es ≡ o → in_entry o inner ≡ Some path → IntoPart (woven n) vs i inner path
    by_place None e t = absurd (cc)
    by_place (Some k) e t = record {
      j = k;
      way = sym (path_is t);
      alone = ap (λ b. cond b (in_child (child_place i cs es) []) (in_entry (entry_place (i - n) cs es) [])) high ∙ ap (λ x. in_entry x []) e;
    }

-- where a path leads to a value, so does its first step
first_step : (m : ℕ) (rest : List ℕ) (u w : Value) → value_at (m ∷ rest) u ≡ Some w → (x : Value) × (value_at (m ∷ []) u ≡ Some x)
first_step m rest (group vs) w e = by_value (value_in m vs) e
  where
    by_value : (o : Option Value) → and_then o (λ x. value_at rest x) ≡ Some w → (x : Value) × (and_then o (λ y. Some y) ≡ Some x)
    by_value None e = absurd (cc)
    by_value (Some x) e = (x, refl)
first_step m rest (chosen tag vs) w e = by_value (value_in m vs) e
  where
    by_value : (o : Option Value) → and_then o (λ x. value_at rest x) ≡ Some w → (x : Value) × (and_then o (λ y. Some y) ≡ Some x)
    by_value None e = absurd (cc)
    by_value (Some x) e = (x, refl)
first_step m rest u w e = absurd (cc)

-- the pair to which a path leads, seen from the part that has it
pub pair_below : {l : Label} {vs : Values} {i : ℕ} {inner path : List ℕ} {v u w : Value}
    → made l vs ≡ Some v → value_in i vs ≡ Some u → value_at inner u ≡ Some w → IntoItem l vs i inner path → ToPair v path → ToPair u inner
pair_below {l = l} {vs = vs} {i = i} {inner = inner} {v = v} {u = u} {w = w} made_of there at_w s a =
    let both : s.j ∷ s.rest ≡ a.i ∷ (1 ∷ a.more) = sym s.way ∙ a.is in
    let number : s.j ≡ a.i = cc in
    let rest : s.rest ≡ 1 ∷ a.more = cc in
    let x = first_step s.m s.rest u w (ap (λ p. value_at p u) (sym s.inner_is) ∙ at_w) in
    let found = (put_label l vs i (s.m ∷ []) (s.j ∷ []) v v u x.0 made_of there x.1 s.alone).is_there in
    let same_pair : x.0 ≡ pair_value a.key a.item = value_is (sym found ∙ ap (λ n. value_at (n ∷ []) v) number ∙ a.there) in
    record { key = a.key; item = a.item; i = s.m; more = a.more; there = x.1 ∙ ap (λ y. Some y) same_pair; is = s.inner_is ∙ ap (λ p. s.m ∷ p) rest; on = a.on }

pub pair_in : {l : Label} {vs : Values} {i : ℕ} {inner path : List ℕ} {v u : Value}
    → made l vs ≡ Some v → value_in i vs ≡ Some u → IntoPart l vs i inner path → ToPair v path → FromPair u inner
pair_in {l = l} {vs = vs} {i = i} {v = v} {u = u} made_of there s a =
    let both = sym s.way ∙ a.is in
    let number : s.j ≡ a.i = cc in
    let found = (put_label l vs i [] (s.j ∷ []) v v u u made_of there refl s.alone).is_there in
    record { key = a.key; item = a.item; more = a.more; there = value_is (sym found ∙ ap (λ n. value_at (n ∷ []) v) number ∙ a.there); is = cc; on = a.on }

pub item_here : {l : Label} {vs : Values} {i : ℕ} {inner path : List ℕ} {v u : Value}
    → made l vs ≡ Some v → value_in i vs ≡ Some u → IntoPart l vs i inner path → ToItem v path → ToLeaf u inner
item_here {l = l} {vs = vs} {i = i} {inner = inner} {v = v} {u = u} made_of there s a =
    let both = sym s.way ∙ a.is in
    let number : s.j ≡ a.i = cc in
    let rest : inner ≡ a.more = cc in
    let found = (put_label l vs i [] (s.j ∷ []) v v u u made_of there refl s.alone).is_there in
    let same_item : u ≡ a.item = value_is (sym found ∙ ap (λ n. value_at (n ∷ []) v) number ∙ a.there) in
    subst (λ x. ToLeaf x inner) (sym same_item) (subst (ToLeaf a.item) (sym rest) a.on)

pub behind_key : {v : Value} {path : List ℕ} → ToPair v path → IsBehindKey path
behind_key a = subst IsBehindKey (sym a.is) tt
