-- Tables of one finite map.
use Rattle.std.proofs.Common.{refl, ap, ap₂, sym, subst, ◌∙◌, ◌≡◌, arith, ℕ, ◌+◌, Bool, true, false, cond, List, [], ◌∷◌, length}
use Rattle.archive_shape_layout.specs.Value.{Value, Values, count_values}
use Rattle.archive_shape_layout.specs.Value.Value.{natural, integer, boolean, string, group, chosen, counted, back}
use Rattle.archive_shape_layout.specs.Value.Values.{no_values, more_values}
use Rattle.archive_shape_layout.specs.Content.{members}
use Rattle.archive_shape_canonical.specs.Seen.{key_alone, keys_alone, by_keys}
use Rattle.archive_shape_canonical.specs.Settled.{IsFitted}
use Rattle.archive_shape_canonical.specs.Sharing.{erased, all_erased}
use Rattle.archive_shape_canonical.specs.FirstFit.{text_key, keys_in, items_of, comes_before, put_in, ascending, placed_keys, map_capacity, first_fit, put_item, by_key}
use Rattle.archive_shape_canonical.specs.Laws.{TablesOfOneMap}
use Rattle.archive_shape_canonical.proofs.Choosing.{count_keys_alone, erased_by_keys}

keys_put : (v : Value) (us : Values) → keys_in (put_item v us) ≡ put_in (text_key v) (keys_in us)
keys_put v no_values = refl
keys_put v (more_values u us) = either (comes_before (text_key v) (text_key u)) (keys_put v us)
  where
    either : (b : Bool) → keys_in (put_item v us) ≡ put_in (text_key v) (keys_in us)
        → keys_in (cond b (more_values v (more_values u us)) (more_values u (put_item v us))) ≡ cond b (text_key v ∷ (text_key u ∷ keys_in us)) (text_key u ∷ put_in (text_key v) (keys_in us))
    either true e = refl
    either false e = ap (λ ks. text_key u ∷ ks) e

keys_by_key : (vs : Values) → keys_in (by_key vs) ≡ ascending (keys_in vs)
keys_by_key no_values = refl
keys_by_key (more_values v vs) = keys_put v (by_key vs) ∙ ap (put_in (text_key v)) (keys_by_key vs)

head_key : {k l : List ℕ} {ks ls : List (List ℕ)} → k ∷ ks ≡ l ∷ ls → k ≡ l
head_key e = cc

rest_keys : {k l : List ℕ} {ks ls : List (List ℕ)} → k ∷ ks ≡ l ∷ ls → ks ≡ ls
rest_keys e = cc

first_of : {v w : Value} {vs ws : Values} → more_values v vs ≡ more_values w ws → v ≡ w
first_of e = cc

others_of : {v w : Value} {vs ws : Values} → more_values v vs ≡ more_values w ws → vs ≡ ws
others_of e = cc

-- keys alone say where an item goes
put_same : (v w : Value) (us ts : Values) → text_key v ≡ text_key w → keys_in us ≡ keys_in ts → put_item v us ≡ put_item w ts → (v ≡ w) × (us ≡ ts)
put_same v w no_values no_values k e h = (first_of h, refl)
put_same v w no_values (more_values t ts) k e h = absurd (cc)
put_same v w (more_values u us) no_values k e h = absurd (cc)
put_same v w (more_values u us) (more_values t ts) k e h =
    either (comes_before (text_key v) (text_key u)) (comes_before (text_key w) (text_key t)) (ap₂ (λ a b. comes_before a b) k (head_key e)) h (put_same v w us ts k (rest_keys e))
  where
    either : (a b : Bool) → a ≡ b
        → cond a (more_values v (more_values u us)) (more_values u (put_item v us)) ≡ cond b (more_values w (more_values t ts)) (more_values t (put_item w ts))
        → (put_item v us ≡ put_item w ts → (v ≡ w) × (us ≡ ts))
        → (v ≡ w) × (more_values u us ≡ more_values t ts)
    either true true q x f = (first_of x, others_of x)
    either true false q x f = absurd (cc)
    either false true q x f = absurd (cc)
    either false false q x f = let d = f (others_of x) in (d.0, ap₂ (λ a b. more_values a b) (first_of x) d.1)

by_key_same : (vs us : Values) → keys_in vs ≡ keys_in us → by_key vs ≡ by_key us → vs ≡ us
by_key_same no_values no_values k e = refl
by_key_same no_values (more_values u us) k e = absurd (cc)
by_key_same (more_values v vs) no_values k e = absurd (cc)
by_key_same (more_values v vs) (more_values u us) k e =
    let keys : keys_in (by_key vs) ≡ keys_in (by_key us) = keys_by_key vs ∙ ap ascending (rest_keys k) ∙ sym (keys_by_key us) in
    let d = put_same v u (by_key vs) (by_key us) (head_key k) keys e in
    ap₂ (λ a b. more_values a b) d.0 (by_key_same vs us (rest_keys k) d.1)

length_put : (k : List ℕ) (ls : List (List ℕ)) → length (put_in k ls) ≡ 1 + length ls
length_put k [] = omega arith
length_put k (l ∷ ls) = either (comes_before k l) (length_put k ls)
  where
    either : (b : Bool) → length (put_in k ls) ≡ 1 + length ls → length (cond b (k ∷ (l ∷ ls)) (l ∷ put_in k ls)) ≡ 1 + length (l ∷ ls)
    either true e = omega arith
    either false e = omega arith

length_ascending : (ks : List (List ℕ)) → length (ascending ks) ≡ length ks
length_ascending [] = refl
length_ascending (k ∷ ks) = (let a = length_put k (ascending ks) in let b = length_ascending ks in omega arith)

count_keys : (vs : Values) → length (keys_in vs) ≡ count_values vs
count_keys no_values = refl
count_keys (more_values v vs) = let a = count_keys vs in omega arith

keys_of_items : (ks : List (List ℕ)) → keys_in (items_of ks) ≡ ks
keys_of_items [] = refl
keys_of_items (k ∷ ks) = ap (λ x. k ∷ x) (keys_of_items ks)

key_kept : (v : Value) → text_key (key_alone v) ≡ text_key v
key_kept (group no_values) = refl
key_kept (group (more_values (string bs) vs)) = refl
key_kept (group (more_values (natural m) vs)) = refl
key_kept (group (more_values (integer m) vs)) = refl
key_kept (group (more_values (boolean m) vs)) = refl
key_kept (group (more_values (group us) vs)) = refl
key_kept (group (more_values (chosen t us) vs)) = refl
key_kept (group (more_values (counted t u) vs)) = refl
key_kept (group (more_values (back t) vs)) = refl
key_kept (natural m) = refl
key_kept (integer m) = refl
key_kept (boolean m) = refl
key_kept (string bs) = refl
key_kept (chosen t us) = refl
key_kept (counted t u) = refl
key_kept (back t) = refl

keys_kept : (vs : Values) → keys_in (keys_alone vs) ≡ keys_in vs
keys_kept no_values = refl
keys_kept (more_values v vs) = ap₂ (λ a b. a ∷ b) (key_kept v) (keys_kept vs)

module _ (hash : List ℕ → ℕ) where
  -- a table's keys are where first fit puts them by ascending keys
  keys_placed : (controls : List ℕ) (len cap : ℕ) (v : Value) → IsFitted (first_fit hash) controls len cap (more_values (by_keys v) no_values)
      → keys_in (members (erased v)) ≡ placed_keys hash (map_capacity (count_values (members (erased v)))) (ascending (keys_in (members (erased v))))
  keys_placed controls len cap v e =
      let items = all_erased (members (by_keys v)) in
      let here : keys_in items ≡ placed_keys hash (map_capacity (count_values items)) (ascending (keys_in items)) =
      ap keys_in e.3 ∙ keys_of_items (placed_keys hash (map_capacity (count_values items)) (ascending (keys_in items))) in
      let there = subst (λ x. keys_in x ≡ placed_keys hash (map_capacity (count_values x)) (ascending (keys_in x))) (erased_by_keys v) here in
      sym (keys_kept (members (erased v))) ∙ there
      ∙ ap₂ (λ n ks. placed_keys hash (map_capacity n) (ascending ks)) (count_keys_alone (members (erased v))) (keys_kept (members (erased v)))

pub tables_of_one_map_law : TablesOfOneMap
tables_of_one_map_law hash bytes others pos from s r target goal len count cap room it that ps qs v w x y e =
    let us = members (erased v) in
    let ts = members (erased w) in
    let orders : ascending (keys_in us) ≡ ascending (keys_in ts) = sym (keys_by_key us) ∙ ap keys_in e ∙ keys_by_key ts in
    let counts : count_values us ≡ count_values ts =
    sym (count_keys us) ∙ sym (length_ascending (keys_in us)) ∙ ap length orders ∙ length_ascending (keys_in ts) ∙ count_keys ts in
    let keys : keys_in us ≡ keys_in ts =
    keys_placed hash _ len cap v x ∙ ap₂ (λ n ks. placed_keys hash (map_capacity n) ks) counts orders ∙ sym (keys_placed hash _ count room w y) in
    by_key_same us ts keys e
