-- What is made of values in which one has changed, at a path.
use Rattle.std.proofs.Common.{◌≡◌, ℕ, zero, suc, ◌+◌, ◌-◌, ◌==◌, ◌<◌, ◌≤◌, nat_lt, cond, Bool, true, false, List, [], ◌∷◌, Option, Some, None, refl, ap, ap₂, sym, subst, ◌∙◌, arith, ltb-true}
use Rattle.std.proofs.lemmas.Bool.{ltb-false}
use Rattle.archive_shape_layout.specs.Value.{Value, Values, append_values, count_values}
use Rattle.archive_shape_layout.specs.Value.Value.{natural, integer, boolean, string, group, chosen, counted, back}
use Rattle.archive_shape_layout.specs.Value.Values.{no_values, more_values}
use Rattle.archive_shape_layout.specs.Content.{Label, made, members, weave, first_values, other_values}
use Rattle.archive_shape_layout.specs.Content.Label.{leaf, written, same, second, whole, tagged, woven, total}
use Rattle.archive_shape_layout.specs.Path.{value_in, change_in, and_then, value_at, put_at, beyond, child_place, entry_place, in_child, in_entry, through}

-- ---- lists of values

-- of two values that are given, one is the other
some_is : {a b : Value} → ◌≡◌ {A = Option Value} (Some a) (Some b) → a ≡ b
some_is e = cc

pub below_count : (i : ℕ) (vs : Values) (u : Value) → value_in i vs ≡ Some u → i < count_values vs
below_count i no_values u e = absurd (cc)
below_count zero (more_values v vs) u e = omega arith
below_count (suc i) (more_values v vs) u e = let h = below_count i vs u e in omega arith

change_first : (i : ℕ) (f : Value → Value) (xs ys : Values) → i < count_values xs → change_in i f (append_values xs ys) ≡ append_values (change_in i f xs) ys
change_first i f no_values ys h = absurd (omega arith)
change_first zero f (more_values x xs) ys h = refl
change_first (suc i) f (more_values x xs) ys h = ap (more_values x) (change_first i f xs ys (omega arith))

change_second : (i : ℕ) (f : Value → Value) (xs ys : Values) → change_in (count_values xs + i) f (append_values xs ys) ≡ append_values xs (change_in i f ys)
change_second i f no_values ys = let e : 0 + i ≡ i = omega arith in ap (λ k. change_in k f ys) e
change_second i f (more_values x xs) ys =
    let e : (1 + count_values xs) + i ≡ suc (count_values xs + i) = omega arith in
    ap (λ k. change_in k f (more_values x (append_values xs ys))) e ∙ ap (more_values x) (change_second i f xs ys)

value_first : (i : ℕ) (xs ys : Values) → i < count_values xs → value_in i (append_values xs ys) ≡ value_in i xs
value_first i no_values ys h = absurd (omega arith)
value_first zero (more_values x xs) ys h = refl
value_first (suc i) (more_values x xs) ys h = value_first i xs ys (omega arith)

value_second : (i : ℕ) (xs ys : Values) → value_in (count_values xs + i) (append_values xs ys) ≡ value_in i ys
value_second i no_values ys = let e : 0 + i ≡ i = omega arith in ap (λ k. value_in k ys) e
value_second i (more_values x xs) ys =
    let e : (1 + count_values xs) + i ≡ suc (count_values xs + i) = omega arith in
    ap (λ k. value_in k (more_values x (append_values xs ys))) e ∙ value_second i xs ys

pub change_keeps_count : (i : ℕ) (f : Value → Value) (vs : Values) → count_values (change_in i f vs) ≡ count_values vs
change_keeps_count i f no_values = refl
change_keeps_count zero f (more_values v vs) = refl
change_keeps_count (suc i) f (more_values v vs) = ap (λ k. 1 + k) (change_keeps_count i f vs)

first_below : (n i : ℕ) (f : Value → Value) (vs : Values) → i < n → first_values n (change_in i f vs) ≡ change_in i f (first_values n vs)
first_below zero i f vs h = absurd (omega arith)
first_below (suc n) i f no_values h = refl
first_below (suc n) zero f (more_values v vs) h = refl
first_below (suc n) (suc i) f (more_values v vs) h = ap (more_values v) (first_below n i f vs (omega arith))

other_below : (n i : ℕ) (f : Value → Value) (vs : Values) → i < n → other_values n (change_in i f vs) ≡ other_values n vs
other_below zero i f vs h = absurd (omega arith)
other_below (suc n) i f no_values h = refl
other_below (suc n) zero f (more_values v vs) h = refl
other_below (suc n) (suc i) f (more_values v vs) h = other_below n i f vs (omega arith)

first_above : (n i : ℕ) (f : Value → Value) (vs : Values) → n ≤ i → first_values n (change_in i f vs) ≡ first_values n vs
first_above zero i f vs h = refl
first_above (suc n) i f no_values h = refl
first_above (suc n) zero f (more_values v vs) h = absurd (omega arith)
first_above (suc n) (suc i) f (more_values v vs) h = ap (more_values v) (first_above n i f vs (omega arith))

other_above : (n i : ℕ) (f : Value → Value) (vs : Values) → other_values n (change_in (n + i) f vs) ≡ change_in i f (other_values n vs)
other_above zero i f vs = let e : 0 + i ≡ i = omega arith in ap (λ k. change_in k f vs) e
other_above (suc n) i f no_values = refl
other_above (suc n) i f (more_values v vs) =
    let e : suc n + i ≡ suc (n + i) = omega arith in
    ap (λ k. other_values (suc n) (change_in k f (more_values v vs))) e ∙ other_above n i f vs

value_below : (n i : ℕ) (vs : Values) → i < n → value_in i (first_values n vs) ≡ value_in i vs
value_below zero i vs h = absurd (omega arith)
value_below (suc n) i no_values h = refl
value_below (suc n) zero (more_values v vs) h = refl
value_below (suc n) (suc i) (more_values v vs) h = value_below n i vs (omega arith)

value_above : (n i : ℕ) (vs : Values) → value_in i (other_values n vs) ≡ value_in (n + i) vs
value_above zero i vs = let e : i ≡ 0 + i = omega arith in ap (λ k. value_in k vs) e
value_above (suc n) i no_values = refl
value_above (suc n) i (more_values v vs) =
    let e : suc (n + i) ≡ suc n + i = omega arith in
    value_above n i vs ∙ ap (λ k. value_in k (more_values v vs)) e

-- ---- children and entries in turn

sum_same : (m n k : ℕ) → m ≡ n → m + k ≡ n + k
sum_same m n k e = ap (λ x. x + k) e

place_is : {m n : ℕ} → ◌≡◌ {A = Option ℕ} (Some m) (Some n) → m ≡ n
place_is e = cc

-- a place that lies beyond others
beyond_is : (k n : ℕ) (o : Option ℕ) → beyond k o ≡ Some n → (m : ℕ) × (o ≡ Some m) × (k + m ≡ n)
beyond_is k n None e = absurd (cc)
beyond_is k n (Some m) e = (m, refl, place_is e)

step_below : (j : ℕ) (items : Values) (f : Value → Option Value) (w : Value) → and_then (value_in j items) f ≡ Some w → j < count_values items
step_below j items f w e = by_value (value_in j items) refl
  where
    by_value : (o : Option Value) → value_in j items ≡ o → j < count_values items
    by_value (Some u) h = below_count j items u h
    by_value None h = let bad : None ≡ Some w = ap (λ o. and_then o f) (sym h) ∙ e in absurd (cc)

-- a child's item j is at its place in the whole
child_put : (new w : Value) (i : ℕ) (cs es : Values) (n j : ℕ) (path : List ℕ) (u : Value)
    → child_place i cs es ≡ Some n → value_in i cs ≡ Some u → value_at (j ∷ path) u ≡ Some w
    → weave (change_in i (λ x. put_at (j ∷ path) new x) cs) es ≡ change_in (n + j) (λ x. put_at path new x) (weave cs es)
child_put new w i no_values es n j path u a b c = absurd (cc)
child_put new w zero (more_values (group items) cs) no_values n j path u a b c =
    ap (λ k. change_in k (λ x. put_at path new x) items) (let e : n ≡ 0 = sym (place_is a) in omega arith)
child_put new w zero (more_values (group items) cs) (more_values e es) n j path u a b c =
    let is : u ≡ group items = sym (some_is b) in
    let low = step_below j items (λ x. value_at path x) w (ap (value_at (j ∷ path)) (sym is) ∙ c) in
    let f = λ (x : Value). put_at path new x in
    sym (change_first j f items (more_values e (weave cs es)) low)
    ∙ ap (λ k. change_in k f (append_values items (more_values e (weave cs es)))) (let e : n ≡ 0 = sym (place_is a) in omega arith)
child_put new w zero (more_values (natural x) cs) es n j path u a b c = absurd (cc)
child_put new w zero (more_values (integer x) cs) es n j path u a b c = absurd (cc)
child_put new w zero (more_values (boolean x) cs) es n j path u a b c = absurd (cc)
child_put new w zero (more_values (string x) cs) es n j path u a b c = absurd (cc)
child_put new w zero (more_values (chosen t x) cs) es n j path u a b c = absurd (cc)
child_put new w zero (more_values (counted t x) cs) es n j path u a b c = absurd (cc)
child_put new w zero (more_values (back t) cs) es n j path u a b c = absurd (cc)
child_put new w (suc i) (more_values d cs) no_values n j path u a b c = absurd (cc)
child_put new w (suc i) (more_values d cs) (more_values e es) n j path u a b c =
    let k = count_values (members d) in
    let before = beyond_is (k + 1) n (child_place i cs es) a in
    let f = λ (x : Value). put_at path new x in
    ap (λ x. append_values (members d) (more_values e x)) (child_put new w i cs es before.0 j path u before.1 b c)
    ∙ sym (change_second (suc (before.0 + j)) f (members d) (more_values e (weave cs es)))
    ∙ ap (λ m. change_in m f (append_values (members d) (more_values e (weave cs es)))) (let is = before.2 in omega arith)

child_value : (i : ℕ) (cs es : Values) (n j : ℕ) (u : Value) (f : Value → Option Value) (w : Value)
    → child_place i cs es ≡ Some n → value_in i cs ≡ Some u → and_then (value_in j (members u)) f ≡ Some w
    → and_then (value_in (n + j) (weave cs es)) f ≡ Some w
child_value i no_values es n j u f w a b c = absurd (cc)
child_value zero (more_values d cs) no_values n j u f w a b c =
    let is : u ≡ d = sym (some_is b) in
    let z : n ≡ 0 = none_before d a in
    ap (λ k. and_then (value_in k (members d)) f) (let at : n + j ≡ j = omega arith in at) ∙ ap (λ x. and_then (value_in j (members x)) f) (sym is) ∙ c
  where
    none_before : (d : Value) → child_place zero (more_values d cs) no_values ≡ Some n → n ≡ 0
    none_before (group items) a = sym (place_is a)
    none_before (natural x) a = absurd (cc)
    none_before (integer x) a = absurd (cc)
    none_before (boolean x) a = absurd (cc)
    none_before (string x) a = absurd (cc)
    none_before (chosen t x) a = absurd (cc)
    none_before (counted t x) a = absurd (cc)
    none_before (back t) a = absurd (cc)
child_value zero (more_values d cs) (more_values e es) n j u f w a b c =
    let is : u ≡ d = sym (some_is b) in
    let z : n ≡ 0 = none_before d a in
    let here : and_then (value_in j (members d)) f ≡ Some w = ap (λ x. and_then (value_in j (members x)) f) (sym is) ∙ c in
    let low = step_below j (members d) f w here in
    ap (λ k. and_then (value_in k (append_values (members d) (more_values e (weave cs es)))) f) (let at : n + j ≡ j = omega arith in at)
    ∙ ap (λ o. and_then o f) (value_first j (members d) (more_values e (weave cs es)) low) ∙ here
  where
    none_before : (d : Value) → child_place zero (more_values d cs) (more_values e es) ≡ Some n → n ≡ 0
    none_before (group items) a = sym (place_is a)
    none_before (natural x) a = absurd (cc)
    none_before (integer x) a = absurd (cc)
    none_before (boolean x) a = absurd (cc)
    none_before (string x) a = absurd (cc)
    none_before (chosen t x) a = absurd (cc)
    none_before (counted t x) a = absurd (cc)
    none_before (back t) a = absurd (cc)
child_value (suc i) (more_values d cs) no_values n j u f w a b c = absurd (cc)
child_value (suc i) (more_values d cs) (more_values e es) n j u f w a b c =
    let k = count_values (members d) in
    let before = beyond_is (k + 1) n (child_place i cs es) a in
    let is = before.2 in
    ap (λ m. and_then (value_in m (append_values (members d) (more_values e (weave cs es)))) f) (let at : n + j ≡ k + suc (before.0 + j) = omega arith in at)
    ∙ ap (λ o. and_then o f) (value_second (suc (before.0 + j)) (members d) (more_values e (weave cs es)))
    ∙ child_value i cs es before.0 j u f w before.1 b c

-- an entry is at its place in the whole
entry_put : (f : Value → Value) (i : ℕ) (cs es : Values) (n : ℕ) → entry_place i cs es ≡ Some n
    → weave cs (change_in i f es) ≡ change_in n f (weave cs es)
entry_put f i no_values es n a = ap (λ k. change_in k f es) (place_is a)
entry_put f i (more_values c cs) no_values n a = absurd (cc)
entry_put f zero (more_values c cs) (more_values e es) n a =
    let is : count_values (members c) ≡ n = place_is a in
    sym (change_second zero f (members c) (more_values e (weave cs es)))
    ∙ ap (λ k. change_in k f (append_values (members c) (more_values e (weave cs es)))) (omega arith)
entry_put f (suc i) (more_values c cs) (more_values e es) n a =
    let k = count_values (members c) in
    let before = beyond_is (k + 1) n (entry_place i cs es) a in
    ap (λ x. append_values (members c) (more_values e x)) (entry_put f i cs es before.0 before.1)
    ∙ sym (change_second (suc before.0) f (members c) (more_values e (weave cs es)))
    ∙ ap (λ m. change_in m f (append_values (members c) (more_values e (weave cs es)))) (let is = before.2 in omega arith)

entry_value : (i : ℕ) (cs es : Values) (n : ℕ) (u : Value) → entry_place i cs es ≡ Some n → value_in i es ≡ Some u → value_in n (weave cs es) ≡ Some u
entry_value i no_values es n u a b = ap (λ k. value_in k es) (sym (place_is a)) ∙ b
entry_value i (more_values c cs) no_values n u a b = absurd (cc)
entry_value zero (more_values c cs) (more_values e es) n u a b =
    let is : count_values (members c) ≡ n = place_is a in
    ap (λ k. value_in k (append_values (members c) (more_values e (weave cs es)))) (let at : n ≡ count_values (members c) + zero = omega arith in at)
    ∙ value_second zero (members c) (more_values e (weave cs es)) ∙ b
entry_value (suc i) (more_values c cs) (more_values e es) n u a b =
    let k = count_values (members c) in
    let before = beyond_is (k + 1) n (entry_place i cs es) a in
    let is = before.2 in
    ap (λ m. value_in m (append_values (members c) (more_values e (weave cs es)))) (let at : n ≡ k + suc before.0 = omega arith in at)
    ∙ value_second (suc before.0) (members c) (more_values e (weave cs es))
    ∙ entry_value i cs es before.0 u before.1 b

-- ---- labels

-- what is made of the values of which one has changed is what was made, changed at the path
pub record IsPut (l : Label) (vs : Values) (i : ℕ) (inner path : List ℕ) (v new w : Value) : Type 0 where
  pub is_made : made l (change_in i (λ x. put_at inner new x) vs) ≡ Some (put_at path new v)
  pub is_there : value_at path v ≡ Some w

pub path_is : {p q : List ℕ} → ◌≡◌ {A = Option (List ℕ)} (Some p) (Some q) → p ≡ q
path_is e = cc

-- from the value that was made and the path there to those that are meant
moved : (l : Label) (vs : Values) (i : ℕ) (inner path other : List ℕ) (v a new w : Value)
    → ◌≡◌ {A = Option Value} (Some a) (Some v) → ◌≡◌ {A = Option (List ℕ)} (Some other) (Some path)
    → made l (change_in i (λ x. put_at inner new x) vs) ≡ Some (put_at other new a) → value_at other a ≡ Some w
    → IsPut l vs i inner path v new w
moved l vs i inner path other v a new w e p m t =
    let same_path = path_is p in
    let same_value = some_is e in
    record {
      is_made = m ∙ ap₂ (λ q x. Some (put_at q new x)) same_path same_value;
      is_there = sym (ap₂ (λ q x. value_at q x) same_path same_value) ∙ t;
    }

group_put : (i : ℕ) (inner : List ℕ) (vs : Values) (u w : Value) → value_in i vs ≡ Some u → value_at inner u ≡ Some w → and_then (value_in i vs) (λ x. value_at inner x) ≡ Some w
group_put i inner vs u w b c = ap (λ o. and_then o (λ x. value_at inner x)) b ∙ c

members_keep : (j : ℕ) (rest : List ℕ) (new v : Value) → count_values (members (put_at (j ∷ rest) new v)) ≡ count_values (members v)
members_keep j rest new (group vs) = change_keeps_count j (λ x. put_at rest new x) vs
members_keep j rest new (chosen t vs) = refl
members_keep j rest new (natural n) = refl
members_keep j rest new (integer n) = refl
members_keep j rest new (boolean b) = refl
members_keep j rest new (string bs) = refl
members_keep j rest new (counted t v) = refl
members_keep j rest new (back t) = refl

total_again : (t : Bool) (a b v : Value) → cond t (Some a) None ≡ Some v → (cond t (Some b) None ≡ Some b) × (◌≡◌ {A = Option Value} (Some a) (Some v))
total_again true a b v e = (refl, e)
total_again false a b v e = absurd (cc)

-- only a group has a place for its items
child_is_group : (i : ℕ) (cs es : Values) (k : ℕ) (u : Value) → child_place i cs es ≡ Some k → value_in i cs ≡ Some u → (items : Values) × (u ≡ group items)
child_is_group i no_values es k u a b = absurd (cc)
child_is_group zero (more_values (group items) cs) es k u a b = (items, sym (some_is b))
child_is_group zero (more_values (natural x) cs) es k u a b = absurd (cc)
child_is_group zero (more_values (integer x) cs) es k u a b = absurd (cc)
child_is_group zero (more_values (boolean x) cs) es k u a b = absurd (cc)
child_is_group zero (more_values (string x) cs) es k u a b = absurd (cc)
child_is_group zero (more_values (chosen t x) cs) es k u a b = absurd (cc)
child_is_group zero (more_values (counted t x) cs) es k u a b = absurd (cc)
child_is_group zero (more_values (back t) cs) es k u a b = absurd (cc)
child_is_group (suc i) (more_values c cs) no_values k u a b = absurd (cc)
child_is_group (suc i) (more_values c cs) (more_values e es) k u a b =
    let before = beyond_is (count_values (members c) + 1) k (child_place i cs es) a in
    child_is_group i cs es before.0 u before.1 b

woven_put : (n : ℕ) (vs : Values) (i : ℕ) (inner path : List ℕ) (new u w : Value)
    → value_in i vs ≡ Some u → value_at inner u ≡ Some w → through (woven n) vs i inner ≡ Some path
    → IsPut (woven n) vs i inner path (group (weave (first_values n vs) (other_values n vs))) new w
unfolding made
woven_put n vs i inner path new u w b c p = by_test (nat_lt i n) refl
  where
    cs : Values
    cs = first_values n vs

    es : Values
    es = other_values n vs

    of_child : i < n → (o : Option ℕ) → child_place i cs es ≡ o → (q : List ℕ) → value_at q u ≡ Some w → in_child o q ≡ Some path → IsPut (woven n) vs i q path (group (weave cs es)) new w
    of_child low None a q d p = absurd (cc)
    of_child low (Some k) a [] d p = absurd (cc)
    of_child low (Some k) a (j ∷ rest) d p =
        let f = λ (x : Value). put_at (j ∷ rest) new x in
        let here : value_in i cs ≡ Some u = value_below n i vs low ∙ b in
        let is = child_is_group i cs es k u a here in
        moved (woven n) vs i (j ∷ rest) path ((k + j) ∷ rest) (group (weave cs es)) (group (weave cs es)) new w refl p
        (ap₂ (λ x y. Some (group (weave x y))) (first_below n i f vs low) (other_below n i f vs low)
        ∙ ap (λ x. Some (group x)) (child_put new w i cs es k j rest u a here d))
        (child_value i cs es k j u (λ x. value_at rest x) w a here
        (ap (λ x. and_then (value_in j (members x)) (λ y. value_at rest y)) is.1 ∙ ap (value_at (j ∷ rest)) (sym is.1) ∙ d))

    of_entry : n ≤ i → (o : Option ℕ) → entry_place (i - n) cs es ≡ o → in_entry o inner ≡ Some path → IsPut (woven n) vs i inner path (group (weave cs es)) new w
    of_entry high None a p = absurd (cc)
    of_entry high (Some k) a p =
        let f = λ (x : Value). put_at inner new x in
        let at : n + (i - n) ≡ i = omega arith in
        let here : value_in (i - n) es ≡ Some u = value_above n (i - n) vs ∙ ap (λ m. value_in m vs) at ∙ b in
        moved (woven n) vs i inner path (k ∷ inner) (group (weave cs es)) (group (weave cs es)) new w refl p
        (ap₂ (λ x y. Some (group (weave x y))) (first_above n i f vs high) (ap (λ m. other_values n (change_in m f vs)) (sym at) ∙ other_above n (i - n) f vs)
        ∙ ap (λ x. Some (group x)) (entry_put f (i - n) cs es k a))
        (ap (λ o. and_then o (λ x. value_at inner x)) (entry_value (i - n) cs es k u a here) ∙ c)

    by_test : (t : Bool) → nat_lt i n ≡ t → IsPut (woven n) vs i inner path (group (weave cs es)) new w
    by_test true t =
        of_child (ltb-true i n t) (child_place i cs es) refl inner c
        (ap (λ x. cond x (in_child (child_place i cs es) inner) (in_entry (entry_place (i - n) cs es) inner)) (sym t) ∙ p)
    by_test false t =
        of_entry (ltb-false i n t) (entry_place (i - n) cs es) refl
        (ap (λ x. cond x (in_child (child_place i cs es) inner) (in_entry (entry_place (i - n) cs es) inner)) (sym t) ∙ p)

pub put_label : (l : Label) (vs : Values) (i : ℕ) (inner path : List ℕ) (v new u w : Value)
    → made l vs ≡ Some v → value_in i vs ≡ Some u → value_at inner u ≡ Some w → through l vs i inner ≡ Some path
    → IsPut l vs i inner path v new w
unfolding made
put_label (leaf x) vs i inner path v new u w e b c p = absurd (cc)
put_label (written x) vs i inner path v new u w e b c p = absurd (cc)
put_label same no_values i inner path v new u w e b c p = absurd (cc)
put_label same (more_values a no_values) zero inner path v new u w e b c p =
    moved same (more_values a no_values) zero inner path inner v a new w e p refl (ap (value_at inner) (some_is b) ∙ c)
put_label same (more_values a no_values) (suc i) inner path v new u w e b c p = absurd (cc)
put_label same (more_values a (more_values d vs)) i inner path v new u w e b c p = absurd (cc)
put_label second no_values i inner path v new u w e b c p = absurd (cc)
put_label second (more_values a no_values) i inner path v new u w e b c p = absurd (cc)
put_label second (more_values a (more_values d no_values)) zero inner path v new u w e b c p = absurd (cc)
put_label second (more_values a (more_values d no_values)) (suc zero) inner path v new u w e b c p =
    moved second (more_values a (more_values d no_values)) 1 inner path inner v d new w e p refl (ap (value_at inner) (some_is b) ∙ c)
put_label second (more_values a (more_values d no_values)) (suc (suc i)) inner path v new u w e b c p = absurd (cc)
put_label second (more_values a (more_values d (more_values g vs))) i inner path v new u w e b c p = absurd (cc)
put_label whole vs i inner path v new u w e b c p =
    moved whole vs i inner path (i ∷ inner) v (group vs) new w e p refl (group_put i inner vs u w b c)
put_label (tagged t) vs i inner path v new u w e b c p =
    moved (tagged t) vs i inner path (i ∷ inner) v (chosen t vs) new w e p refl (group_put i inner vs u w b c)
put_label (woven n) vs i inner path v new u w e b c p =
    subst (λ x. IsPut (woven n) vs i inner path x new w) (some_is e) (woven_put n vs i inner path new u w b c p)
put_label (total n) no_values i inner path v new u w e b c p = absurd (cc)
put_label (total n) (more_values a no_values) zero [] path v new u w e b c p = absurd (cc)
put_label (total n) (more_values a no_values) zero (j ∷ rest) path v new u w e b c p =
    let again = total_again (count_values (members a) == n) a (put_at (j ∷ rest) new a) v e in
    moved (total n) (more_values a no_values) zero (j ∷ rest) path (j ∷ rest) v a new w again.1 p
    (ap (λ k. cond (k == n) (Some (put_at (j ∷ rest) new a)) None) (members_keep j rest new a) ∙ again.0)
    (ap (value_at (j ∷ rest)) (some_is b) ∙ c)
put_label (total n) (more_values a no_values) (suc i) inner path v new u w e b c p = absurd (cc)
put_label (total n) (more_values a (more_values d vs)) i inner path v new u w e b c p = absurd (cc)
