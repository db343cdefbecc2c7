-- Keys by place, put in ascending order, are the keys that were passed, put in ascending order.
use Rattle.std.proofs.Common.{refl, ap, ap₂, sym, ◌∙◌, ◌≡◌, ◌<◌, arith, ℕ, Bool, true, false, cond, ◌||◌, ◌&&◌, ◌==◌, nat_lt, eqb-true, ltb-true, List, [], ◌∷◌, ◌⊎◌, inl, inr, ⊎_elim, ◌≤◌, ◌+◌, zero, suc, map, length, Option, Some, None, eq-eqb}
use Rattle.std.specs.Prelude.{⊤}
use Rattle.std.specs.List.{range_with_len, cons_option}
use Rattle.archive_shape_canonical.specs.FirstFit.{comes_before, put_in, ascending, item_at, placed, present}

split : (a b : Bool) → (a || b) ≡ true → (a ≡ true) ⊎ (b ≡ true)
split true b e = inl refl
split false b e = inr e

left : (a b : Bool) → (a && b) ≡ true → a ≡ true
left true b e = refl
left false b e = e

right : (a b : Bool) → (a && b) ≡ true → b ≡ true
right true b e = e
right false b e = absurd (cc)

later : (x y : ℕ) (xs ys : List ℕ) → comes_before (x ∷ xs) (y ∷ ys) ≡ true → (x < y) ⊎ ((x ≡ y) × (comes_before xs ys ≡ true))
later x y xs ys e = ⊎_elim (λ a. inl (ltb-true x y a)) (λ b. inr (eqb-true x y (left _ _ b), right (x == y) _ b)) (split (nat_lt x y) _ e)

lesser : (x y : ℕ) (xs ys : List ℕ) → x < y → comes_before (x ∷ xs) (y ∷ ys) ≡ true
lesser x y xs ys h = let e : nat_lt x y ≡ true = grind (arith) in ap (λ b. b || ((x == y) && comes_before xs ys)) e

equal : (x y : ℕ) (xs ys : List ℕ) → x ≡ y → comes_before (x ∷ xs) (y ∷ ys) ≡ comes_before xs ys
equal x y xs ys h =
    let e : nat_lt x y ≡ false = grind (arith) in
    let f : (x == y) ≡ true = grind (arith) in
    ap₂ (λ b c. b || (c && comes_before xs ys)) e f

greater : (x y : ℕ) (xs ys : List ℕ) → y < x → comes_before (x ∷ xs) (y ∷ ys) ≡ false
greater x y xs ys h =
    let e : nat_lt x y ≡ false = grind (arith) in
    let f : (x == y) ≡ false = grind (arith) in
    ap₂ (λ b c. b || (c && comes_before xs ys)) e f

before_trans : (k l m : List ℕ) → comes_before k l ≡ true → comes_before l m ≡ true → comes_before k m ≡ true
before_trans [] [] m e f = absurd (cc)
before_trans [] (y ∷ ys) [] e f = absurd (cc)
before_trans [] (y ∷ ys) (z ∷ zs) e f = refl
before_trans (x ∷ xs) [] m e f = absurd (cc)
before_trans (x ∷ xs) (y ∷ ys) [] e f = absurd (cc)
before_trans (x ∷ xs) (y ∷ ys) (z ∷ zs) e f =
    ⊎_elim
    (λ a. ⊎_elim (λ b. lesser x z xs zs (omega arith)) (λ b. let b0 = b.0 in lesser x z xs zs (omega arith)) (later y z ys zs f))
    (λ a. let a0 = a.0 in ⊎_elim (λ b. lesser x z xs zs (omega arith)) (λ b. let b0 = b.0 in equal x z xs zs (omega arith) ∙ before_trans xs ys zs a.1 b.1) (later y z ys zs f))
    (later x y xs ys e)

abbrev Order : List ℕ → List ℕ → Type 0
Order k l = ((comes_before k l ≡ true) × (comes_before l k ≡ false)) ⊎ ((k ≡ l) ⊎ ((comes_before l k ≡ true) × (comes_before k l ≡ false)))

order : (k l : List ℕ) → Order k l
order [] [] = inr (inl refl)
order [] (y ∷ ys) = inl (refl, refl)
order (x ∷ xs) [] = inr (inr (refl, refl))
order (x ∷ xs) (y ∷ ys) = tested (nat_lt x y) (nat_lt y x) refl refl (order xs ys)
  where
    tested : (a b : Bool) → nat_lt x y ≡ a → nat_lt y x ≡ b → Order xs ys → Order (x ∷ xs) (y ∷ ys)
    tested true b e f o = let h = ltb-true x y e in inl (lesser x y xs ys h, greater y x ys xs h)
    tested false true e f o = let h = ltb-true y x f in inr (inr (lesser y x ys xs h, greater x y xs ys h))
    tested false false e f o =
        let same : x ≡ y = grind (arith) in
        let a = equal x y xs ys same in
        let b = equal y x ys xs (sym same) in
        ⊎_elim (λ d. inl (a ∙ d.0, b ∙ d.1)) (λ d. inr (⊎_elim (λ g. inl (ap₂ (λ m n. m ∷ n) same g)) (λ g. inr (b ∙ g.0, a ∙ g.1)) d)) o

put_first : (k s : List ℕ) (ss : List (List ℕ)) → comes_before k s ≡ true → put_in k (s ∷ ss) ≡ k ∷ (s ∷ ss)
put_first k s ss e = ap (λ b. cond b (k ∷ (s ∷ ss)) (s ∷ put_in k ss)) e

put_later : (k s : List ℕ) (ss : List (List ℕ)) → comes_before k s ≡ false → put_in k (s ∷ ss) ≡ s ∷ put_in k ss
put_later k s ss e = ap (λ b. cond b (k ∷ (s ∷ ss)) (s ∷ put_in k ss)) e

-- the lesser of two keys
put_two : (k l : List ℕ) (ss : List (List ℕ)) → comes_before k l ≡ true → comes_before l k ≡ false → put_in k (put_in l ss) ≡ put_in l (put_in k ss)
put_two k l [] e f = put_first k l [] e ∙ sym (put_later l k [] f)
put_two k l (s ∷ ss) e f = tested (comes_before l s) (comes_before k s) refl refl (put_two k l ss e f)
  where
    tested : (a b : Bool) → comes_before l s ≡ a → comes_before k s ≡ b → put_in k (put_in l ss) ≡ put_in l (put_in k ss) → put_in k (put_in l (s ∷ ss)) ≡ put_in l (put_in k (s ∷ ss))
    tested true b g h i =
        let low = before_trans k l s e g in
        ap (put_in k) (put_first l s ss g) ∙ put_first k l (s ∷ ss) e ∙ ap (λ r. k ∷ r) (sym (put_first l s ss g)) ∙ sym (put_later l k (s ∷ ss) f) ∙ ap (put_in l) (sym (put_first k s ss low))
    tested false true g h i =
        ap (put_in k) (put_later l s ss g) ∙ put_first k s (put_in l ss) h ∙ ap (λ r. k ∷ r) (sym (put_later l s ss g)) ∙ sym (put_later l k (s ∷ ss) f) ∙ ap (put_in l) (sym (put_first k s ss h))
    tested false false g h i =
        ap (put_in k) (put_later l s ss g) ∙ put_later k s (put_in l ss) h ∙ ap (λ r. s ∷ r) i ∙ sym (put_later l s (put_in k ss) g) ∙ ap (put_in l) (sym (put_later k s ss h))

put_commutes : (k l : List ℕ) (ss : List (List ℕ)) → put_in k (put_in l ss) ≡ put_in l (put_in k ss)
put_commutes k l ss =
    ⊎_elim (λ a. put_two k l ss a.0 a.1) (λ o. ⊎_elim (λ same. ap₂ (λ m n. put_in m (put_in n ss)) same (sym same)) (λ b. sym (put_two l k ss b.0 b.1)) o) (order k l)

-- ---- places below a capacity, and no place twice

abbrev pub IsNew : ℕ → List ℕ → Type 0
IsNew q [] = ⊤
IsNew q (r ∷ qs) = (r ≡ q → ⊥) × IsNew q qs

abbrev pub ArePlaces : ℕ → List ℕ → Type 0
ArePlaces cap [] = ⊤
ArePlaces cap (q ∷ qs) = (q < cap) × IsNew q qs × ArePlaces cap qs

not_equal : (a b : ℕ) → (a ≡ b → ⊥) → (a == b) ≡ false
not_equal a b h = tested (a == b) refl
  where
    tested : (c : Bool) → (a == b) ≡ c → (a == b) ≡ false
    tested true e = absurd (h (eqb-true a b e))
    tested false e = e

none_new : (ks : List (List ℕ)) (qs : List ℕ) (q : ℕ) → IsNew q qs → item_at ks qs q ≡ None
none_new [] qs q h = refl
none_new (k ∷ ks) [] q h = refl
none_new (k ∷ ks) (r ∷ qs) q h = ap (λ b. cond b (Some k) (item_at ks qs q)) (not_equal r q h.0) ∙ none_new ks qs q h.1

-- from place i on, n of them
abbrev shown : List (List ℕ) → List ℕ → ℕ → ℕ → List (List ℕ)
shown ks qs i n = present (map (item_at ks qs) (range_with_len i n))

module _ (k : List ℕ) (ks : List (List ℕ)) (q : ℕ) (qs : List ℕ) where
  other : (i : ℕ) → (q ≡ i → ⊥) → item_at (k ∷ ks) (q ∷ qs) i ≡ item_at ks qs i
  other i h = ap (λ b. cond b (Some k) (item_at ks qs i)) (not_equal q i h)

  here : item_at (k ∷ ks) (q ∷ qs) q ≡ Some k
  here = ap (λ b. cond b (Some k) (item_at ks qs q)) (eq-eqb q q refl)

  past : (n i : ℕ) → q < i → shown (k ∷ ks) (q ∷ qs) i n ≡ shown ks qs i n
  past zero i h = refl
  past (suc n) i h = ap₂ (λ o os. cons_option o os) (other i (λ e. omega (arith, e))) (past n (i + 1) (omega (arith, h)))

  one_more : (o : Option (List ℕ)) (xs ys : List (List ℕ)) → ascending xs ≡ put_in k (ascending ys) → ascending (cons_option o xs) ≡ put_in k (ascending (cons_option o ys))
  one_more None xs ys e = e
  one_more (Some x) xs ys e = ap (put_in x) e ∙ put_commutes x k (ascending ys)

  added : (n i : ℕ) → i ≤ q → q < i + n → IsNew q qs → ascending (shown (k ∷ ks) (q ∷ qs) i n) ≡ put_in k (ascending (shown ks qs i n))
  added zero i low high new = absurd (omega (arith, low, high))
  added (suc n) i low high new = tested (q == i) refl (λ up. added n (i + 1) up (omega (arith, high)) new)
    where
      differ_by : false ≡ true → ⊥
      differ_by z = cc

      above : (a b : ℕ) → b ≤ a → (a ≡ b → ⊥) → b + 1 ≤ a
      above a b l d = grind (arith, l, d)

      tested : (b : Bool) → (q == i) ≡ b → (i + 1 ≤ q → ascending (shown (k ∷ ks) (q ∷ qs) (i + 1) n) ≡ put_in k (ascending (shown ks qs (i + 1) n)))
          → ascending (shown (k ∷ ks) (q ∷ qs) i (suc n)) ≡ put_in k (ascending (shown ks qs i (suc n)))
      tested true e more =
          let same : q ≡ i = eqb-true q i e in
          let rest = past n (i + 1) (omega (arith, same)) in
          let first : item_at (k ∷ ks) (q ∷ qs) i ≡ Some k = ap (item_at (k ∷ ks) (q ∷ qs)) (sym same) ∙ here in
          let none : item_at ks qs i ≡ None = ap (item_at ks qs) (sym same) ∙ none_new ks qs q new in
          ap (λ o. ascending (cons_option o (shown (k ∷ ks) (q ∷ qs) (i + 1) n))) first
          ∙ (ap (λ xs. put_in k (ascending xs)) rest ∙ ap (λ o. put_in k (ascending (cons_option o (shown ks qs (i + 1) n)))) (sym none))
      tested false e more =
          let differ : q ≡ i → ⊥ = λ s. differ_by (sym e ∙ eq-eqb q i s) in
          ap (λ o. ascending (cons_option o (shown (k ∷ ks) (q ∷ qs) (i + 1) n))) (other i differ)
          ∙ one_more (item_at ks qs i) (shown (k ∷ ks) (q ∷ qs) (i + 1) n) (shown ks qs (i + 1) n) (more (above q i low differ))

nothing_shown : (qs : List ℕ) (n i : ℕ) → shown [] qs i n ≡ []
nothing_shown qs zero i = refl
nothing_shown qs (suc n) i = nothing_shown qs n (i + 1)

-- the keys by place, in ascending order, are those passed
pub keys_placed : (cap : ℕ) (ks : List (List ℕ)) (qs : List ℕ) → length qs ≡ length ks → ArePlaces cap qs → ascending (present (placed cap qs ks)) ≡ ascending ks
keys_placed cap [] qs even are = ap ascending (nothing_shown qs cap 0)
keys_placed cap (k ∷ ks) [] even are = absurd (let n = even in omega (arith, n))
keys_placed cap (k ∷ ks) (q ∷ qs) even are =
    let low = are.0 in
    added k ks q qs cap 0 (omega arith) (omega (arith, low)) are.1 ∙ ap (put_in k) (keys_placed cap ks qs (let n = even in omega (arith, n)) are.2)
