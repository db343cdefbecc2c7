-- The strides of a hash show every place, and are at most one for sixteen places.
use Rattle.std.proofs.Common.{◌≡◌, ℕ, zero, suc, ◌+◌, ◌-◌, ◌*◌, ◌/◌, ◌%◌, ◌^◌, ◌<◌, ◌≤◌, Bool, true, false, cond, not, ◌||◌, List, [], ◌∷◌, ◌++◌, length, map, eqb, ltb, refl, sym, ap, subst, ◌∙◌, arith, inl, inr, true≢false, eq-eqb, eqb-true, lt-ltb, le-ltb, mod-eq_of_lt}
use Rattle.std.specs.List.{range_with_len, filter, flat_map, list_any}
use Rattle.std.proofs.lemmas.Bool.{cases_lt, cases_eq, cases_Bool}
use Rattle.std.proofs.lemmas.List.{length-map}
use Rattle.std.proofs.lemmas.List.Filters.{length-filter_both}
use Rattle.std.proofs.lemmas.List.FromFn.{length-map-range_with_len}
use Rattle.std.proofs.lemmas.List.Folds.{list_any-append}
use Rattle.std.proofs.lemmas.Map.Steps.{le-length_from_below}
use native.Mathlib.Nat.{mod-add-mod, add-mul-mod_self_right}
use lib.Arith.{mod-mul, digits_div, digits_mod}
use Rattle.archive_shape_canonical.specs.Strides.{places_for, sixteens, least_power, stop, strides_from, strides, places_shown}
use Rattle.archive_hash_probing.proofs.Powers.{least_power_is, sixteens_pos, sixteens_le}
use Rattle.archive_hash_probing.proofs.PlaceLemmas.{wrapped_low, wrapped_high}
use Rattle.archive_hash_probing.proofs.Triangles.{tri, twice_tri, reached}

-- q is one of them
abbrev pub Among : ℕ → List ℕ → Type 0
Among q xs = list_any (eqb q) xs ≡ true

or_left : (a b : Bool) → a ≡ true → (a || b) ≡ true
or_left a b e = ap (λ c. c || b) e

or_right : (a b : Bool) → b ≡ true → (a || b) ≡ true
or_right true b e = refl
or_right false b e = e

pub among_head : (q x : ℕ) (xs : List ℕ) → q ≡ x → Among q (x ∷ xs)
among_head q x xs e = or_left (eqb q x) (list_any (eqb q) xs) (eq-eqb q x e)

pub among_tail : (q x : ℕ) (xs : List ℕ) → Among q xs → Among q (x ∷ xs)
among_tail q x xs h = or_right (eqb q x) (list_any (eqb q) xs) h

pub among_range : (a n q : ℕ) → a ≤ q → q < a + n → Among q (range_with_len a n)
among_range a zero q l h = absurd (omega arith)
among_range a (suc n) q l h = elim (cases_eq q a) [
  | inl e ↦ among_head q a (range_with_len (a + 1) n) e
  | inr d ↦ among_tail q a (range_with_len (a + 1) n) (among_range (a + 1) n q (omega arith) (omega arith))
]

pub among_map : (f : ℕ → ℕ) (q : ℕ) (xs : List ℕ) → Among q xs → Among (f q) (map f xs)
among_map f q [] h = h
among_map f q (x ∷ xs) h = elim (cases_eq q x) [
  | inl e ↦ among_head (f q) (f x) (map f xs) (ap f e)
  | inr d ↦ among_tail (f q) (f x) (map f xs) (among_map f q xs (apart q x xs d h))
]
  where
    apart : (p y : ℕ) (ys : List ℕ) → (p ≡ y → ⊥) → Among p (y ∷ ys) → Among p ys
    apart p y ys d k = elim (cases_Bool (eqb p y)) [
      | inl e ↦ absurd (d (eqb-true p y e))
      | inr e ↦ sym (ap (λ b. b || list_any (eqb p) ys) e) ∙ k
    ]

pub among_filter : (p : ℕ → Bool) (q : ℕ) (xs : List ℕ) → p q ≡ true → Among q xs → Among q (filter p xs)
among_filter p q [] t h = h
among_filter p q (x ∷ xs) t h = elim (cases_eq q x) [
  | inl e ↦ subst (λ (ys : List ℕ). Among q ys) (sym (ap (λ b. cond b (x ∷ filter p xs) (filter p xs)) (sym (ap p e) ∙ t))) (among_head q x (filter p xs) e)
  | inr d ↦ kept (p x) (among_filter p q xs t (apart q x xs d h))
]
  where
    apart : (r y : ℕ) (ys : List ℕ) → (r ≡ y → ⊥) → Among r (y ∷ ys) → Among r ys
    apart r y ys d k = elim (cases_Bool (eqb r y)) [
      | inl e ↦ absurd (d (eqb-true r y e))
      | inr e ↦ sym (ap (λ b. b || list_any (eqb r) ys) e) ∙ k
    ]

    kept : (b : Bool) → Among q (filter p xs) → Among q (cond b (x ∷ filter p xs) (filter p xs))
    kept true k = among_tail q x (filter p xs) k
    kept false k = k

pub among_left : (q : ℕ) (xs ys : List ℕ) → Among q xs → Among q (xs ++ ys)
among_left q xs ys h = list_any-append (eqb q) xs ys ∙ or_left (list_any (eqb q) xs) (list_any (eqb q) ys) h

pub among_right : (q : ℕ) (xs ys : List ℕ) → Among q ys → Among q (xs ++ ys)
among_right q xs ys h = list_any-append (eqb q) xs ys ∙ or_right (list_any (eqb q) xs) (list_any (eqb q) ys) h

pub among_flat_map : (f : ℕ → List ℕ) (p q : ℕ) (ps : List ℕ) → Among p ps → Among q (f p) → Among q (flat_map f ps)
among_flat_map f p q [] h k = absurd (true≢false (sym h))
among_flat_map f p q (x ∷ xs) h k = elim (cases_Bool (eqb p x)) [
  | inl e ↦ among_left q (f x) (flat_map f xs) (subst (λ (y : ℕ). Among q (f y)) (eqb-true p x e) k)
  | inr e ↦ among_right q (f x) (flat_map f xs) (among_flat_map f p q xs (sym (ap (λ b. b || list_any (eqb p) xs) e) ∙ h) k)
]

-- ---- the stops

record IsStop (hash cap j : ℕ) : Type 0 where
  k : ℕ
  below : k < least_power (sixteens cap)
  is : stop hash cap k ≡ 16 * j + hash % cap % 16

stopped : (hash cap j : ℕ) → 0 < cap → j < least_power (sixteens cap) → IsStop hash cap j
unfolding stop
stopped hash cap j some l =
    let s : ℕ = hash % cap in
    let m : ℕ = least_power (sixteens cap) in
    let p = least_power_is (sixteens cap) (sixteens_pos cap some) in
    let first : s < cap = omega arith in
    let low : s / 16 < m = omega (arith, p.above, sixteens_le cap) in
    let pos : 0 < m = omega arith in
    let t : ℕ = (j + m - s / 16) % m in
    let below : t < 2 ^ p.exponent = omega (arith, p.power, mod_lt (j + m - s / 16) m pos) in
    let r = reached p.exponent t below in
    let rest : tri r.k % m ≡ t = ap (λ x. tri r.k % x) p.power ∙ r.rest in
    let turn : (s / 16 + tri r.k) % m ≡ j =
    ap (λ x. x % m) (swap (s / 16) (tri r.k)) ∙ sym (mod-add-mod (tri r.k) m (s / 16)) ∙ ap (λ x. (x + s / 16) % m) rest
    ∙ mod-add-mod (j + m - s / 16) m (s / 16) ∙ ap (λ x. x % m) (back j m (s / 16) low) ∙ add-mul-mod_self_right j 1 m ∙ mod-eq_of_lt l in
    let small : s % 16 < 16 = omega arith in
    let sixteen : 0 < 16 = omega arith in
    let parts : s + 8 * (r.k * (r.k + 1)) ≡ (s / 16 + tri r.k) * 16 + s % 16 = omega (arith, twice_tri r.k) in
    record {
      k = r.k;
      below = omega (arith, r.below, p.power);
      is =
          (λ i. parts i % turned m i) ∙ mod-mul ((s / 16 + tri r.k) * 16 + s % 16) pos sixteen
          ∙ (λ i. (digits_div (s / 16 + tri r.k) small i % m) * 16 + digits_mod (s / 16 + tri r.k) small i)
          ∙ ap (λ x. x * 16 + s % 16) turn ∙ omega arith;
    }
  where
    mod_lt : (x y : ℕ) → 0 < y → x % y < y
    mod_lt x y h = omega (arith, h)

    swap : (x y : ℕ) → x + y ≡ y + x
    swap x y = omega arith

    back : (x y z : ℕ) → z < y → x + y - z + z ≡ x + 1 * y
    back x y z h = omega arith

    turned : (x : ℕ) → 16 * x ≡ x * 16
    turned x = omega arith

among_stops : (hash cap j : ℕ) → 0 < cap → j < least_power (sixteens cap) → Among (16 * j + hash % cap % 16) (map (stop hash cap) (range_with_len 0 (least_power (sixteens cap))))
among_stops hash cap j some l =
    let s = stopped hash cap j some l in
    subst (λ (x : ℕ). Among x (map (stop hash cap) (range_with_len 0 (least_power (sixteens cap))))) s.is
    (among_map (stop hash cap) s.k (range_with_len 0 (least_power (sixteens cap))) (among_range 0 (least_power (sixteens cap)) s.k (omega arith) (omega (arith, s.below))))

pub among_strides : (hash cap j : ℕ) → 0 < cap → j < sixteens cap → Among (16 * j + hash % cap % 16) (strides hash cap)
unfolding strides strides_from
among_strides hash cap j some l =
    let p = least_power_is (sixteens cap) (sixteens_pos cap some) in
    among_filter (λ x. ltb x (16 * sixteens cap)) (16 * j + hash % cap % 16) (map (stop hash cap) (range_with_len 0 (least_power (sixteens cap))))
    (lt-ltb _ _ (omega arith)) (among_stops hash cap j some (omega (arith, p.above)))

pub shown_at : (cap p c : ℕ) → p ≤ c → c < p + 16 → c < 2 * cap → Among (c % cap) (places_shown cap p)
shown_at cap p c low high l =
    among_map (λ x. x % cap) c (filter (λ x. ltb x (2 * cap)) (range_with_len p 16)) (among_filter (λ x. ltb x (2 * cap)) c (range_with_len p 16) (lt-ltb _ _ l) (among_range p 16 c low high))

-- every place is shown
pub every_place : (hash cap q : ℕ) → q < cap → Among q (places_for hash cap)
unfolding places_for
every_place hash cap q l =
    let some : 0 < cap = omega arith in
    let s : ℕ = hash % cap % 16 in
    let low : s < 16 = omega arith in
    elim (cases_lt q s) [
      | inl before ↦
          let c : ℕ = q + cap in
          let j : ℕ = (c - s) / 16 in
          let under : j < sixteens cap = omega arith in
          let is : c % cap ≡ q = sym (wrapped_high c cap (omega arith) (omega arith)) ∙ omega arith in
          among_flat_map (places_shown cap) (16 * j + s) q (strides hash cap) (among_strides hash cap j some under)
          (subst (λ (x : ℕ). Among x (places_shown cap (16 * j + s))) is (shown_at cap (16 * j + s) c (omega arith) (omega arith) (omega arith)))
      | inr after ↦
          let j : ℕ = (q - s) / 16 in
          let under : j < sixteens cap = omega arith in
          among_flat_map (places_shown cap) (16 * j + s) q (strides hash cap) (among_strides hash cap j some under)
          (subst (λ (x : ℕ). Among x (places_shown cap (16 * j + s))) (sym (wrapped_low q cap l)) (shown_at cap (16 * j + s) q (omega arith) (omega arith) (omega arith)))
    ]

-- ---- how many strides there are

past_stop : (n : ℕ) → ℕ → ℕ
past_stop n x = x / 16 - n

among_past : (hash cap q : ℕ) → 0 < cap → q < least_power (sixteens cap) - sixteens cap
    → Among q (map (past_stop (sixteens cap)) (filter (λ x. not (ltb x (16 * sixteens cap))) (map (stop hash cap) (range_with_len 0 (least_power (sixteens cap))))))
unfolding past_stop
among_past hash cap q some l =
    let j : ℕ = q + sixteens cap in
    let x : ℕ = 16 * j + hash % cap % 16 in
    let is : past_stop (sixteens cap) x ≡ q = omega arith in
    let high : not (ltb x (16 * sixteens cap)) ≡ true = ap not (le-ltb x (16 * sixteens cap) (omega arith)) in
    subst (λ (y : ℕ). Among y (map (past_stop (sixteens cap)) (filter (λ x. not (ltb x (16 * sixteens cap))) (map (stop hash cap) (range_with_len 0 (least_power (sixteens cap))))))) is
    (among_map (past_stop (sixteens cap)) x _ (among_filter (λ y. not (ltb y (16 * sixteens cap))) x _ high (among_stops hash cap j some (omega arith))))

pub few_strides : (hash cap : ℕ) → 0 < cap → length (strides hash cap) ≤ sixteens cap
unfolding strides strides_from
few_strides hash cap some =
    let n : ℕ = sixteens cap in
    let m : ℕ = least_power n in
    let all : List ℕ = map (stop hash cap) (range_with_len 0 m) in
    let low : ℕ → Bool = λ x. ltb x (16 * n) in
    let rest : List ℕ = filter (λ x. not (low x)) all in
    let both = length-filter_both low (λ x. not (low x)) (λ x. refl) all in
    let most : m - n ≤ length (map (past_stop n) rest) = le-length_from_below (map (past_stop n) rest) (m - n) (λ q l. among_past hash cap q some l) in
    omega (arith, both, most, length-map rest (past_stop n), length-map-range_with_len (stop hash cap) 0 m)
