-- The first empty place along strides.
use Rattle.std.proofs.Common.{◌≡◌, ℕ, zero, suc, ◌+◌, ◌*◌, ◌%◌, ◌<◌, ◌≤◌, Bool, true, false, cond, ◌||◌, List, [], ◌∷◌, ◌++◌, length, map, take, drop, get_or, ltb, eqb, refl, sym, ap, ◌∙◌, arith, inl, inr, true≢false, lt-ltb, le-ltb, le-leb, eqb-true, Option, Some, None, position}
use Rattle.std.specs.List.{range_with_len, filter, flat_map, find, list_any}
use Rattle.std.proofs.lemmas.Bool.{cases_lt, cases_Bool}
use Rattle.std.specs.Option.{is_some}
use Rattle.std.proofs.lemmas.List.{length-map}
use Rattle.std.proofs.lemmas.Simd.{get_or-chunk}
use Rattle.archive_shape_canonical.specs.Strides.{places_for, strides, places_shown}
use Rattle.archive_shape_canonical.specs.Reach.{is_empty, shown}
use Rattle.archive_hash_probing.proofs.Wrapping.{Wraps}
use Rattle.archive_hash_probing.proofs.Coverage.{Among, every_place}
use Rattle.archive_hash_probing.proofs.LaneLemmas.{lowest_at, none_at}
use Rattle.archive_hash_probing.proofs.MarkLemmas.{short}
use Rattle.archive_hash_probing.proofs.Lowest.{lowest_marked, below_unmarked}
use Rattle.archive_hash_probing.proofs.PlaceLemmas.{wrapped_low, wrapped_high}
use Rattle.archive_hash_probing.proofs.StrideLemmas.{length-window}

-- a place is empty
abbrev pub empty_at : List ℕ → ℕ → Bool
empty_at cs p = is_empty (get_or cs p 0)

pub below_twice : (cs : List ℕ) (cap c : ℕ) → Wraps cs cap → c < length cs → c < 2 * cap → empty_at cs (c % cap) ≡ empty_at cs c
below_twice cs cap c w l b = elim (cases_lt c cap) [
  | inl h ↦ ap (empty_at cs) (sym (wrapped_low c cap h))
  | inr h ↦ ap (empty_at cs) (sym (wrapped_high c cap h b)) ∙ ap is_empty (sym (w.repeated c h b l))
]

module _ (e : ℕ → Bool) (cap : ℕ) where
  abbrev places : ℕ → ℕ → List ℕ
  places p n = map (λ c. c % cap) (filter (λ c. ltb c (2 * cap)) (range_with_len p n))

  next_places : (p n : ℕ) → p < 2 * cap → places p (suc n) ≡ (p % cap) ∷ places (p + 1) n
  next_places p n l = ap (λ b. map (λ c. c % cap) (cond b (p ∷ filter (λ c. ltb c (2 * cap)) (range_with_len (p + 1) n)) (filter (λ c. ltb c (2 * cap)) (range_with_len (p + 1) n)))) (lt-ltb p (2 * cap) l)

  no_places : (p n : ℕ) → 2 * cap ≤ p → places p (suc n) ≡ places (p + 1) n
  no_places p n l = ap (λ b. map (λ c. c % cap) (cond b (p ∷ filter (λ c. ltb c (2 * cap)) (range_with_len (p + 1) n)) (filter (λ c. ltb c (2 * cap)) (range_with_len (p + 1) n)))) (le-ltb p (2 * cap) l)

  -- no empty place among those shown
  pub find_past : (p n : ℕ) (rest : List ℕ) → ((k : ℕ) → k < n → p + k < 2 * cap → e ((p + k) % cap) ≡ false) → find e (places p n ++ rest) ≡ find e rest
  find_past p zero rest h = refl
  find_past p (suc n) rest h = elim (cases_lt p (2 * cap)) [
    | inl l ↦
        let here : e (p % cap) ≡ false = ap (λ x. e (x % cap)) {x = p} (omega arith) ∙ h 0 (omega arith) (omega arith) in
        ap (λ ys. find e (ys ++ rest)) (next_places p n l) ∙ ap (λ b. cond b (Some (p % cap)) (find e (places (p + 1) n ++ rest))) here
        ∙ find_past (p + 1) n rest (λ k l' b. ap (λ x. e (x % cap)) {x = p + 1 + k} {y = p + suc k} (omega arith) ∙ h (suc k) (omega arith) (omega arith))
    | inr g ↦
        ap (λ ys. find e (ys ++ rest)) (no_places p n g)
        ∙ find_past (p + 1) n rest (λ k l' b. ap (λ x. e (x % cap)) {x = p + 1 + k} {y = p + suc k} (omega arith) ∙ h (suc k) (omega arith) (omega arith))
  ]

  -- the first empty place among those shown
  pub find_here : (p n lane : ℕ) (rest : List ℕ) → lane < n → p + lane < 2 * cap → e ((p + lane) % cap) ≡ true → ((k : ℕ) → k < lane → e ((p + k) % cap) ≡ false) → find e (places p n ++ rest) ≡ Some ((p + lane) % cap)
  find_here p zero lane rest l b t h = absurd (omega arith)
  find_here p (suc n) zero rest l b t h =
      let at : p + 0 ≡ p = omega arith in
      let low : p < 2 * cap = omega arith in
      ap (λ ys. find e (ys ++ rest)) (next_places p n low) ∙ ap (λ c. cond c (Some (p % cap)) (find e (places (p + 1) n ++ rest))) (ap (λ x. e (x % cap)) (sym at) ∙ t) ∙ ap (λ x. Some (x % cap)) (sym at)
  find_here p (suc n) (suc lane) rest l b t h =
      let low : p < 2 * cap = omega arith in
      let here : e (p % cap) ≡ false = ap (λ x. e (x % cap)) {x = p} (omega arith) ∙ h 0 (omega arith) in
      let same : p + 1 + lane ≡ p + suc lane = omega arith in
      ap (λ ys. find e (ys ++ rest)) (next_places p n low) ∙ ap (λ c. cond c (Some (p % cap)) (find e (places (p + 1) n ++ rest))) here
      ∙ find_here (p + 1) n lane rest (omega arith) (omega arith) (ap (λ x. e (x % cap)) same ∙ t) (λ k k'. ap (λ x. e (x % cap)) {x = p + 1 + k} {y = p + suc k} (omega arith) ∙ h (suc k) (omega arith))
      ∙ ap (λ x. Some (x % cap)) same

-- ---- marks of empty controls

mark_at : (cs : List ℕ) (p k : ℕ) → p + 16 ≤ length cs → k < 16 → get_or (map is_empty (take 16 (drop p cs))) k false ≡ empty_at cs (p + k)
mark_at cs p k room l = read (take 16 (drop p cs)) k (omega (arith, length-window cs p 16 room)) ∙ ap is_empty (get_or-chunk p 16 cs k 0 l)
  where
    read : (xs : List ℕ) (i : ℕ) → i < length xs → get_or (map is_empty xs) i false ≡ is_empty (get_or xs i 0)
    read [] i h = absurd (omega arith)
    read (x ∷ xs) zero h = refl
    read (x ∷ xs) (suc i) h = read xs i (omega arith)

module _ (cs : List ℕ) (cap p : ℕ) (w : Wraps cs cap) (room : p + 16 ≤ length cs) where
  abbrev marks : List Bool
  marks = map is_empty (shown cs p)

  pub long_marks : length marks ≤ 64
  long_marks = omega (arith, length-map (shown cs p) is_empty, length-window cs p 16 room)

  alone : (xs : List ℕ) → xs ++ [] ≡ xs
  alone [] = refl
  alone (x ∷ xs) = ap (λ ys. x ∷ ys) (alone xs)

  -- no lane is marked
  pub find_none : position (λ mark. mark) marks ≡ None → find (empty_at cs) (places_shown cap p) ≡ None
  find_none e =
      ap (find (empty_at cs)) (sym (alone (places_shown cap p)))
      ∙ find_past (empty_at cs) cap p 16 [] (λ k l b. below_twice cs cap (p + k) w (omega arith) b ∙ sym (mark_at cs p k room l) ∙ none_at marks e k)

  pub lane_low : (lane : ℕ) → Some lane ≡ position (λ mark. mark) marks → lane < 16
  lane_low lane e = let m = lowest_at marks lane e in omega (arith, m.1, short marks m.0, length-map (shown cs p) is_empty, length-window cs p 16 room)

  -- the lowest marked lane
  pub find_lane : (lane : ℕ) → Some lane ≡ position (λ mark. mark) marks → p + lane < 2 * cap → find (empty_at cs) (places_shown cap p) ≡ Some ((p + lane) % cap)
  find_lane lane e below =
      let m = lowest_at marks lane e in
      let in' : lane < 16 = lane_low lane e in
      ap (find (empty_at cs)) (sym (alone (places_shown cap p)))
      ∙ find_here (empty_at cs) cap p 16 lane [] in' below
      (below_twice cs cap (p + lane) w (omega arith) below ∙ sym (mark_at cs p lane room in') ∙ ap (λ k. get_or marks k false) m.1 ∙ lowest_marked marks m.0)
      (λ k l. below_twice cs cap (p + k) w (omega arith) (omega arith) ∙ sym (mark_at cs p k room (omega arith)) ∙ below_unmarked marks k (omega (arith, m.1)))

  -- it is after the places
  pub find_behind : (lane : ℕ) → Some lane ≡ position (λ mark. mark) marks → 2 * cap ≤ p + lane → find (empty_at cs) (places_shown cap p) ≡ None
  find_behind lane e behind =
      let m = lowest_at marks lane e in
      ap (find (empty_at cs)) (sym (alone (places_shown cap p)))
      ∙ find_past (empty_at cs) cap p 16 [] (λ k l b. below_twice cs cap (p + k) w (omega arith) b ∙ sym (mark_at cs p k room l) ∙ below_unmarked marks k (omega (arith, m.1)))

-- ---- stride by stride

find_joined : (e : ℕ → Bool) (xs ys : List ℕ) → find e xs ≡ None → find e (xs ++ ys) ≡ find e ys
find_joined e [] ys n = refl
find_joined e (x ∷ xs) ys n = elim (cases_Bool (e x)) [
  | inl t ↦ absurd (differ (sym (ap (λ b. cond b (Some x) (find e xs)) t) ∙ n))
  | inr f ↦ ap (λ b. cond b (Some x) (find e (xs ++ ys))) f ∙ find_joined e xs ys (sym (ap (λ b. cond b (Some x) (find e xs)) f) ∙ n)
]
  where
    differ : ◌≡◌ {A = Option ℕ} (Some x) None → ⊥
    differ s = cc

found_joined : (e : ℕ → Bool) (xs ys : List ℕ) (q : ℕ) → find e xs ≡ Some q → find e (xs ++ ys) ≡ Some q
found_joined e [] ys q n = differ n
  where
    differ : ◌≡◌ {A = Option ℕ} None (Some q) → find e ys ≡ Some q
    differ s = cc
found_joined e (x ∷ xs) ys q n = elim (cases_Bool (e x)) [
  | inl t ↦ ap (λ b. cond b (Some x) (find e (xs ++ ys))) t ∙ sym (ap (λ b. cond b (Some x) (find e xs)) t) ∙ n
  | inr f ↦ ap (λ b. cond b (Some x) (find e (xs ++ ys))) f ∙ found_joined e xs ys q (sym (ap (λ b. cond b (Some x) (find e xs)) f) ∙ n)
]

-- the search along the strides that are left is the whole search
abbrev pub Sought : (cs : List ℕ) (hash cap : ℕ) (left : List ℕ) → Type 0
Sought cs hash cap left = find (empty_at cs) (flat_map (places_shown cap) left) ≡ find (empty_at cs) (places_for hash cap)

module _ (cs : List ℕ) (hash cap : ℕ) where
  pub sought_first : Sought cs hash cap (strides hash cap)
  unfolding places_for
  sought_first = refl

  pub sought_past : (p : ℕ) (left : List ℕ) → find (empty_at cs) (places_shown cap p) ≡ None → Sought cs hash cap (p ∷ left) → Sought cs hash cap left
  sought_past p left none s = sym (find_joined (empty_at cs) (places_shown cap p) (flat_map (places_shown cap) left) none) ∙ s

  sought_here : (p place : ℕ) (left : List ℕ) → find (empty_at cs) (places_shown cap p) ≡ Some place → Sought cs hash cap (p ∷ left) → Some place ≡ find (empty_at cs) (places_for hash cap)
  sought_here p place left found s = sym (found_joined (empty_at cs) (places_shown cap p) (flat_map (places_shown cap) left) place found) ∙ s

  -- by the result for the stride
  pub sought_missed : (p : ℕ) (left : List ℕ) (r : Option ℕ) → r ≡ find (empty_at cs) (places_shown cap p) → false ≡ is_some r → Sought cs hash cap (p ∷ left) → Sought cs hash cap left
  sought_missed p left None e n s = sought_past p left (sym e) s
  sought_missed p left (Some place) e n s = absurd (true≢false (sym n))

  pub sought_found : (p : ℕ) (left : List ℕ) (r : Option ℕ) → r ≡ find (empty_at cs) (places_shown cap p) → true ≡ is_some r → Sought cs hash cap (p ∷ left) → r ≡ find (empty_at cs) (places_for hash cap)
  sought_found p left None e n s = absurd (true≢false n)
  sought_found p left (Some place) e n s = sought_here p place left (sym e) s

-- where a place is empty, the search does not end without one
pub find_some : (e : ℕ → Bool) (q : ℕ) (xs : List ℕ) → Among q xs → e q ≡ true → find e xs ≡ None → ⊥
find_some e q [] a t n = true≢false (sym a)
find_some e q (x ∷ xs) a t n = elim (cases_Bool (e x)) [
  | inl y ↦ differ (sym (ap (λ b. cond b (Some x) (find e xs)) y) ∙ n)
  | inr z ↦ elim (cases_Bool (eqb q x)) [
    | inl s ↦ true≢false (sym t ∙ ap e (eqb-true q x s) ∙ z)
    | inr d ↦ find_some e q xs (sym (ap (λ b. b_or b (list_any (eqb q) xs)) d) ∙ a) t (sym (ap (λ b. cond b (Some x) (find e xs)) z) ∙ n)
  ]
]
  where
    b_or : Bool → Bool → Bool
    b_or a b = a || b

    differ : Some x ≡ None → ⊥
    differ s = cc

-- every place is shown, so none is empty where none is found
pub none_empty : (cs : List ℕ) (hash cap q : ℕ) → find (empty_at cs) (places_for hash cap) ≡ None → q < cap → get_or cs q 0 < 128
none_empty cs hash cap q none l = elim (cases_lt (get_or cs q 0) 128) [
  | inl full ↦ full
  | inr empty ↦ absurd (find_some (empty_at cs) q (places_for hash cap) (every_place hash cap q l) (le-leb 128 (get_or cs q 0) empty) none)
]
