-- A look-up in a table gives the first place in the reach of its hash that has the hash's tag and is accepted.
use Rattle.std.proofs.Common.{◌≡◌, ℕ, zero, suc, ◌+◌, ◌-◌, ◌*◌, ◌%◌, ◌<◌, ◌≤◌, ◌==◌, ◌&&◌, Bool, true, false, cond, List, [], ◌∷◌, ◌++◌, length, map, filter, nat_lt, slice_index, Option, Some, None, refl, sym, ap, subst, ◌∙◌, arith, eqb-true, eq-eqb, lt-ltb}
use Rattle.std.specs.List.{All, find, flat_map, range_with_len}
use Rattle.std.proofs.lemmas.List.Elements.{All-nil, All-cons, All-head, All-tail}
use Rattle.archive_shape_canonical.specs.Strides.{sixteens, strides, places_shown}
use Rattle.archive_shape_canonical.specs.Reach.{searched, reach}
use Rattle.archive_hash_probing.specs.Search.{IsRefused, IsAnswer}
use Rattle.archive_hash_probing.proofs.Findable.{same_control, All-searched, All-middle, strides_within, found_place}
use Rattle.archive_hash_probing.proofs.Wrapping.{Wraps}

-- ---- the first of a list that passes a test

module _ (test : ℕ → Bool) where
  abbrev Fails : ℕ → Type 0
  Fails p = test p ≡ false

  found_here : (x : ℕ) (xs : List ℕ) → test x ≡ true → find test (x ∷ xs) ≡ Some x
  found_here x xs t = ap (λ b. cond b (Some x) (find test xs)) t

  found_later : (x : ℕ) (xs : List ℕ) → test x ≡ false → find test (x ∷ xs) ≡ find test xs
  found_later x xs t = ap (λ b. cond b (Some x) (find test xs)) t

  found_past : (xs ys : List ℕ) → All Fails xs → find test (xs ++ ys) ≡ find test ys
  found_past [] ys h = refl
  found_past (x ∷ xs) ys h = found_later x (xs ++ ys) (All-head Fails x xs h) ∙ found_past xs ys (All-tail Fails x xs h)

  found_front : (xs ys : List ℕ) (p : ℕ) → find test xs ≡ Some p → find test (xs ++ ys) ≡ Some p
  found_front [] ys p e = absurd (cc)
  found_front (x ∷ xs) ys p e = by (test x) e (found_front xs ys p)
    where
      by : (b : Bool) → cond b (Some x) (find test xs) ≡ Some p → (find test xs ≡ Some p → find test (xs ++ ys) ≡ Some p) → cond b (Some x) (find test (xs ++ ys)) ≡ Some p
      by true e later = e
      by false e later = later e

  found_none : (xs : List ℕ) → All Fails xs → find test xs ≡ None
  found_none [] h = refl
  found_none (x ∷ xs) h = found_later x xs (All-head Fails x xs h) ∙ found_none xs (All-tail Fails x xs h)

  -- ---- the places of controls in a row

  module _ (cap : ℕ) where
    abbrev places : ℕ → ℕ → List ℕ
    places i n = map (λ c. c % cap) (filter (λ c. nat_lt c (2 * cap)) (range_with_len i n))

    abbrev FailBetween : ℕ → ℕ → Type 0
    FailBetween i j = (c : ℕ) → i ≤ c → c < j → c < 2 * cap → Fails (c % cap)

    first_place : (i n : ℕ) (b : Bool) → nat_lt i (2 * cap) ≡ b → places i (suc n) ≡ cond b ((i % cap) ∷ places (i + 1) n) (places (i + 1) n)
    first_place i n true e = ap (λ b. map (λ c. c % cap) (cond b (i ∷ filter (λ c. nat_lt c (2 * cap)) (range_with_len (i + 1) n)) (filter (λ c. nat_lt c (2 * cap)) (range_with_len (i + 1) n)))) e
    first_place i n false e = ap (λ b. map (λ c. c % cap) (cond b (i ∷ filter (λ c. nat_lt c (2 * cap)) (range_with_len (i + 1) n)) (filter (λ c. nat_lt c (2 * cap)) (range_with_len (i + 1) n)))) e

    below_twice : (i : ℕ) (b : Bool) → nat_lt i (2 * cap) ≡ b → b ≡ true → i < 2 * cap
    below_twice i b e t = let u : nat_lt i (2 * cap) ≡ true = e ∙ t in grind (arith, u)

    all_fail : (n i : ℕ) → FailBetween i (i + n) → All Fails (places i n)
    all_fail zero i h = All-nil Fails
    all_fail (suc n) i h = by (nat_lt i (2 * cap)) refl (all_fail n (i + 1) (λ c low high below. h c (omega (arith, low)) (omega (arith, high)) below))
      where
        by : (b : Bool) → nat_lt i (2 * cap) ≡ b → All Fails (places (i + 1) n) → All Fails (places i (suc n))
        by true e rest = subst (All Fails) (sym (first_place i n true e)) (All-cons Fails (i % cap) (places (i + 1) n) (h i (omega arith) (omega arith) (below_twice i true e refl)) rest)
        by false e rest = subst (All Fails) (sym (first_place i n false e)) rest

    one_passes : (n i c : ℕ) → i ≤ c → c < i + n → c < 2 * cap → FailBetween i c → test (c % cap) ≡ true → find test (places i n) ≡ Some (c % cap)
    one_passes zero i c low high below h t = absurd (omega (arith, low, high))
    one_passes (suc n) i c low high below h t =
        by (i == c) refl (λ less. one_passes n (i + 1) c (omega (arith, less)) (omega (arith, high)) below (λ d from to. h d (omega (arith, from)) to) t)
      where
        by : (b : Bool) → (i == c) ≡ b → (i < c → find test (places (i + 1) n) ≡ Some (c % cap)) → find test (places i (suc n)) ≡ Some (c % cap)
        by true e later =
            let same : i ≡ c = eqb-true i c e in
            let here : nat_lt i (2 * cap) ≡ true = lt-ltb i (2 * cap) (omega (arith, same, below)) in
            ap (find test) (first_place i n true here) ∙ (found_here (i % cap) (places (i + 1) n) (ap (λ x. test (x % cap)) same ∙ t) ∙ ap (λ x. Some (x % cap)) same)
        by false e later =
            let apart : i ≡ c → ⊥ = λ s. (let u = eq-eqb i c s in let v : true ≡ false = sym u ∙ e in cc) in
            let less : i < c = omega (arith, apart, low) in
            let here : nat_lt i (2 * cap) ≡ true = lt-ltb i (2 * cap) (omega (arith, less, below)) in
            ap (find test) (first_place i n true here)
            ∙ (found_later (i % cap) (places (i + 1) n) (h i (omega arith) less (omega (arith, less, below)))
            ∙ later less)

-- ---- strides

module _ (A R : ℕ → Type 0) (has : ℕ → Bool) (cs : List ℕ) (hash cap tag : ℕ) (some : 0 < cap) (w : Wraps cs cap) (long : length cs ≡ 16 * sixteens cap + 15) (is_tag : tag < 128)
    (accepted : (p : ℕ) → p < cap → slice_index cs p < 128 → A p → has p ≡ true)
    (refused : (p : ℕ) → p < cap → slice_index cs p < 128 → R p → has p ≡ false)
  where
    abbrev passes : ℕ → Bool
    passes p = (slice_index cs p == tag) && has p

    abbrev HasRoom : ℕ → Type 0
    HasRoom p = p + 16 ≤ length cs

    low_place : (c : ℕ) → c % cap < cap
    low_place c = omega (arith, some)

    fails_by : (b d : Bool) → (b ≡ true → d ≡ false) → (b && d) ≡ false
    fails_by true d h = h refl
    fails_by false d h = refl

    -- a place of a lane that was refused
    refused_place : (p c : ℕ) → HasRoom p → p ≤ c → c < p + 16 → c < 2 * cap → (slice_index cs c ≡ tag → R (c % cap)) → Fails passes (c % cap)
    refused_place p c room low high below h =
        let control : slice_index cs c ≡ slice_index cs (c % cap) = same_control cs cap c (c % cap) w (omega (arith, high, room)) below refl in
        fails_by (slice_index cs (c % cap) == tag) (has (c % cap))
        (λ e.
        let is : slice_index cs (c % cap) ≡ tag = eqb-true (slice_index cs (c % cap)) tag e in
        refused (c % cap) (low_place c) (omega (arith, is, is_tag)) (h (control ∙ is)))

    lane_of : (p c : ℕ) → p ≤ c → c < p + 16 → (k : ℕ) × (k < 16) × (p + k ≡ c)
    lane_of p c low high = (c - p, omega (arith, low, high), omega (arith, low))

    refused_stride : (p : ℕ) → HasRoom p → IsRefused A R cs cap tag p → All (Fails passes) (places_shown cap p)
    refused_stride p room h =
        all_fail passes cap 16 p
        (λ c low high below.
        let k = lane_of p c low high in
        refused_place p c room low high below (λ e. subst (λ x. R (x % cap)) k.2 (h k.0 k.1 (ap (slice_index cs) k.2 ∙ e))))

    refused_strides : (prior rest : List ℕ) → All HasRoom (prior ++ rest) → All (IsRefused A R cs cap tag) prior → find passes (flat_map (places_shown cap) (prior ++ rest)) ≡ find passes (flat_map (places_shown cap) rest)
    refused_strides [] rest room h = refl
    refused_strides (p ∷ prior) rest room h =
        found_past passes (places_shown cap p) (flat_map (places_shown cap) (prior ++ rest)) (refused_stride p (All-head HasRoom p (prior ++ rest) room) (All-head (IsRefused A R cs cap tag) p prior h))
        ∙ refused_strides prior rest (All-tail HasRoom p (prior ++ rest) room) (All-tail (IsRefused A R cs cap tag) p prior h)

    none_refused : (ps : List ℕ) → All HasRoom ps → All (IsRefused A R cs cap tag) ps → find passes (flat_map (places_shown cap) ps) ≡ None
    none_refused [] room h = refl
    none_refused (p ∷ ps) room h =
        found_past passes (places_shown cap p) (flat_map (places_shown cap) ps) (refused_stride p (All-head HasRoom p ps room) (All-head (IsRefused A R cs cap tag) p ps h))
        ∙ none_refused ps (All-tail HasRoom p ps room) (All-tail (IsRefused A R cs cap tag) p ps h)

    all_room : All HasRoom (searched cs (strides hash cap))
    all_room = All-searched HasRoom cs (strides hash cap) (strides_within cs hash cap long)

    -- the place that is found is the first that passes
    pub found_first : (o : Option ℕ) (n : ℕ) → IsAnswer A R cs cap tag (searched cs (strides hash cap)) o n → o ≡ find passes (reach cs hash cap)
    unfolding reach
    found_first None n a = sym (none_refused (searched cs (strides hash cap)) all_room a.1)
    found_first (Some place) n a =
        let f = found_place A R cs hash cap tag place n some w long a in
        let s = a.found in
        let rooms : All HasRoom (a.prior ++ a.stride ∷ a.later) = subst (All HasRoom) a.strides_are all_room in
        let room : HasRoom a.stride = All-middle HasRoom a.prior a.later a.stride rooms in
        let c : ℕ = a.stride + s.lane in
        let is_place : c % cap ≡ place = sym s.place_is in
        let tagged : slice_index cs place ≡ tag = sym f.control ∙ s.tagged in
        let taken : has place ≡ true = accepted place f.low f.full s.taken in
        let pass : passes place ≡ true = ap (λ b. b && has place) (eq-eqb (slice_index cs place) tag tagged) ∙ taken in
        let here : find passes (places_shown cap a.stride) ≡ Some (c % cap) =
        one_passes passes cap 16 a.stride c (omega arith) (let x = s.within in omega (arith, x)) f.below
        (λ d low high below.
        let k = lane_of a.stride d low (let x = s.within in omega (arith, x, high)) in
        refused_place a.stride d room low (let x = s.within in omega (arith, x, high)) below
        (λ e. subst (λ x. R (x % cap)) k.2 (s.before k.0 (let m = k.2 in omega (arith, m, high)) (ap (slice_index cs) k.2 ∙ e))))
        (ap passes is_place ∙ pass)
        in
        sym
        (ap (λ ps. find passes (flat_map (places_shown cap) ps)) a.strides_are
        ∙ (refused_strides a.prior (a.stride ∷ a.later) rooms a.refused_before
        ∙ (found_front passes (places_shown cap a.stride) (flat_map (places_shown cap) a.later) (c % cap) here ∙ ap Some is_place)))
