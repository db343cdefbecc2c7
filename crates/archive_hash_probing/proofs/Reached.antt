-- Every item of a written table is in the reach of its hash, under its own tag.
use Rattle.std.proofs.Common.{◌≡◌, ◌≢◌, ℕ, zero, suc, ◌+◌, ◌-◌, ◌*◌, ◌%◌, ◌<◌, ◌≤◌, Bool, true, false, cond, not, ◌||◌, List, [], ◌∷◌, ◌++◌, length, take, drop, get_or, eqb, refl, sym, ap, subst, ◌∙◌, arith, inl, inr, true≢false, append_assoc, Option, Some, None, eq-eqb, lt-ltb, map, ltb}
use Rattle.std.specs.List.{All, list_any, flat_map, find, filter, range_with_len}
use Rattle.std.proofs.lemmas.Bool.{cases_Bool, cases_lt}
use Rattle.std.proofs.lemmas.List.{take-append-drop}
use Rattle.std.proofs.Math.Seq.{length-take-le}
use Rattle.std.proofs.lemmas.List.Elements.{All-head, All-tail, All-from_get_or}
use Rattle.std.proofs.lemmas.List.Folds.{list_any-append, list_any_none}
use Rattle.std.proofs.lemmas.Simd.{get_or-chunk}
use Rattle.archive_shape_canonical.specs.Strides.{places_for, sixteens, least_power, stop, strides_from, strides, places_shown}
use Rattle.archive_shape_canonical.specs.FirstFit.{is_free, control_at, written_controls, hash_tag}
use Rattle.archive_hash_probing.proofs.Fit.{IsFirstFit}
use Rattle.archive_shape_canonical.specs.Reach.{is_empty, shown, searched, reach, Reaches}
use Rattle.archive_hash_probing.proofs.Wrapping.{Wraps}
use Rattle.archive_hash_probing.proofs.Coverage.{Among, among_left, among_right, shown_at, few_strides}
use Rattle.archive_hash_probing.proofs.Findable.{strides_below}
use Rattle.archive_hash_probing.proofs.FirstFits.{Tags, free_is_empty, written_low, written_wraps, length-written, found_is_free, low_among}
use Rattle.archive_hash_probing.proofs.FirstFree.{empty_at, below_twice, find_some}
use Rattle.archive_hash_probing.proofs.Powers.{least_power_is, sixteens_pos}
use Rattle.archive_hash_probing.proofs.StopLemmas.{stop_first}
use Rattle.archive_hash_probing.proofs.StrideLemmas.{length-window}

-- Only the last stride shows controls from twice the capacity on.
abbrev pub Tidy : (n cap : ℕ) → List ℕ → Type 0
Tidy n cap [] = Unit {0}
Tidy n cap (p ∷ ps) = (p + 16 ≤ n) × (2 * cap < p + 16 → ps ≡ []) × Tidy n cap ps

none_of : (e : ℕ → Bool) (xs : List ℕ) (q : ℕ) → find e xs ≡ None → Among q xs → e q ≡ false
none_of e xs q n a = elim (cases_Bool (e q)) [ inl t ↦ absurd (find_some e q xs a t n) | inr f ↦ f ]

found_among : (e : ℕ → Bool) (xs : List ℕ) (p : ℕ) → find e xs ≡ Some p → Among p xs
found_among e [] p h = differ h
  where
    differ : ◌≡◌ {A = Option ℕ} None (Some p) → Among p []
    differ s = cc
found_among e (x ∷ xs) p h = elim (cases_Bool (e x)) [
  | inl y ↦ ap (λ b. b_or b (list_any (eqb p) xs)) (eq-eqb p x (same (sym h ∙ ap (λ b. cond b (Some x) (find e xs)) y)))
  | inr n ↦ later (eqb p x) (list_any (eqb p) xs) (found_among e xs p (sym (ap (λ b. cond b (Some x) (find e xs)) n) ∙ h))
]
  where
    b_or : Bool → Bool → Bool
    b_or a b = a || b

    same : ◌≡◌ {A = Option ℕ} (Some p) (Some x) → p ≡ x
    same s = cc

    later : (a b : Bool) → b ≡ true → (a || b) ≡ true
    later true b l = refl
    later false b l = l

all_shown_full : (cs : List ℕ) (cap p : ℕ) → Wraps cs cap → p + 16 ≤ length cs → p + 16 ≤ 2 * cap → ((k : ℕ) → k < 16 → empty_at cs ((p + k) % cap) ≡ false) → list_any is_empty (shown cs p) ≡ false
all_shown_full cs cap p w room low full =
    list_any_none is_empty (shown cs p) (All-from_get_or (λ x. is_empty x ≡ false) (shown cs p) 0
    (λ i l.
    let in' : i < 16 = omega (arith, length-window cs p 16 room) in
    ap is_empty (get_or-chunk p 16 cs i 0 in') ∙ sym (below_twice cs cap (p + i) w (omega arith) (omega arith)) ∙ full i in'))

pub reaches_place : (cs : List ℕ) (cap : ℕ) (e : ℕ → Bool) (place : ℕ) (ps : List ℕ) → 0 < cap → Wraps cs cap → ((q : ℕ) → q < cap → e q ≡ false → empty_at cs q ≡ false) → Tidy (length cs) cap ps
    → find e (flat_map (places_shown cap) ps) ≡ Some place → Among place (flat_map (places_shown cap) (searched cs ps))
reaches_place cs cap e place [] some w full tidy h = found_among e [] place h
reaches_place cs cap e place (p ∷ ps) some w full tidy h = go (find e (places_shown cap p)) refl (reaches_place cs cap e place ps some w full tidy.2)
  where
    rest : List ℕ
    rest = flat_map (places_shown cap) (cond (list_any is_empty (shown cs p)) [] (searched cs ps))

    b_option : Option ℕ → Option ℕ → Option ℕ
    b_option None r = r
    b_option (Some x) r = Some x

    joined : (xs ys : List ℕ) → find e (xs ++ ys) ≡ b_option (find e xs) (find e ys)
    joined [] ys = refl
    joined (x ∷ xs) ys = step (e x) (joined xs ys)
      where
        step : (b : Bool) → find e (xs ++ ys) ≡ b_option (find e xs) (find e ys) → cond b (Some x) (find e (xs ++ ys)) ≡ b_option (cond b (Some x) (find e xs)) (find e ys)
        step true k = refl
        step false k = k

    go : (r : Option ℕ) → find e (places_shown cap p) ≡ r → (find e (flat_map (places_shown cap) ps) ≡ Some place → Among place (flat_map (places_shown cap) (searched cs ps))) → Among place (places_shown cap p ++ rest)
    go (Some x) f next =
        let here : ◌≡◌ {A = Option ℕ} (Some x) (Some place) = ap (λ r. b_option r (find e (flat_map (places_shown cap) ps))) (sym f) ∙ sym (joined (places_shown cap p) (flat_map (places_shown cap) ps)) ∙ h in
        among_left place (places_shown cap p) rest (found_among e (places_shown cap p) place (f ∙ here))
    go None f next =
        let later : find e (flat_map (places_shown cap) ps) ≡ Some place = ap (λ r. b_option r (find e (flat_map (places_shown cap) ps))) (sym f) ∙ sym (joined (places_shown cap p) (flat_map (places_shown cap) ps)) ∙ h in
        elim (cases_lt (2 * cap) (p + 16)) [
          | inl over ↦
              let last : find e (flat_map (places_shown cap) []) ≡ Some place = ap (λ qs. find e (flat_map (places_shown cap) qs)) (sym (tidy.1 over)) ∙ later in
              absurd (true≢false (sym (found_among e [] place last)))
          | inr low ↦
              let all : list_any is_empty (shown cs p) ≡ false =
              all_shown_full cs cap p w tidy.0 low (λ k l. full ((p + k) % cap) (omega arith) (none_of e (places_shown cap p) ((p + k) % cap) f (shown_at cap p (p + k) (omega arith) (omega arith) (omega arith)))) in
              among_right place (places_shown cap p) rest
              (subst (λ (b : Bool). Among place (flat_map (places_shown cap) (cond b [] (searched cs ps)))) (sym all) (next later))
        ]

-- ---- the strides are tidy

tidy_low : (n cap : ℕ) (ps : List ℕ) → 30 ≤ cap → 16 * sixteens cap + 15 ≡ n → All (λ p. p < 16 * sixteens cap) ps → Tidy n cap ps
tidy_low n cap [] many e h = tt
tidy_low n cap (p ∷ ps) many e h =
    let here : p < 16 * sixteens cap = All-head (λ q. q < 16 * sixteens cap) p ps h in
    (omega arith, λ over. absurd (omega arith), tidy_low n cap ps many e (All-tail (λ q. q < 16 * sixteens cap) p ps h))

tidy_one : (n cap : ℕ) (ps : List ℕ) → length ps ≤ 1 → 16 * sixteens cap + 15 ≡ n → All (λ p. p < 16 * sixteens cap) ps → Tidy n cap ps
tidy_one n cap [] few e h = tt
tidy_one n cap (p ∷ []) few e h = let here : p < 16 * sixteens cap = All-head (λ q. q < 16 * sixteens cap) p [] h in (omega arith, λ over. refl, tt)
tidy_one n cap (p ∷ q ∷ ps) few e h = absurd (omega arith)

first_stride : (hash cap : ℕ) → 0 < cap → (rest : List ℕ) × (strides hash cap ≡ hash % cap ∷ rest)
unfolding strides strides_from
first_stride hash cap some =
    let m : ℕ = least_power (sixteens cap) in
    let p = least_power_is (sixteens cap) (sixteens_pos cap some) in
    let pos : m ≡ suc (m - 1) = omega (arith, p.above, sixteens_pos cap some) in
    let first : stop hash cap 0 ≡ hash % cap = sym (stop_first hash cap some) in
    let low : stop hash cap 0 < 16 * sixteens cap = omega (arith, first) in
    let rest : List ℕ = filter (λ p. ltb p (16 * sixteens cap)) (map (stop hash cap) (range_with_len 1 (m - 1))) in (
      rest,
      ap (λ n. filter (λ p. ltb p (16 * sixteens cap)) (map (stop hash cap) (range_with_len 0 n))) pos
          ∙ ap (λ b. cond b (stop hash cap 0 ∷ rest) rest) (lt-ltb _ _ low) ∙ ap (λ x. x ∷ rest) first,
    )

pub tidy_strides : (hash cap n : ℕ) → 0 < cap → n ≡ 16 * sixteens cap + 15 → Tidy n cap (strides hash cap)
tidy_strides hash cap n some e = elim (cases_lt cap 30) [
  | inr many ↦ tidy_low n cap (strides hash cap) many (sym e) (strides_below hash cap)
  | inl few ↦ elim (cases_lt cap 17) [
    | inl less ↦ tidy_one n cap (strides hash cap) (omega (arith, few_strides hash cap some)) (sym e) (strides_below hash cap)
    | inr more ↦
        let q : ℕ = hash % cap in
        let f = first_stride hash cap some in
        let qs : List ℕ = f.0 in
        let is : strides hash cap ≡ q ∷ qs = f.1 in
        let below : q < cap = omega arith in
        let bounds : All (λ p. p < 16 * sixteens cap) (q ∷ qs) = subst (λ (ps : List ℕ). All (λ p. p < 16 * sixteens cap) ps) is (strides_below hash cap) in
        let short : length qs ≤ 1 = omega (arith, few_strides hash cap some, ap length is) in
        subst (λ (ps : List ℕ). Tidy n cap ps) (sym is) (omega arith, λ over. absurd (omega arith), tidy_one n cap qs short (sym e) (All-tail (λ p. p < 16 * sixteens cap) q qs bounds))
  ]
]

-- ---- the items

pub first_fit_at : (cap : ℕ) (taken hashes places : List ℕ) (j : ℕ) → IsFirstFit cap taken hashes places → j < length hashes → find (is_free (taken ++ take j places)) (places_for (get_or hashes j 0) cap) ≡ Some (get_or places j 0)
first_fit_at cap taken [] places j h l = absurd (omega arith)
first_fit_at cap taken (k ∷ ks) [] j h l = absurd h
first_fit_at cap taken (k ∷ ks) (p ∷ ps) zero h l = ap (λ ts. find (is_free ts) (places_for k cap)) (append_nil' taken) ∙ h.0
  where
    append_nil' : (xs : List ℕ) → xs ++ [] ≡ xs
    append_nil' [] = refl
    append_nil' (x ∷ xs) = ap (λ ys. x ∷ ys) (append_nil' xs)
first_fit_at cap taken (k ∷ ks) (p ∷ ps) (suc j) h l =
    ap (λ ts. find (is_free ts) (places_for (get_or ks j 0) cap)) (sym (append_assoc taken (p ∷ []) (take j ps))) ∙ first_fit_at cap (taken ++ p ∷ []) ks ps j h.1 (omega arith)

pub same_length : (cap : ℕ) (taken hashes places : List ℕ) → IsFirstFit cap taken hashes places → length hashes ≡ length places
same_length cap taken [] [] h = refl
same_length cap taken [] (p ∷ ps) h = absurd h
same_length cap taken (k ∷ ks) [] h = absurd h
same_length cap taken (k ∷ ks) (p ∷ ps) h = ap suc (same_length cap (taken ++ p ∷ []) ks ps h.1)

-- every item of a written table can be reached
pub written_reaches : (cap : ℕ) (hashes places : List ℕ) (j : ℕ) → 0 < cap → Tags hashes → IsFirstFit cap [] hashes places → j < length hashes
    → Reaches (written_controls cap hashes places) (get_or hashes j 0) cap (get_or places j 0)
unfolding reach places_for
written_reaches cap hashes places j some tags fit l =
    let cs : List ℕ = written_controls cap hashes places in
    let hash : ℕ = get_or hashes j 0 in
    let even = same_length cap [] hashes places fit in
    let long = length-written cap hashes places in
    reaches_place cs cap (is_free (take j places)) (get_or places j 0) (strides hash cap) some (written_wraps cap hashes places)
    (λ q b f. ap is_empty (written_low cap hashes places q b) ∙ free_is_empty hashes places q even tags ∙ taken_more q (taken_of (list_any (λ r. eqb r q) (take j places)) f))
    (tidy_strides hash cap (length cs) some long) (first_fit_at cap [] hashes places j fit l)
  where
    taken_of : (b : Bool) → not b ≡ false → b ≡ true
    taken_of true h = refl
    taken_of false h = absurd (true≢false h)

    b_or : Bool → Bool → Bool
    b_or a b = a || b

    taken_more : (q : ℕ) → list_any (λ r. eqb r q) (take j places) ≡ true → is_free places q ≡ false
    taken_more q h =
        ap (λ xs. not (list_any (λ r. eqb r q) xs)) (sym (take-append-drop j places)) ∙ ap not (list_any-append (λ r. eqb r q) (take j places) (drop j places))
        ∙ ap (λ b. not (b_or b (list_any (λ r. eqb r q) (drop j places)))) h

pub place_is_new : (cap : ℕ) (taken hashes places : List ℕ) (j : ℕ) → IsFirstFit cap taken hashes places → j < length hashes → is_free (taken ++ take j places) (get_or places j 0) ≡ true
place_is_new cap taken hashes places j fit l = found_is_free (is_free (taken ++ take j places)) (places_for (get_or hashes j 0) cap) (get_or places j 0) (first_fit_at cap taken hashes places j fit l)

-- its control is its hash's tag
pub control_own : (cap : ℕ) (taken hashes places : List ℕ) (j : ℕ) → IsFirstFit cap taken hashes places → j < length hashes → control_at hashes places (get_or places j 0) ≡ hash_tag (get_or hashes j 0)
control_own cap taken [] places j h l = absurd (omega arith)
control_own cap taken (k ∷ ks) [] j h l = absurd h
control_own cap taken (k ∷ ks) (p ∷ ps) zero h l = ap (λ b. cond b (hash_tag k) (control_at ks ps p)) (eq-eqb p p refl)
control_own cap taken (k ∷ ks) (p ∷ ps) (suc j) h l =
    let q : ℕ = get_or ps j 0 in
    let new : is_free (taken ++ p ∷ take j ps) q ≡ true = place_is_new cap taken (k ∷ ks) (p ∷ ps) (suc j) h l in
    let apart : eqb p q ≡ false = elim (cases_Bool (eqb p q)) [
      | inr n ↦ n
      | inl y ↦ absurd (true≢false (sym new ∙ ap not (list_any-append (λ r. eqb r q) taken (p ∷ take j ps)) ∙ ap not (any_right (list_any (λ r. eqb r q) taken) (eqb p q) (list_any (λ r. eqb r q) (take j ps)) y)))
    ] in
    ap (λ b. cond b (hash_tag k) (control_at ks ps q)) apart ∙ control_own cap (taken ++ p ∷ []) ks ps j h.1 (omega arith)
  where
    any_right : (a b c : Bool) → b ≡ true → (a || (b || c)) ≡ true
    any_right true b c e = refl
    any_right false b c e = ap (λ x. x || c) e

pub places_low : (cap : ℕ) (taken hashes places : List ℕ) (j : ℕ) → 0 < cap → IsFirstFit cap taken hashes places → j < length hashes → get_or places j 0 < cap
places_low cap taken hashes places j some fit l = low_among cap some (get_or hashes j 0) (get_or places j 0) (found_among (is_free (taken ++ take j places)) (places_for (get_or hashes j 0) cap) (get_or places j 0) (first_fit_at cap taken hashes places j fit l))

pub written_tag : (cap : ℕ) (hashes places : List ℕ) (j : ℕ) → 0 < cap → IsFirstFit cap [] hashes places → j < length hashes → get_or (written_controls cap hashes places) (get_or places j 0) 0 ≡ hash_tag (get_or hashes j 0)
written_tag cap hashes places j some fit l = written_low cap hashes places (get_or places j 0) (places_low cap [] hashes places j some fit l) ∙ control_own cap [] hashes places j fit l

-- no two items have one place
pub places_apart : (cap : ℕ) (hashes places : List ℕ) (i j : ℕ) → IsFirstFit cap [] hashes places → i < j → j < length hashes → get_or places i 0 ≢ get_or places j 0
places_apart cap hashes places i j fit less l e =
    let q : ℕ = get_or places j 0 in
    let long : j ≤ length places = omega (arith, same_length cap [] hashes places fit) in
    absurd (true≢false (sym (place_is_new cap [] hashes places j fit l) ∙ ap not (any_at (take j places) i q (omega (arith, length-take-le j places long)) (get_or_take j i places less ∙ e))))
  where
    any_at : (xs : List ℕ) (k r : ℕ) → k < length xs → get_or xs k 0 ≡ r → list_any (λ x. eqb x r) xs ≡ true
    any_at [] k r l e = absurd (omega arith)
    any_at (x ∷ xs) zero r l e = ap (λ b. b || list_any (λ y. eqb y r) xs) (eq-eqb x r e)
    any_at (x ∷ xs) (suc k) r l e = later (eqb x r) (any_at xs k r (omega arith) e)
      where
        later : (b : Bool) → list_any (λ y. eqb y r) xs ≡ true → (b || list_any (λ y. eqb y r) xs) ≡ true
        later true h = refl
        later false h = h

    get_or_take : (n k : ℕ) (xs : List ℕ) → k < n → get_or (take n xs) k 0 ≡ get_or xs k 0
    get_or_take zero k xs l = absurd (omega arith)
    get_or_take (suc n) k [] l = refl
    get_or_take (suc n) zero (x ∷ xs) l = refl
    get_or_take (suc n) (suc k) (x ∷ xs) l = get_or_take n k xs (omega arith)
