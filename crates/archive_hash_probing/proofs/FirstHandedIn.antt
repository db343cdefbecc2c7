-- A look-up in a written table returns the item that was passed first among those that are accepted.
use Rattle.std.proofs.Common.{◌≡◌, ℕ, zero, suc, ◌+◌, ◌*◌, ◌%◌, ◌<◌, ◌≤◌, Bool, true, false, cond, not, ◌||◌, ◌⊎◌, List, [], ◌∷◌, ◌++◌, length, map, take, drop, get_or, eqb, ltb, refl, sym, ap, subst, ◌∙◌, arith, inl, inr, true≢false, append_assoc, Option, Some, None, eqb-true, eq-eqb, lt-ltb}
use Rattle.std.specs.List.{All, list_any, flat_map, find, filter, range_with_len}
use Rattle.std.proofs.lemmas.Bool.{cases_Bool, cases_eq, cases_lt}
use Rattle.std.proofs.lemmas.List.Elements.{All-head, All-tail}
use Rattle.std.proofs.lemmas.Bool.{lt-leb}
use Rattle.std.proofs.lemmas.List.{take-append-drop, take-take}
use Rattle.std.proofs.lemmas.List.Folds.{list_any-append}
use Rattle.archive_shape_canonical.specs.Strides.{places_for, sixteens, strides, places_shown}
use Rattle.archive_shape_canonical.specs.FirstFit.{is_free, written_controls, hash_tag}
use Rattle.archive_hash_probing.proofs.Fit.{IsFirstFit}
use Rattle.archive_shape_canonical.specs.Reach.{is_empty, shown, searched, reach, Reaches}
use Rattle.archive_hash_probing.specs.Search.{IsAnswer, IsFoundIn, IsRefused}
use Rattle.archive_hash_probing.proofs.Wrapping.{Wraps}
use Rattle.archive_hash_probing.proofs.Coverage.{Among}
use Rattle.archive_hash_probing.proofs.Findable.{among_append, shown_of, same_control, only_is_found, found_place, All-searched, strides_within}
use Rattle.archive_hash_probing.proofs.FirstFits.{Tags, free_is_empty, written_low, written_wraps, length-written}
use Rattle.archive_hash_probing.proofs.Reached.{first_fit_at, same_length, place_is_new, written_reaches, written_tag}

-- a list cut before a place, where the items before it that have the tag were refused
pub record IsCut (R : ℕ → Type 0) (cs : List ℕ) (tag place : ℕ) (xs : List ℕ) : Type 0 where
  pub front : List ℕ
  pub back : List ℕ
  pub is : xs ≡ front ++ place ∷ back
  pub refused : (q : ℕ) → Among q front → get_or cs q 0 ≡ tag → R q

-- within a stride
cut_lane : (R : ℕ → Type 0) (cs : List ℕ) (cap tag p n lane : ℕ) → Wraps cs cap → p + n ≤ length cs → lane < n → p + lane < 2 * cap
    → ((k : ℕ) → k < lane → get_or cs (p + k) 0 ≡ tag → R ((p + k) % cap)) → IsCut R cs tag ((p + lane) % cap) (map (λ c. c % cap) (filter (λ c. ltb c (2 * cap)) (range_with_len p n)))
cut_lane R cs cap tag p zero lane w room l b before = absurd (omega arith)
cut_lane R cs cap tag p (suc n) zero w room l b before =
    let at : p + 0 ≡ p = omega arith in
    record {
      front = [];
      back = map (λ c. c % cap) (filter (λ c. ltb c (2 * cap)) (range_with_len (p + 1) n));
      is = ap (λ t. map (λ c. c % cap) (cond t (p ∷ filter (λ c. ltb c (2 * cap)) (range_with_len (p + 1) n)) (filter (λ c. ltb c (2 * cap)) (range_with_len (p + 1) n)))) (lt-ltb p (2 * cap) (omega arith))
          ∙ ap (λ x. (x % cap) ∷ map (λ c. c % cap) (filter (λ c. ltb c (2 * cap)) (range_with_len (p + 1) n))) (sym at);
      refused = λ q a. absurd (true≢false (sym a));
    }
cut_lane R cs cap tag p (suc n) (suc lane) w room l b before =
    let same : p + 1 + lane ≡ p + suc lane = omega arith in
    let first : p < 2 * cap = omega arith in
    let c = cut_lane R cs cap tag (p + 1) n lane w (omega arith) (omega arith) (omega arith)
    (λ k h t. subst R (ap (λ x. x % cap) {x = p + suc k} {y = p + 1 + k} (omega arith)) (before (suc k) (omega arith) (ap (λ x. get_or cs x 0) {x = p + suc k} {y = p + 1 + k} (omega arith) ∙ t))) in
    record {
      front = (p % cap) ∷ c.front;
      back = c.back;
      is = ap (λ t. map (λ c. c % cap) (cond t (p ∷ filter (λ c. ltb c (2 * cap)) (range_with_len (p + 1) n)) (filter (λ c. ltb c (2 * cap)) (range_with_len (p + 1) n)))) (lt-ltb p (2 * cap) first)
          ∙ ap (λ xs. (p % cap) ∷ xs) c.is ∙ ap (λ x. (p % cap) ∷ (c.front ++ (x % cap) ∷ c.back)) same;
      refused = λ q a t. elim (cases_Bool (eqb q (p % cap))) [
        | inl e ↦
            let qe : q ≡ p % cap = eqb-true q (p % cap) e in
            let z : p + 0 ≡ p = omega arith in
            subst R (sym qe) (subst R (ap (λ x. x % cap) z) (before 0 (omega arith) (ap (λ x. get_or cs x 0) z ∙ same_control cs cap p q w (omega arith) first (sym qe) ∙ t)))
        | inr n' ↦ c.refused q (sym (ap (λ b'. b' || list_any (eqb q) c.front) n') ∙ a) t
      ];
    }

-- along strides
cut_strides : (A R : ℕ → Type 0) (cs : List ℕ) (cap tag place stride : ℕ) (later prior : List ℕ) → Wraps cs cap → All (λ p. p + 16 ≤ length cs) (prior ++ stride ∷ later)
    → All (IsRefused A R cs cap tag) prior → (h : IsFoundIn A R cs cap tag stride place) → stride + h.lane < 2 * cap → IsCut R cs tag place (flat_map (places_shown cap) (prior ++ stride ∷ later))
cut_strides A R cs cap tag place stride later [] w room none h b =
    let c = cut_lane R cs cap tag stride 16 h.lane w (All-head (λ p. p + 16 ≤ length cs) stride later room) h.within b h.before in
    record {
      front = c.front;
      back = c.back ++ flat_map (places_shown cap) later;
      is = ap (λ xs. xs ++ flat_map (places_shown cap) later) c.is ∙ append_assoc c.front (((stride + h.lane) % cap) ∷ c.back) (flat_map (places_shown cap) later)
          ∙ ap (λ x. c.front ++ (x ∷ c.back ++ flat_map (places_shown cap) later)) (sym h.place_is);
      refused = c.refused;
    }
cut_strides A R cs cap tag place stride later (p ∷ prior) w room none h b =
    let c = cut_strides A R cs cap tag place stride later prior w (All-tail (λ p. p + 16 ≤ length cs) p (prior ++ stride ∷ later) room) (All-tail (IsRefused A R cs cap tag) p prior none) h b in
    record {
      front = places_shown cap p ++ c.front;
      back = c.back;
      is = ap (λ xs. places_shown cap p ++ xs) c.is ∙ sym (append_assoc (places_shown cap p) c.front (place ∷ c.back));
      refused = λ q a t. elim (cases_Bool (list_any (eqb q) (places_shown cap p))) [
        | inl e ↦
            let s = shown_of cap p 16 q e in
            let in' : s.0 < 16 = s.1 in
            let under : p + s.0 < 2 * cap = s.2 in
            let inside : p + s.0 < length cs = omega (arith, All-head (λ p. p + 16 ≤ length cs) p (prior ++ stride ∷ later) room) in
            subst R s.3 (All-head (IsRefused A R cs cap tag) p prior none s.0 in' (same_control cs cap (p + s.0) q w inside under s.3 ∙ t))
        | inr n ↦ c.refused q (among_append q (places_shown cap p) c.front a n) t
      ];
    }

-- ---- the theorem

searched_front : (cs : List ℕ) (cap : ℕ) (ps : List ℕ) → (rest : List ℕ) × (flat_map (places_shown cap) ps ≡ flat_map (places_shown cap) (searched cs ps) ++ rest)
searched_front cs cap [] = ([], refl)
searched_front cs cap (p ∷ ps) = step (list_any is_empty (shown cs p)) (searched_front cs cap ps)
  where
    step : (b : Bool) → (rest : List ℕ) × (flat_map (places_shown cap) ps ≡ flat_map (places_shown cap) (searched cs ps) ++ rest)
        → (rest : List ℕ) × (places_shown cap p ++ flat_map (places_shown cap) ps ≡ flat_map (places_shown cap) (p ∷ cond b [] (searched cs ps)) ++ rest)
    step true r = (flat_map (places_shown cap) ps, sym (append_assoc (places_shown cap p) [] (flat_map (places_shown cap) ps)))
    step false r = (r.0, ap (λ xs. places_shown cap p ++ xs) r.1 ∙ sym (append_assoc (places_shown cap p) (flat_map (places_shown cap) (searched cs ps)) r.0))

any_take : (f : ℕ → Bool) (n : ℕ) (xs : List ℕ) → list_any f (take n xs) ≡ true → list_any f xs ≡ true
any_take f n xs h = ap (list_any f) (sym (take-append-drop n xs)) ∙ list_any-append f (take n xs) (drop n xs) ∙ ap (λ b. b || list_any f (drop n xs)) h

free_sooner : (places : List ℕ) (i j q : ℕ) → j ≤ i → is_free (take i places) q ≡ true → is_free (take j places) q ≡ true
free_sooner places i j q l h = elim (cases_Bool (list_any (λ r. eqb r q) (take j places))) [
  | inr n ↦ ap not n
  | inl y ↦ absurd (true≢false (sym h ∙ ap not (any_take (λ r. eqb r q) j (take i places) (ap (list_any (λ r. eqb r q)) (take-take j i places l) ∙ y))))
]

pub item_of : (places : List ℕ) (q : ℕ) → is_free places q ≡ false → (i : ℕ) × (i < length places) × (get_or places i 0 ≡ q)
item_of [] q h = absurd (true≢false h)
item_of (p ∷ ps) q h = elim (cases_Bool (eqb p q)) [
  | inl e ↦ (0, omega arith, eqb-true p q e)
  | inr n ↦ let r = item_of ps q (sym (ap (λ b. not (b || list_any (λ x. eqb x q) ps)) n) ∙ h) in let l = r.1 in (suc r.0, omega arith, r.2)
]

option_then : (e : ℕ → Bool) (xs ys : List ℕ) (p : ℕ) → find e (xs ++ ys) ≡ Some p → (Among p xs) ⊎ (find e ys ≡ Some p)
option_then e [] ys p h = inr h
option_then e (x ∷ xs) ys p h = elim (cases_Bool (e x)) [
  | inl y ↦ inl (ap (λ b. b || list_any (eqb p) xs) (eq-eqb p x (same (sym h ∙ ap (λ b. cond b (Some x) (find e (xs ++ ys))) y))))
  | inr n ↦ elim (option_then e xs ys p (sym (ap (λ b. cond b (Some x) (find e (xs ++ ys))) n) ∙ h)) [
    | inl a ↦ inl (later (eqb p x) a)
    | inr r ↦ inr r
  ]
]
  where
    same : ◌≡◌ {A = Option ℕ} (Some p) (Some x) → p ≡ x
    same s = cc

    later : (a : Bool) → Among p xs → (a || list_any (eqb p) xs) ≡ true
    later true k = refl
    later false k = k

-- The item that was passed first among those that are accepted is found, where only items of the hash that is looked up
-- are.
pub first_handed_in : (A R : ℕ → Type 0) (cs : List ℕ) (cap hash : ℕ) (hashes places : List ℕ) (r : Option ℕ) (n j : ℕ)
    → 0 < cap → Tags hashes → IsFirstFit cap [] hashes places → cs ≡ written_controls cap hashes places
    → IsAnswer A R cs cap (hash_tag hash) (searched cs (strides hash cap)) r n
    → ((i : ℕ) → i < length hashes → A (get_or places i 0) → R (get_or places i 0) → ⊥) → ((i : ℕ) → i < length hashes → A (get_or places i 0) → get_or hashes i 0 ≡ hash)
    → j < length hashes → A (get_or places j 0) → ((i : ℕ) → i < j → A (get_or places i 0) → ⊥)
    → r ≡ Some (get_or places j 0)
unfolding places_for reach
first_handed_in A R cs cap hash hashes places None n j some tags fit is a never alike l yes' least =
    let own : get_or hashes j 0 ≡ hash = alike j l yes' in
    let w : Wraps cs cap = subst (λ (xs : List ℕ). Wraps xs cap) (sym is) (written_wraps cap hashes places) in
    let in' : Reaches cs hash cap (get_or places j 0) =
    subst (λ (h : ℕ). Reaches cs h cap (get_or places j 0)) own (subst (λ (xs : List ℕ). Reaches xs (get_or hashes j 0) cap (get_or places j 0)) (sym is) (written_reaches cap hashes places j some tags fit l)) in
    let tag : get_or cs (get_or places j 0) 0 ≡ hash_tag hash = ap (λ xs. get_or xs (get_or places j 0) 0) is ∙ written_tag cap hashes places j some fit l ∙ ap hash_tag own in
    only_is_found (λ (q : ℕ). ⊥) R cs hash cap (hash_tag hash) (get_or places j 0) None n some a w (ap length is ∙ length-written cap hashes places) in' tag (never j l yes') (λ q low full x. absurd x)
first_handed_in A R cs cap hash hashes places (Some q) n j some tags fit is a never alike l yes' least =
    let own : get_or hashes j 0 ≡ hash = alike j l yes' in
    let w : Wraps cs cap = subst (λ (xs : List ℕ). Wraps xs cap) (sym is) (written_wraps cap hashes places) in
    let long : length cs ≡ 16 * sixteens cap + 15 = ap length is ∙ length-written cap hashes places in
    let even : length hashes ≡ length places = same_length cap [] hashes places fit in
    let tag : get_or cs (get_or places j 0) 0 ≡ hash_tag hash = ap (λ xs. get_or xs (get_or places j 0) 0) is ∙ written_tag cap hashes places j some fit l ∙ ap hash_tag own in
    let f = found_place A R cs hash cap (hash_tag hash) q n some w long a in
    let room : All (λ p. p + 16 ≤ length cs) (a.prior ++ a.stride ∷ a.later) =
    subst (λ (ps : List ℕ). All (λ p. p + 16 ≤ length cs) ps) a.strides_are (All-searched (λ p. p + 16 ≤ length cs) cs (strides hash cap) (strides_within cs hash cap long)) in
    let full : is_free places q ≡ false =
    sym (ap is_empty (ap (λ xs. get_or xs q 0) is ∙ written_low cap hashes places q f.low) ∙ free_is_empty hashes places q even tags) ∙ lt-leb 128 (get_or cs q 0) f.full in
    let item = item_of places q full in
    let i : ℕ = item.0 in
    let i_low : i < length hashes = omega (arith, item.1, even) in
    let at : get_or places i 0 ≡ q = item.2 in
    let same_hash : get_or hashes i 0 ≡ hash = alike i i_low (subst A (sym at) a.found.taken) in
    let cut = cut_strides A R cs cap (hash_tag hash) q a.stride a.later a.prior w room a.refused_before a.found f.below in
    let front = searched_front cs cap (strides hash cap) in
    let all : places_for hash cap ≡ cut.front ++ (q ∷ cut.back ++ front.0) =
    front.1 ∙ ap (λ ps. flat_map (places_shown cap) ps ++ front.0) a.strides_are ∙ ap (λ xs. xs ++ front.0) cut.is ∙ append_assoc cut.front (q ∷ cut.back) front.0 in
    let first : find (is_free (take j places)) (places_for hash cap) ≡ Some (get_or places j 0) = ap (λ h. find (is_free (take j places)) (places_for h cap)) (sym own) ∙ first_fit_at cap [] hashes places j fit l in
    elim (cases_eq i j) [
      | inl e ↦ ap (λ x. Some x) (sym at ∙ ap (λ x. get_or places x 0) e)
      | inr d ↦ elim (cases_lt i j) [
        | inl less ↦ absurd (least i less (subst A (sym at) a.found.taken))
        | inr more ↦ elim (option_then (is_free (take j places)) cut.front (q ∷ cut.back ++ front.0) (get_or places j 0) (ap (find (is_free (take j places))) (sym all) ∙ first)) [
          | inl among ↦ absurd (never j l yes' (cut.refused (get_or places j 0) among tag))
          | inr next ↦
              let new : is_free (take i places) q ≡ true = ap (is_free (take i places)) (sym at) ∙ place_is_new cap [] hashes places i fit i_low in
              let later : j < i = omega arith in
              let free : is_free (take j places) q ≡ true = free_sooner places i j q (omega arith) new in
              let here' : ◌≡◌ {A = Option ℕ} (Some q) (Some (get_or places j 0)) = sym (ap (λ b. cond b (Some q) (find (is_free (take j places)) (cut.back ++ front.0))) free) ∙ next in
              here'
        ]
      ]
    ]
