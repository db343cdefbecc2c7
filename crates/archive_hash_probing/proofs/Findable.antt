-- What the result of a look-up means: the number of strides, and when an item is found.
use Rattle.std.proofs.Common.{◌≡◌, ℕ, zero, suc, ◌+◌, ◌*◌, ◌%◌, ◌<◌, ◌≤◌, Bool, true, false, cond, ◌||◌, List, [], ◌∷◌, ◌++◌, length, map, get_or, eqb, ltb, sym, ap, subst, ◌∙◌, arith, inl, inr, true≢false, length-append, Option, Some, None, eqb-true, lt-ltb, le-ltb, ltb-true}
use Rattle.std.specs.List.{All, list_any, filter, flat_map, range_with_len}
use Rattle.std.proofs.lemmas.Bool.{cases_Bool, cases_lt}
use Rattle.std.proofs.lemmas.List.Elements.{All-nil, All-cons, All-head, All-tail, All-weaker, filter_passes}
use Rattle.archive_shape_canonical.specs.Reach.{is_empty, shown, searched, reach}
use Rattle.archive_hash_probing.specs.Search.{IsAnswer, IsFoundAmong}
use Rattle.archive_hash_probing.proofs.InStride.{full_below}
use Rattle.archive_hash_probing.proofs.Wrapping.{Wraps}
use Rattle.archive_shape_canonical.specs.Strides.{sixteens, strides, strides_from, least_power, stop, places_shown}
use Rattle.archive_hash_probing.proofs.Coverage.{Among, few_strides}
use Rattle.archive_hash_probing.proofs.PlaceLemmas.{wrapped_low, wrapped_high}

-- ---- strides are counted, and are few

searched_le : (cs ps : List ℕ) → length (searched cs ps) ≤ length ps
searched_le cs [] = omega arith
searched_le cs (p ∷ ps) = step (list_any is_empty (shown cs p)) (searched_le cs ps)
  where
    step : (b : Bool) → length (searched cs ps) ≤ length ps → length (p ∷ cond b [] (searched cs ps)) ≤ length (p ∷ ps)
    step true h = omega arith
    step false h = omega arith

pub All-searched : (P : ℕ → Type 0) (cs ps : List ℕ) → All P ps → All P (searched cs ps)
All-searched P cs [] h = h
All-searched P cs (p ∷ ps) h = step (list_any is_empty (shown cs p)) (All-searched P cs ps (All-tail P p ps h))
  where
    step : (b : Bool) → All P (searched cs ps) → All P (p ∷ cond b [] (searched cs ps))
    step true k = All-cons P p [] (All-head P p ps h) (All-nil P)
    step false k = All-cons P p (searched cs ps) (All-head P p ps h) k

pub strides_below : (hash cap : ℕ) → All (λ p. p < 16 * sixteens cap) (strides hash cap)
unfolding strides strides_from
strides_below hash cap =
    All-weaker (λ p. ltb p (16 * sixteens cap) ≡ true) (λ p. p < 16 * sixteens cap) (λ p e. ltb-true p (16 * sixteens cap) e) _
    (filter_passes (λ p. ltb p (16 * sixteens cap)) (map (stop hash cap) (range_with_len 0 (least_power (sixteens cap)))))

answer_le : (A R : ℕ → Type 0) (cs : List ℕ) (cap tag : ℕ) (ps : List ℕ) (r : Option ℕ) (n : ℕ) → IsAnswer A R cs cap tag ps r n → n ≤ length ps
answer_le A R cs cap tag ps None n a = omega (arith, a.0)
answer_le A R cs cap tag ps (Some place) n a = omega (arith, a.count, ap length a.strides_are, length-append a.prior (a.stride ∷ a.later))

pub counted : (A R : ℕ → Type 0) (cs : List ℕ) (hash cap tag : ℕ) (r : Option ℕ) (n : ℕ) → 0 < cap → IsAnswer A R cs cap tag (searched cs (strides hash cap)) r n → n ≤ sixteens cap
counted A R cs hash cap tag r n some a = omega (arith, answer_le A R cs cap tag (searched cs (strides hash cap)) r n a, searched_le cs (strides hash cap), few_strides hash cap some)

-- ---- a place in the reach

or_cases : (a b : Bool) → (a || b) ≡ true → (a ≡ false → b ≡ true)
or_cases true b h e = absurd (true≢false e)
or_cases false b h e = h

pub among_append : (q : ℕ) (xs ys : List ℕ) → Among q (xs ++ ys) → (list_any (eqb q) xs ≡ false) → Among q ys
among_append q [] ys h n = h
among_append q (x ∷ xs) ys h n = elim (cases_Bool (eqb q x)) [
  | inl e ↦ absurd (true≢false (sym (ap (λ b. b_or b (list_any (eqb q) xs)) e) ∙ n))
  | inr e ↦ among_append q xs ys (sym (ap (λ b. b_or b (list_any (eqb q) (xs ++ ys))) e) ∙ h) (sym (ap (λ b. b_or b (list_any (eqb q) xs)) e) ∙ n)
]
  where
    b_or : Bool → Bool → Bool
    b_or a b = a || b

-- a control below twice the capacity that a stride shows, with its place
pub record IsShown (cap p place : ℕ) : Type 0 where
  pub lane : ℕ
  pub within : lane < 16
  pub below : p + lane < 2 * cap
  pub is : (p + lane) % cap ≡ place

pub shown_of : (cap p n place : ℕ) → Among place (map (λ c. c % cap) (filter (λ c. ltb c (2 * cap)) (range_with_len p n))) → (k : ℕ) × (k < n) × (p + k < 2 * cap) × ((p + k) % cap ≡ place)
shown_of cap p zero place h = absurd (true≢false (sym h))
shown_of cap p (suc n) place h = elim (cases_lt p (2 * cap)) [
  | inl l ↦
      let opened : Among place ((p % cap) ∷ map (λ c. c % cap) (filter (λ c. ltb c (2 * cap)) (range_with_len (p + 1) n))) =
      subst (λ (b : Bool). Among place (map (λ c. c % cap) (cond b (p ∷ filter (λ c. ltb c (2 * cap)) (range_with_len (p + 1) n)) (filter (λ c. ltb c (2 * cap)) (range_with_len (p + 1) n))))) (lt-ltb p (2 * cap) l) h in
      elim (cases_Bool (eqb place (p % cap))) [
        | inl e ↦ (0, omega arith, omega arith, ap (λ x. x % cap) {y = p} (omega arith) ∙ sym (eqb-true place (p % cap) e))
        | inr e ↦ later (shown_of cap (p + 1) n place (or_cases (eqb place (p % cap)) _ opened e))
      ]
  | inr g ↦ later (shown_of cap (p + 1) n place (subst (λ (b : Bool). Among place (map (λ c. c % cap) (cond b (p ∷ filter (λ c. ltb c (2 * cap)) (range_with_len (p + 1) n)) (filter (λ c. ltb c (2 * cap)) (range_with_len (p + 1) n))))) (le-ltb p (2 * cap) g) h))
]
  where
    later : (k : ℕ) × (k < n) × (p + 1 + k < 2 * cap) × ((p + 1 + k) % cap ≡ place) → (k : ℕ) × (k < suc n) × (p + k < 2 * cap) × ((p + k) % cap ≡ place)
    later r = let a = r.1 in let b = r.2 in (suc r.0, omega arith, omega arith, ap (λ x. x % cap) {y = p + 1 + r.0} (omega arith) ∙ r.3)

-- a stride of a list that shows a place
shown_among : (cap place : ℕ) (ps : List ℕ) → Among place (flat_map (places_shown cap) ps) → (i : ℕ) × (i < length ps) × IsShown cap (get_or ps i 0) place
shown_among cap place [] h = absurd (true≢false (sym h))
shown_among cap place (p ∷ ps) h = elim (cases_Bool (list_any (eqb place) (places_shown cap p))) [
  | inl e ↦ let s = shown_of cap p 16 place e in (0, omega arith, record { lane = s.0; within = s.1; below = s.2; is = s.3 })
  | inr e ↦ let r = shown_among cap place ps (among_append place (places_shown cap p) _ h e) in let l = r.1 in (suc r.0, omega arith, r.2)
]

pub same_control : (cs : List ℕ) (cap c place : ℕ) → Wraps cs cap → c < length cs → c < 2 * cap → c % cap ≡ place → get_or cs c 0 ≡ get_or cs place 0
same_control cs cap c place w l b e = elim (cases_lt c cap) [
  | inl h ↦ ap (λ x. get_or cs x 0) (wrapped_low c cap h ∙ e)
  | inr h ↦ w.repeated c h b l ∙ ap (λ x. get_or cs x 0) (wrapped_high c cap h b ∙ e)
]

-- ---- what is found

pub All-middle : (P : ℕ → Type 0) (prior later : List ℕ) (p : ℕ) → All P (prior ++ p ∷ later) → P p
All-middle P [] later p h = All-head P p later h
All-middle P (q ∷ prior) later p h = All-middle P prior later p (All-tail P q (prior ++ p ∷ later) h)

pub strides_within : (cs : List ℕ) (hash cap : ℕ) → length cs ≡ 16 * sixteens cap + 15 → All (λ p. p + 16 ≤ length cs) (strides hash cap)
strides_within cs hash cap long = All-weaker (λ p. p < 16 * sixteens cap) (λ p. p + 16 ≤ length cs) (λ p l. omega (arith, long)) (strides hash cap) (strides_below hash cap)

-- it is a full place of the table, and its control is that of the lane
pub record IsFullPlace (cs : List ℕ) (cap c place : ℕ) : Type 0 where
  pub inside : c < length cs
  pub below : c < 2 * cap
  pub low : place < cap
  pub control : get_or cs c 0 ≡ get_or cs place 0
  pub full : get_or cs place 0 < 128

pub found_place : (A R : ℕ → Type 0) (cs : List ℕ) (hash cap tag place n : ℕ) → 0 < cap → Wraps cs cap → length cs ≡ 16 * sixteens cap + 15
    → (a : IsFoundAmong A R cs cap tag (searched cs (strides hash cap)) place n) → IsFullPlace cs cap (a.stride + a.found.lane) place
found_place A R cs hash cap tag place n some w long a =
    let P : ℕ → Type 0 = λ p. p + 16 ≤ length cs in
    let room : a.stride + 16 ≤ length cs =
    All-middle P a.prior a.later a.stride (subst (λ (ps : List ℕ). All P ps) a.strides_are (All-searched P cs (strides hash cap) (strides_within cs hash cap long))) in
    let inside : a.stride + a.found.lane < length cs = omega (arith, room, a.found.within) in
    let below : a.stride + a.found.lane < 2 * cap = full_below cs cap (a.stride + a.found.lane) w inside a.found.full in
    let control = same_control cs cap (a.stride + a.found.lane) place w inside below (sym a.found.place_is) in
    record {
      inside = inside;
      below = below;
      low = omega (arith, a.found.place_is, mod_low (a.stride + a.found.lane) cap some);
      control = control;
      full = omega (arith, control, a.found.full);
    }
  where
    mod_low : (x y : ℕ) → 0 < y → x % y < y
    mod_low x y h = omega (arith, h)

-- ---- findability

-- The only item that is accepted is found, where its control is the tag and its place is in the reach.
pub only_is_found : (A R : ℕ → Type 0) (cs : List ℕ) (hash cap tag place : ℕ) (r : Option ℕ) (n : ℕ) → 0 < cap
    → IsAnswer A R cs cap tag (searched cs (strides hash cap)) r n → Wraps cs cap
    → length cs ≡ 16 * sixteens cap + 15
    → Among place (reach cs hash cap) → get_or cs place 0 ≡ tag → (R place → ⊥) → ((q : ℕ) → q < cap → get_or cs q 0 < 128 → A q → q ≡ place)
    → r ≡ Some place
unfolding reach
only_is_found A R cs hash cap tag place (Some q) n some a w long in' t took only =
    let f = found_place A R cs hash cap tag q n some w long a in ap (λ x. Some x) (only q f.low f.full a.found.taken)
only_is_found A R cs hash cap tag place None n some a w long in' t took only =
    let ps : List ℕ = searched cs (strides hash cap) in
    let s = shown_among cap place ps in' in
    let p : ℕ = get_or ps s.0 0 in
    let h = s.2 in
    let inside : p + h.lane < length cs = omega (arith, All-searched (λ q. q < 16 * sixteens cap) cs (strides hash cap) (strides_below hash cap) s.0 0 s.1, h.within) in
    let here : get_or cs (p + h.lane) 0 ≡ tag = same_control cs cap (p + h.lane) place w inside h.below h.is ∙ t in
    absurd (took (subst (λ (x : ℕ). R x) h.is (a.1 s.0 0 s.1 h.lane h.within here)))
