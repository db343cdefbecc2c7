-- Items placed one after another: first fit, and the controls that they leave.
use Rattle.std.proofs.Common.{◌≡◌, ◌≢◌, ℕ, ◌+◌, ◌-◌, ◌*◌, ◌%◌, ◌^◌, ◌<◌, ◌≤◌, Bool, true, false, cond, not, ◌||◌, List, [], ◌∷◌, ◌++◌, length, map, get_or, set, replicate, leb-true, eqb, ltb, refl, sym, ap, ◌∙◌, arith, inl, inr, true≢false, append_assoc, Option, Some, None, eqb-true, eq-eqb, lt-ltb, le-ltb, length-set, get_or-set_other, get_or-set_same, Fits, w64, take}
use Rattle.std.specs.List.{All, list_any, flat_map, find}
use Rattle.std.proofs.lemmas.Bool.{cases_Bool, cases_eq, cases_lt, lt-leb}
use Rattle.std.proofs.lemmas.Grind.{same_number_lists}
use Rattle.std.proofs.lemmas.List.{get_or-replicate, length-replicate}
use Rattle.std.proofs.lemmas.Map.Steps.{le-length_from_below}
use Rattle.std.proofs.lemmas.List.Elements.{All-nil, All-cons, All-head, All-tail, All-append, All-take, All-from_get_or}
use Rattle.std.proofs.lemmas.List.FromFn.{length-map-range_with_len, get_or-map-range_with_len}
use Rattle.archive_shape_canonical.specs.Strides.{places_for, sixteens, strides, places_shown}
use Rattle.archive_shape_canonical.specs.FirstFit.{is_free, control_at, written_controls, hash_tag}
use Rattle.archive_hash_probing.proofs.Fit.{IsFirstFit}
use Rattle.archive_hash_probing.proofs.FreePlaces.{search_free}
use Rattle.archive_hash_probing.specs.Controls.{AreControls, with_control}
use Rattle.archive_shape_canonical.specs.Reach.{is_empty}
use Rattle.archive_hash_probing.proofs.Wrapping.{Wraps, wraps_of, count_of, are_controls}
use Rattle.archive_hash_probing.proofs.FirstFree.{empty_at}
use Rattle.archive_hash_probing.proofs.PlaceLemmas.{wrapped_low, wrapped_high}

-- ---- tests that agree on places

places_below : (cap : ℕ) → 0 < cap → (cs : List ℕ) → All (λ p. p < cap) (map (λ c. c % cap) cs)
places_below cap some [] = All-nil (λ p. p < cap)
places_below cap some (c ∷ cs) = All-cons (λ p. p < cap) (c % cap) (map (λ d. d % cap) cs) (omega arith) (places_below cap some cs)

all_shown : (cap : ℕ) → 0 < cap → (ps : List ℕ) → All (λ p. p < cap) (flat_map (places_shown cap) ps)
all_shown cap some [] = All-nil (λ p. p < cap)
all_shown cap some (p ∷ ps) = All-append (λ q. q < cap) (places_shown cap p) (flat_map (places_shown cap) ps) (places_below cap some _) (all_shown cap some ps)

find_agree : (e f : ℕ → Bool) (cap : ℕ) → ((p : ℕ) → p < cap → e p ≡ f p) → (xs : List ℕ) → All (λ p. p < cap) xs → find e xs ≡ find f xs
find_agree e f cap same [] h = refl
find_agree e f cap same (x ∷ xs) h = λ i. cond (same x (All-head (λ p. p < cap) x xs h) i) (Some x) (find_agree e f cap same xs (All-tail (λ p. p < cap) x xs h) i)

pub find_same : (e f : ℕ → Bool) (hash cap : ℕ) → 0 < cap → ((p : ℕ) → p < cap → e p ≡ f p) → find e (places_for hash cap) ≡ find f (places_for hash cap)
unfolding places_for
find_same e f hash cap some same = find_agree e f cap same (flat_map (places_shown cap) (strides hash cap)) (all_shown cap some (strides hash cap))

-- ---- one item more

first_fit_push : (cap : ℕ) (taken hashes places : List ℕ) (hash place : ℕ) → IsFirstFit cap taken hashes places → find (is_free (taken ++ places)) (places_for hash cap) ≡ Some place → IsFirstFit cap taken (hashes ++ hash ∷ []) (places ++ place ∷ [])
first_fit_push cap taken [] [] hash place h e = (ap (λ ts. find (is_free ts) (places_for hash cap)) (sym (append-nil' taken)) ∙ e, tt)
  where
    append-nil' : (xs : List ℕ) → xs ++ [] ≡ xs
    append-nil' [] = refl
    append-nil' (x ∷ xs) = ap (λ ys. x ∷ ys) (append-nil' xs)
first_fit_push cap taken [] (p ∷ ps) hash place h e = absurd h
first_fit_push cap taken (k ∷ ks) [] hash place h e = absurd h
first_fit_push cap taken (k ∷ ks) (p ∷ ps) hash place h e =
    (h.0, first_fit_push cap (taken ++ p ∷ []) ks ps hash place h.1 (ap (λ ts. find (is_free ts) (places_for hash cap)) (append_assoc taken (p ∷ []) ps) ∙ e))

pub fits_more : (cap : ℕ) (hashes places : List ℕ) (hash place : ℕ) → IsFirstFit cap [] hashes places → find (is_free places) (places_for hash cap) ≡ Some place → IsFirstFit cap [] (hashes ++ hash ∷ []) (places ++ place ∷ [])
fits_more cap hashes places hash place h e = first_fit_push cap [] hashes places hash place h e

-- ---- controls

-- as many places as hashes, and hashes of 64 bits
abbrev pub Tags : List ℕ → Type 0
Tags hashes = All (λ h. h < 2 ^ 64) hashes

pub tag_below : (h : ℕ) → h < 2 ^ 64 → hash_tag h < 128
unfolding hash_tag
tag_below h l = omega arith

pub free_is_empty : (hashes places : List ℕ) (p : ℕ) → length hashes ≡ length places → Tags hashes → is_empty (control_at hashes places p) ≡ is_free places p
free_is_empty [] [] p e t = refl
free_is_empty [] (q ∷ ps) p e t = absurd (omega arith)
free_is_empty (h ∷ hs) [] p e t = absurd (omega arith)
free_is_empty (h ∷ hs) (q ∷ ps) p e t = elim (cases_Bool (eqb q p)) [
  | inl s ↦
      let tag = tag_below h (All-head (λ k. k < 2 ^ 64) h hs t) in
      ap (λ b. is_empty (cond b (hash_tag h) (control_at hs ps p))) s ∙ lt-leb 128 (hash_tag h) tag ∙ sym (ap (λ b. not (b_or b (list_any (λ r. eqb r p) ps))) s)
  | inr d ↦
      ap (λ b. is_empty (cond b (hash_tag h) (control_at hs ps p))) d ∙ free_is_empty hs ps p (omega arith) (All-tail (λ k. k < 2 ^ 64) h hs t) ∙ sym (ap (λ b. not (b_or b (list_any (λ r. eqb r p) ps))) d)
]
  where
    b_or : Bool → Bool → Bool
    b_or a b = a || b

written_at : (cap : ℕ) (hashes places : List ℕ) (c : ℕ) → c < 16 * sixteens cap + 15 → get_or (written_controls cap hashes places) c 0 ≡ cond (ltb c (2 * cap)) (control_at hashes places (c % cap)) 255
unfolding written_controls
written_at cap hashes places c l = get_or-map-range_with_len (λ d. cond (ltb d (2 * cap)) (control_at hashes places (d % cap)) 255) 0 (16 * sixteens cap + 15) c c 0 l (omega arith)

pub length-written : (cap : ℕ) (hashes places : List ℕ) → length (written_controls cap hashes places) ≡ 16 * sixteens cap + 15
unfolding written_controls
length-written cap hashes places = length-map-range_with_len (λ d. cond (ltb d (2 * cap)) (control_at hashes places (d % cap)) 255) 0 (16 * sixteens cap + 15)

pub written_low : (cap : ℕ) (hashes places : List ℕ) (p : ℕ) → p < cap → get_or (written_controls cap hashes places) p 0 ≡ control_at hashes places p
written_low cap hashes places p l =
    written_at cap hashes places p (omega arith) ∙ ap (λ b. cond b (control_at hashes places (p % cap)) 255) (lt-ltb p (2 * cap) (omega arith))
    ∙ ap (control_at hashes places) (sym (wrapped_low p cap l))

control_new : (hashes places : List ℕ) (hash place : ℕ) → length hashes ≡ length places → is_free places place ≡ true → control_at (hashes ++ hash ∷ []) (places ++ place ∷ []) place ≡ hash_tag hash
control_new [] [] hash place e f = ap (λ b. cond b (hash_tag hash) 255) (eq-eqb place place refl)
control_new [] (q ∷ ps) hash place e f = absurd (omega arith)
control_new (h ∷ hs) [] hash place e f = absurd (omega arith)
control_new (h ∷ hs) (q ∷ ps) hash place e f = elim (cases_Bool (eqb q place)) [
  | inl s ↦ absurd (true≢false (sym f ∙ ap (λ b. not (b_or b (list_any (λ r. eqb r place) ps))) s))
  | inr d ↦
      ap (λ b. cond b (hash_tag h) (control_at (hs ++ hash ∷ []) (ps ++ place ∷ []) place)) d
      ∙ control_new hs ps hash place (omega arith) (sym (ap (λ b. not (b_or b (list_any (λ r. eqb r place) ps))) d) ∙ f)
]
  where
    b_or : Bool → Bool → Bool
    b_or a b = a || b

control_other : (hashes places : List ℕ) (hash place p : ℕ) → length hashes ≡ length places → (place ≡ p → ⊥) → control_at (hashes ++ hash ∷ []) (places ++ place ∷ []) p ≡ control_at hashes places p
control_other [] [] hash place p e n = elim (cases_Bool (eqb place p)) [
  | inl s ↦ absurd (n (eqb-true place p s))
  | inr d ↦ ap (λ b. cond b (hash_tag hash) 255) d
]
control_other [] (q ∷ ps) hash place p e n = absurd (omega arith)
control_other (h ∷ hs) [] hash place p e n = absurd (omega arith)
control_other (h ∷ hs) (q ∷ ps) hash place p e n = ap (λ x. cond (eqb q p) (hash_tag h) x) (control_other hs ps hash place p (omega arith) n)

pub fits_by_controls : (cs : List ℕ) (cap : ℕ) (hashes places : List ℕ) (hash : ℕ) → 0 < cap → length hashes ≡ length places → Tags hashes → cs ≡ written_controls cap hashes places
    → find (empty_at cs) (places_for hash cap) ≡ find (is_free places) (places_for hash cap)
fits_by_controls cs cap hashes places hash some even tags e =
    find_same (empty_at cs) (is_free places) hash cap some
    (λ p l. ap is_empty (ap (λ xs. get_or xs p 0) e ∙ written_low cap hashes places p l) ∙ free_is_empty hashes places p even tags)

pub written_wraps : (cap : ℕ) (hashes places : List ℕ) → Wraps (written_controls cap hashes places) cap
written_wraps cap hashes places =
    let long = length-written cap hashes places in
    record {
      repeated = λ c low high l.
          let in' : c < 16 * sixteens cap + 15 = omega (arith, long) in
          let inner : c - cap < cap = omega arith in
          written_at cap hashes places c in' ∙ ap (λ b. cond b (control_at hashes places (c % cap)) 255) (lt-ltb c (2 * cap) high)
          ∙ ap (control_at hashes places) (sym (wrapped_high c cap low high)) ∙ sym (written_low cap hashes places (c - cap) inner);
      behind = λ c high l.
          let in' : c < 16 * sixteens cap + 15 = omega (arith, long) in
          omega (arith, written_at cap hashes places c in' ∙ ap (λ b. cond b (control_at hashes places (c % cap)) 255) (le-ltb c (2 * cap) high));
    }

pub written_none : (cap : ℕ) → ◌≡◌ {A = List ℕ} (written_controls cap [] []) (replicate (16 * sixteens cap + 15) 255)
written_none cap =
    same_number_lists (written_controls cap [] []) (replicate (16 * sixteens cap + 15) 255) (length-written cap [] [] ∙ sym (length-replicate (16 * sixteens cap + 15) 255))
    (λ k l.
    let in' : k < 16 * sixteens cap + 15 = omega (arith, length-written cap [] []) in
    written_at cap [] [] k in' ∙ either (ltb k (2 * cap)) ∙ sym (get_or-replicate (16 * sixteens cap + 15) k 255 0 in'))
  where
    either : (b : Bool) → ◌≡◌ {A = ℕ} (cond b 255 255) 255
    either true = refl
    either false = refl

-- what is read after an item's control was written
module _ (cs : List ℕ) (cap place tag : ℕ) (low : place < cap) (long : cap ≤ length cs) where
  after_place : get_or (with_control cs cap place tag) place 0 ≡ tag
  after_place = elim (cases_lt (place + cap) (length cs)) [
    | inl l ↦
        let apart : place ≢ place + cap = λ e. omega arith in
        ap (λ b. get_or (cond b (set (set cs place tag) (place + cap) tag) (set cs place tag)) place 0) (lt-ltb (place + cap) (length cs) l)
        ∙ get_or-set_other (set cs place tag) (place + cap) place tag 0 apart ∙ get_or-set_same cs place tag 0 (omega arith)
    | inr g ↦
        ap (λ b. get_or (cond b (set (set cs place tag) (place + cap) tag) (set cs place tag)) place 0) (le-ltb (place + cap) (length cs) g)
        ∙ get_or-set_same cs place tag 0 (omega arith)
  ]

  after_repeat : place + cap < length cs → get_or (with_control cs cap place tag) (place + cap) 0 ≡ tag
  after_repeat l =
      ap (λ b. get_or (cond b (set (set cs place tag) (place + cap) tag) (set cs place tag)) (place + cap) 0) (lt-ltb (place + cap) (length cs) l)
      ∙ get_or-set_same (set cs place tag) (place + cap) tag 0 (omega (arith, length-set cs place tag))

  after_other : (k : ℕ) → k ≢ place → k ≢ place + cap → get_or (with_control cs cap place tag) k 0 ≡ get_or cs k 0
  after_other k n m = elim (cases_lt (place + cap) (length cs)) [
    | inl l ↦
        ap (λ b. get_or (cond b (set (set cs place tag) (place + cap) tag) (set cs place tag)) k 0) (lt-ltb (place + cap) (length cs) l)
        ∙ get_or-set_other (set cs place tag) (place + cap) k tag 0 m ∙ get_or-set_other cs place k tag 0 n
    | inr g ↦
        ap (λ b. get_or (cond b (set (set cs place tag) (place + cap) tag) (set cs place tag)) k 0) (le-ltb (place + cap) (length cs) g)
        ∙ get_or-set_other cs place k tag 0 n
  ]

  length-with_control : length (with_control cs cap place tag) ≡ length cs
  length-with_control = either (ltb (place + cap) (length cs))
    where
      either : (b : Bool) → length (cond b (set (set cs place tag) (place + cap) tag) (set cs place tag)) ≡ length cs
      either true = length-set (set cs place tag) (place + cap) tag ∙ length-set cs place tag
      either false = length-set cs place tag

-- ---- a table with one item more has controls again

kept_wraps : (cs : List ℕ) (cap place tag : ℕ) → place < cap → length cs ≡ 16 * sixteens cap + 15 → Wraps cs cap → Wraps (with_control cs cap place tag) cap
kept_wraps cs cap place tag low many w =
    let long : cap ≤ length cs = omega (arith, many) in
    let same = length-with_control cs cap place tag low long in
    record {
      repeated = λ c high below l. elim (cases_eq c (place + cap)) [
        | inl e ↦
            let within : place + cap < length cs = omega (arith, same, e) in
            let back : c - cap ≡ place = omega arith in
            ap (λ x. get_or (with_control cs cap place tag) x 0) e ∙ after_repeat cs cap place tag low long within
            ∙ sym (ap (λ x. get_or (with_control cs cap place tag) x 0) back ∙ after_place cs cap place tag low long)
        | inr n ↦
            after_other cs cap place tag low long c (λ e. omega arith) n ∙ w.repeated c high below (omega (arith, same))
            ∙ sym (after_other cs cap place tag low long (c - cap) (λ e. n (omega arith)) (λ e. omega arith))
      ];
      behind = λ c high l. omega (arith, after_other cs cap place tag low long c (λ e. omega arith) (λ e. omega arith), w.behind c high (omega (arith, same)));
    }

pub kept_controls : (cs : List ℕ) (cap place tag : ℕ) → place < cap → AreControls cs cap → AreControls (with_control cs cap place tag) cap
kept_controls cs cap place tag low h =
    let many = count_of cs cap h in
    are_controls (with_control cs cap place tag) cap (kept_wraps cs cap place tag low many (wraps_of cs cap h))
    (length-with_control cs cap place tag low (omega (arith, many)) ∙ many)

pub written_are : (cap : ℕ) (hashes places : List ℕ) → AreControls (written_controls cap hashes places) cap
written_are cap hashes places = are_controls (written_controls cap hashes places) cap (written_wraps cap hashes places) (length-written cap hashes places)

pub written_more : (cap : ℕ) (hashes places : List ℕ) (hash place : ℕ) → place < cap → length hashes ≡ length places → is_free places place ≡ true
    → with_control (written_controls cap hashes places) cap place (hash_tag hash) ≡ written_controls cap (hashes ++ hash ∷ []) (places ++ place ∷ [])
written_more cap hashes places hash place low even free =
    let cs : List ℕ = written_controls cap hashes places in
    let hs : List ℕ = hashes ++ hash ∷ [] in
    let ps : List ℕ = places ++ place ∷ [] in
    let tag : ℕ = hash_tag hash in
    let many : length cs ≡ 16 * sixteens cap + 15 = length-written cap hashes places in
    let long : cap ≤ length cs = omega (arith, many) in
    let new : control_at hs ps place ≡ tag = control_new hashes places hash place even free in
    same_number_lists (with_control cs cap place tag) (written_controls cap hs ps) (length-with_control cs cap place tag low long ∙ many ∙ sym (length-written cap hs ps))
    (λ k l.
    let in' : k < 16 * sixteens cap + 15 = omega (arith, length-with_control cs cap place tag low long, many) in
    elim (cases_eq k place) [
      | inl e ↦
          ap (λ x. get_or (with_control cs cap place tag) x 0) e ∙ after_place cs cap place tag low long ∙ sym new ∙ sym (written_low cap hs ps place low)
          ∙ ap (λ x. get_or (written_controls cap hs ps) x 0) (sym e)
      | inr n ↦ elim (cases_eq k (place + cap)) [
        | inl e ↦
            let within : place + cap < length cs = omega (arith, many, e) in
            let inner : place + cap < 16 * sixteens cap + 15 = omega (arith, many, e) in
            let back : place + cap - cap ≡ place = omega arith in
            let turn : (place + cap) % cap ≡ place = sym (wrapped_high (place + cap) cap (omega arith) (omega arith)) ∙ back in
            ap (λ x. get_or (with_control cs cap place tag) x 0) e ∙ after_repeat cs cap place tag low long within ∙ sym new
            ∙ sym (written_at cap hs ps (place + cap) inner ∙ ap (λ b. cond b (control_at hs ps ((place + cap) % cap)) 255) (lt-ltb (place + cap) (2 * cap) (omega arith)) ∙ ap (control_at hs ps) turn)
            ∙ ap (λ x. get_or (written_controls cap hs ps) x 0) (sym e)
        | inr m ↦ after_other cs cap place tag low long k n m ∙ written_at cap hashes places k in' ∙ unchanged k n m ∙ sym (written_at cap hs ps k in')
      ]
    ])
  where
    unchanged : (k : ℕ) → k ≢ place → k ≢ place + cap → cond (ltb k (2 * cap)) (control_at hashes places (k % cap)) 255 ≡ cond (ltb k (2 * cap)) (control_at (hashes ++ hash ∷ []) (places ++ place ∷ []) (k % cap)) 255
    unchanged k n m = elim (cases_lt k (2 * cap)) [
      | inl l ↦
          let off : place ≡ k % cap → ⊥ = λ e. elim (cases_lt k cap) [ inl h ↦ n (wrapped_low k cap h ∙ sym e) | inr h ↦ m (let d : k - cap ≡ place = wrapped_high k cap h l ∙ sym e in omega arith) ] in
          ap (λ x. cond (ltb k (2 * cap)) x 255) (sym (control_other hashes places hash place (k % cap) even off))
      | inr g ↦
          ap (λ b. cond b (control_at hashes places (k % cap)) 255) (le-ltb k (2 * cap) g) ∙ sym (ap (λ b. cond b (control_at (hashes ++ hash ∷ []) (places ++ place ∷ []) (k % cap)) 255) (le-ltb k (2 * cap) g))
    ]

-- ---- a free place

pub free_place : (cap : ℕ) (hashes places : List ℕ) (cs : List ℕ) → length hashes ≡ length places → Tags hashes → length places < cap → cs ≡ written_controls cap hashes places → (q : ℕ) × (q < cap) × (128 ≤ get_or cs q 0)
free_place cap hashes places cs even tags few e = elim (search_free places cap) [
  | inl r ↦
      let read : get_or cs r.0 0 ≡ control_at hashes places r.0 = ap (λ xs. get_or xs r.0 0) e ∙ written_low cap hashes places r.0 r.1 in
      (r.0, r.1, leb-true 128 (get_or cs r.0 0) (ap is_empty read ∙ free_is_empty hashes places r.0 even tags ∙ r.2))
  | inr all ↦ let most = le-length_from_below places cap all in absurd (omega arith)
]

pub found_is_free : (e : ℕ → Bool) (xs : List ℕ) (p : ℕ) → find e xs ≡ Some p → e p ≡ true
found_is_free e [] p h = differ h
  where
    differ : ◌≡◌ {A = Option ℕ} None (Some p) → e p ≡ true
    differ s = cc
found_is_free e (x ∷ xs) p h = elim (cases_Bool (e x)) [
  | inl y ↦ ap e (sym (same (sym (ap (λ b. cond b (Some x) (find e xs)) y) ∙ h))) ∙ y
  | inr n ↦ found_is_free e xs p (sym (ap (λ b. cond b (Some x) (find e xs)) n) ∙ h)
]
  where
    same : ◌≡◌ {A = Option ℕ} (Some x) (Some p) → x ≡ p
    same s = cc

pub taken_tags : (n : ℕ) (hashes : List ℕ) → ((i : ℕ) → Fits w64 (get_or hashes i 0)) → Tags (take n hashes)
taken_tags n hashes fit = All-take (λ h. h < 2 ^ 64) n hashes (All-from_get_or (λ h. h < 2 ^ 64) hashes 0 (λ i l. let f = fit i in f.fits))

within : (q cap : ℕ) (xs : List ℕ) → All (λ p. p < cap) xs → list_any (eqb q) xs ≡ true → q < cap
within q cap [] a k = absurd (true≢false (sym k))
within q cap (x ∷ xs) a k = elim (cases_Bool (eqb q x)) [
  | inl e ↦ omega (arith, eqb-true q x e, All-head (λ p. p < cap) x xs a)
  | inr n ↦ within q cap xs (All-tail (λ p. p < cap) x xs a) (sym (ap (λ b. b || list_any (eqb q) xs) n) ∙ k)
]

-- places that are shown lie below the capacity
pub low_among : (cap : ℕ) → 0 < cap → (hash q : ℕ) → list_any (eqb q) (places_for hash cap) ≡ true → q < cap
unfolding places_for
low_among cap some hash q h = within q cap (flat_map (places_shown cap) (strides hash cap)) (all_shown cap some (strides hash cap)) h
