-- What several look-ups of one hash in one table have in common, and that what is found in a written table is an item.
use Rattle.std.proofs.Common.{◌≡◌, ℕ, ◌+◌, ◌*◌, ◌%◌, ◌<◌, ◌≤◌, true, false, cond, not, List, [], ◌∷◌, ◌++◌, length, get_or, refl, sym, ap, subst, ◌∙◌, arith, inl, inr, Option, Some, None, length-append}
use Rattle.std.specs.List.{All, flat_map, prefix_len}
use Rattle.std.proofs.lemmas.Bool.{cases_Bool, cases_lt, lt-leb}
use Rattle.std.proofs.lemmas.List.{get_or_append_left}
use Rattle.std.proofs.lemmas.List.Elements.{All-head, All-tail, All-get_or, All-from_get_or}
use Rattle.archive_shape_canonical.specs.FirstFit.{is_free, written_controls}
use Rattle.archive_shape_canonical.specs.Strides.{sixteens, strides, places_shown}
use Rattle.archive_shape_canonical.specs.Reach.{is_empty, searched, reach, Reaches}
use Rattle.archive_hash_probing.specs.Search.{IsAnswer, IsFoundAmong, IsRefused, shows}
use Rattle.archive_hash_probing.proofs.Coverage.{Among, among_head, among_right, among_flat_map, shown_at}
use Rattle.archive_hash_probing.proofs.Findable.{found_place, same_control, shown_of, All-searched, All-middle, strides_within}
use Rattle.archive_hash_probing.proofs.FirstFits.{Tags, free_is_empty, written_low, written_wraps, length-written}
use Rattle.archive_hash_probing.proofs.FirstHandedIn.{item_of}
use Rattle.archive_hash_probing.proofs.Fit.{IsFirstFit}
use Rattle.archive_hash_probing.proofs.Reached.{same_length}
use Rattle.archive_hash_probing.proofs.Wrapping.{Wraps}

at_front : (xs ys : List ℕ) (x : ℕ) → get_or (xs ++ x ∷ ys) (length xs) 0 ≡ x
at_front [] ys x = refl
at_front (y ∷ xs) ys x = at_front xs ys x

All-front : (P : ℕ → Type 0) (xs ys : List ℕ) → All P (xs ++ ys) → (k : ℕ) → k < length xs → P (get_or xs k 0)
All-front P xs ys h k l =
    subst P (get_or_append_left xs ys 0 k l) (All-get_or P (xs ++ ys) k 0 (omega (arith, length-append xs ys)) h)

module _ (A R : ℕ → Type 0) (cs : List ℕ) (hash cap tag : ℕ) (some : 0 < cap) (w : Wraps cs cap) (long : length cs ≡ 16 * sixteens cap + 15) where
  abbrev Finds : ℕ → ℕ → Type 0
  Finds q n = IsFoundAmong A R cs cap tag (searched cs (strides hash cap)) q n

  -- a stride that shows an accepted item under the tag was not refused
  shown_refused : (q p k : ℕ) → k < 16 → get_or cs (p + k) 0 ≡ tag → q ≡ (p + k) % cap → IsRefused A R cs cap tag p → R q
  shown_refused q p k l t is h = subst R (sym is) (h k l t)

  -- the control of what is found
  pub own : (q n : ℕ) → Finds q n → get_or cs q 0 ≡ tag
  own q n a = let f = found_place A R cs hash cap tag q n some w long a in sym f.control ∙ a.found.tagged

  -- a search for the hash visits its place
  pub found_reaches : (q n : ℕ) → Finds q n → Reaches cs hash cap q
  unfolding reach
  found_reaches q n a =
      let f = found_place A R cs hash cap tag q n some w long a in
      let here : Among q (places_shown cap a.stride) =
      subst (λ (r : ℕ). Among r (places_shown cap a.stride)) (sym a.found.place_is) (shown_at cap a.stride (a.stride + a.found.lane) (omega arith) (omega (arith, a.found.within)) f.below) in
      subst (λ (ps : List ℕ). Among q (flat_map (places_shown cap) ps)) (sym a.strides_are)
      (among_flat_map (places_shown cap) a.stride q (a.prior ++ a.stride ∷ a.later) (among_right a.stride a.prior (a.stride ∷ a.later) (among_head a.stride a.stride a.later refl)) here)

  no_later : (q r m n : ℕ) → (a : Finds q m) → (b : Finds r n) → (A q → R q → ⊥) → m < n → ⊥
  no_later q r m n a b never l =
      let k : ℕ = length a.prior in
      let inner : k < length b.prior = omega (arith, a.count, b.count) in
      let same : get_or b.prior k 0 ≡ a.stride =
      sym (get_or_append_left b.prior (b.stride ∷ b.later) 0 k inner) ∙ ap (λ xs. get_or xs k 0) (sym b.strides_are ∙ a.strides_are) ∙ at_front a.prior a.later a.stride in
      never a.found.taken
      (shown_refused q a.stride a.found.lane a.found.within a.found.tagged a.found.place_is
      (subst (λ (p : ℕ). IsRefused A R cs cap tag p) same (b.refused_before k 0 inner)))

  same_stride : (q r n : ℕ) → (a : Finds q n) → (b : Finds r n) → a.stride ≡ b.stride
  same_stride q r n a b =
      let k : length a.prior ≡ length b.prior = omega (arith, a.count, b.count) in
      sym (at_front a.prior a.later a.stride) ∙ ap (λ xs. get_or xs (length a.prior) 0) (sym a.strides_are ∙ b.strides_are)
      ∙ ap (λ i. get_or (b.prior ++ b.stride ∷ b.later) i 0) k ∙ at_front b.prior b.later b.stride

  no_sooner : (q r n : ℕ) → (a : Finds q n) → (b : Finds r n) → (A q → R q → ⊥) → a.found.lane < b.found.lane → ⊥
  no_sooner q r n a b never l =
      let e = same_stride q r n a b in
      let control : get_or cs (b.stride + a.found.lane) 0 ≡ tag = ap (λ p. get_or cs (p + a.found.lane) 0) (sym e) ∙ a.found.tagged in
      never a.found.taken (subst R (ap (λ p. (p + a.found.lane) % cap) (sym e) ∙ sym a.found.place_is) (b.found.before a.found.lane l control))

  none_found : (q m n : ℕ) → (a : Finds q m) → IsAnswer A R cs cap tag (searched cs (strides hash cap)) None n → (A q → R q → ⊥) → ⊥
  none_found q m n a b never =
      let refused : IsRefused A R cs cap tag a.stride =
      All-middle (IsRefused A R cs cap tag) a.prior a.later a.stride (subst (λ (ps : List ℕ). All (IsRefused A R cs cap tag) ps) a.strides_are b.1) in
      never a.found.taken (shown_refused q a.stride a.found.lane a.found.within a.found.tagged a.found.place_is refused)

  -- there is one result
  module _ (never : (q : ℕ) → q < cap → get_or cs q 0 < 128 → A q → R q → ⊥) where
    not_both : (q n : ℕ) → (a : Finds q n) → A q → R q → ⊥
    not_both q n a = let f = found_place A R cs hash cap tag q n some w long a in never q f.low f.full

    same_count : (q r m n : ℕ) → Finds q m → Finds r n → m ≡ n
    same_count q r m n a b = elim (cases_lt m n) [
      | inl l ↦ absurd (no_later q r m n a b (not_both q m a) l)
      | inr g ↦ elim (cases_lt n m) [
        | inl l ↦ absurd (no_later r q n m b a (not_both r n b) l)
        | inr h ↦ omega arith
      ]
    ]

    same_place : (q r n : ℕ) → Finds q n → Finds r n → q ≡ r
    same_place q r n a b = elim (cases_lt a.found.lane b.found.lane) [
      | inl l ↦ absurd (no_sooner q r n a b (not_both q n a) l)
      | inr g ↦ elim (cases_lt b.found.lane a.found.lane) [
        | inl l ↦ absurd (no_sooner r q n b a (not_both r n b) l)
        | inr h ↦
            let lanes : a.found.lane ≡ b.found.lane = omega arith in
            a.found.place_is ∙ (λ i. (same_stride q r n a b i + lanes i) % cap) ∙ sym b.found.place_is
      ]
    ]

    pub one_answer : (q r : Option ℕ) (m n : ℕ) → IsAnswer A R cs cap tag (searched cs (strides hash cap)) q m → IsAnswer A R cs cap tag (searched cs (strides hash cap)) r n → (q ≡ r) × (m ≡ n)
    one_answer None None m n a b = (refl, a.0 ∙ sym b.0)
    one_answer None (Some r) m n a b = absurd (none_found r n m b a (not_both r n b))
    one_answer (Some q) None m n a b = absurd (none_found q m n a b (not_both q m a))
    one_answer (Some q) (Some r) m n a b =
        let e = same_count q r m n a b in
        (ap (λ x. Some x) (same_place q r m a (subst (λ (k : ℕ). Finds r k) (sym e) b)), e)

  -- the strides up to the first that shows what is found
  prefix_of : (q stride : ℕ) (prior later : List ℕ) → All (λ p. shows cap q p ≡ false) prior → shows cap q stride ≡ true
      → prefix_len (λ p. not (shows cap q p)) (prior ++ stride ∷ later) ≡ length prior
  prefix_of q stride [] later none here = ap (λ b. cond (not b) (1 + prefix_len (λ p. not (shows cap q p)) later) 0) here
  prefix_of q stride (p ∷ prior) later none here =
      let rest = prefix_of q stride prior later (All-tail (λ p. shows cap q p ≡ false) p prior none) here in
      ap (λ b. cond (not b) (1 + prefix_len (λ p. not (shows cap q p)) (prior ++ stride ∷ later)) 0) (All-head (λ p. shows cap q p ≡ false) p prior none) ∙ omega (arith, rest)

  not_shown : (q p : ℕ) → p + 16 ≤ length cs → get_or cs q 0 ≡ tag → (R q → ⊥) → IsRefused A R cs cap tag p → shows cap q p ≡ false
  not_shown q p room t never h = elim (cases_Bool (shows cap q p)) [
    | inr n ↦ n
    | inl y ↦
        let s = shown_of cap p 16 q y in
        let lane : s.0 < 16 = s.1 in
        let control = same_control cs cap (p + s.0) q w (omega arith) s.2 s.3 in
        absurd (never (shown_refused q p s.0 s.1 (control ∙ t) (sym s.3) h))
  ]

  pub counted_to : (q n : ℕ) → Finds q n → (A q → R q → ⊥) → n ≡ prefix_len (λ p. not (shows cap q p)) (searched cs (strides hash cap)) + 1
  counted_to q n a never =
      let P : ℕ → Type 0 = λ p. p + 16 ≤ length cs in
      let f = found_place A R cs hash cap tag q n some w long a in
      let room : All P (a.prior ++ a.stride ∷ a.later) = subst (λ (ps : List ℕ). All P ps) a.strides_are (All-searched P cs (strides hash cap) (strides_within cs hash cap long)) in
      let none : All (λ p. shows cap q p ≡ false) a.prior =
      All-from_get_or (λ p. shows cap q p ≡ false) a.prior 0
      (λ k l. not_shown q (get_or a.prior k 0) (All-front P a.prior (a.stride ∷ a.later) room k l) (own q n a) (never a.found.taken) (All-get_or (IsRefused A R cs cap tag) a.prior k 0 l a.refused_before)) in
      let here : shows cap q a.stride ≡ true =
      subst (λ (r : ℕ). shows cap r a.stride ≡ true) (sym a.found.place_is) (shown_at cap a.stride (a.stride + a.found.lane) (omega arith) (omega (arith, a.found.within)) f.below) in
      let count = ap (prefix_len (λ p. not (shows cap q p))) a.strides_are ∙ prefix_of q a.stride a.prior a.later none here in
      omega (arith, a.count, count)

-- ---- what is found in a written table is one of its items

found_item : (A R : ℕ → Type 0) (cs : List ℕ) (cap hash tag : ℕ) (hashes places : List ℕ) (q n : ℕ) → 0 < cap → Tags hashes → IsFirstFit cap [] hashes places → cs ≡ written_controls cap hashes places
    → IsFoundAmong A R cs cap tag (searched cs (strides hash cap)) q n → (i : ℕ) × (i < length hashes) × A (get_or places i 0)
found_item A R cs cap hash tag hashes places q n some tags fit is a =
    let w : Wraps cs cap = subst (λ (xs : List ℕ). Wraps xs cap) (sym is) (written_wraps cap hashes places) in
    let f = found_place A R cs hash cap tag q n some w (ap length is ∙ length-written cap hashes places) a in
    let even : length hashes ≡ length places = same_length cap [] hashes places fit in
    let full : is_free places q ≡ false =
    sym (ap is_empty (ap (λ xs. get_or xs q 0) is ∙ written_low cap hashes places q f.low) ∙ free_is_empty hashes places q even tags) ∙ lt-leb 128 (get_or cs q 0) f.full in
    let item = item_of places q full in
    (item.0, omega (arith, item.1, even), subst A (sym item.2) a.found.taken)

pub none_accepted : (A R : ℕ → Type 0) (cs : List ℕ) (cap hash tag : ℕ) (hashes places : List ℕ) (r : Option ℕ) (n : ℕ) → 0 < cap → Tags hashes → IsFirstFit cap [] hashes places → cs ≡ written_controls cap hashes places
    → IsAnswer A R cs cap tag (searched cs (strides hash cap)) r n → ((i : ℕ) → i < length hashes → A (get_or places i 0) → ⊥) → r ≡ None
none_accepted A R cs cap hash tag hashes places None n some tags fit is a none = refl
none_accepted A R cs cap hash tag hashes places (Some q) n some tags fit is a none =
    let i = found_item A R cs cap hash tag hashes places q n some tags fit is a in absurd (none i.0 i.1 i.2)
