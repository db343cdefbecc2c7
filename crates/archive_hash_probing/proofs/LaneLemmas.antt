-- The marked lanes of a mask, by its marks.
use Rattle.std.proofs.Common.{◌≡◌, ℕ, zero, suc, ◌+◌, ◌*◌, ◌/◌, ◌%◌, ◌^◌, ◌<◌, ◌≤◌, ◌==◌, Bool, true, false, cond, not, List, [], ◌∷◌, length, refl, sym, ap, ◌∙◌, arith, inl, inr, position, Some, None, lt-ltb, get_or}
use Rattle.std.specs.Option.{unwrap_or}
use Rattle.std.proofs.lemmas.Bool.{cases_lt}
use Rattle.std.proofs.lemmas.List.{get_or_past}
use Rattle.std.specs.List.{prefix_len}
use lib.Lanes.{mask_l}
use native.Mathlib.Nat.{pow-suc}
use Rattle.archive_hash_probing.specs.Marks.{without_first, lanes_from, lanes_marked}
use Rattle.archive_hash_probing.proofs.MarkLemmas.{short, none_is}
use Rattle.archive_hash_probing.proofs.Lowest.{below_unmarked}

-- every word is a mask
pub marks_of : (n bits : ℕ) → bits < 2 ^ n → (marks : List Bool) × (length marks ≤ n) × (bits ≡ mask_l marks)
marks_of zero bits low = ([], omega arith, omega arith)
marks_of (suc n) bits low =
    let rest = marks_of n (bits / 2) (omega (arith, pow-suc 2 n)) in
    ((bits % 2 == 1) ∷ rest.0, omega (arith, rest.1), omega (arith, rest.2, low_bit (bits % 2) (omega arith)))
  where
    low_bit : (x : ℕ) → x < 2 → cond (x == 1) 1 0 ≡ x
    low_bit zero l = refl
    low_bit (suc zero) l = refl
    low_bit (suc (suc x)) l = absurd (omega arith)

set_lane : (n i rest : ℕ) → lanes_from (suc n) i (1 + 2 * rest) ≡ i ∷ lanes_from n (i + 1) rest
set_lane n i rest =
    let low : (1 + 2 * rest) % 2 ≡ 1 = omega arith in
    let high : (1 + 2 * rest) / 2 ≡ rest = omega arith in
    (λ k. cond (low k == 1) (i ∷ lanes_from n (i + 1) (high k)) (lanes_from n (i + 1) (high k)))

clear_lane : (n i rest : ℕ) → lanes_from (suc n) i (0 + 2 * rest) ≡ lanes_from n (i + 1) rest
clear_lane n i rest =
    let low : (0 + 2 * rest) % 2 ≡ 0 = omega arith in
    let high : (0 + 2 * rest) / 2 ≡ rest = omega arith in
    (λ k. cond (low k == 1) (i ∷ lanes_from n (i + 1) (high k)) (lanes_from n (i + 1) (high k)))

no_lane : (n i : ℕ) → lanes_from n i 0 ≡ []
no_lane zero i = refl
no_lane (suc n) i = no_lane n (i + 1)

first_lane : (marks : List Bool) (n i : ℕ) → length marks ≤ n → 0 < mask_l marks
    → lanes_from n i (mask_l marks) ≡ (i + prefix_len not marks) ∷ lanes_from n i (mask_l (without_first marks))
first_lane [] n i fits some = absurd (omega arith)
first_lane (mark ∷ marks) zero i fits some = absurd (omega arith)
first_lane (true ∷ marks) (suc n) i fits some =
    set_lane n i (mask_l marks) ∙ (λ k. same k ∷ sym (clear_lane n i (mask_l marks)) k)
  where
    same : i ≡ i + 0
    same = omega arith
first_lane (false ∷ marks) (suc n) i fits some =
    clear_lane n i (mask_l marks)
    ∙ first_lane marks n (i + 1) (omega arith) (omega arith)
    ∙ (λ k. same k ∷ sym (clear_lane n i (mask_l (without_first marks))) k)
  where
    same : i + 1 + prefix_len not marks ≡ i + (1 + prefix_len not marks)
    same = omega arith

-- ---- by the lowest and the others

pub lowest_at : (marks : List Bool) (lane : ℕ) → Some lane ≡ position (λ mark. mark) marks → (0 < mask_l marks) × (lane ≡ prefix_len not marks)
lowest_at marks lane e = elim (cases_lt 0 (mask_l marks)) [
  | inl some ↦
      let at : position (λ mark. mark) marks ≡ Some (prefix_len not marks) =
      ap (λ b. cond b (Some (prefix_len not marks)) None) (lt-ltb (prefix_len not marks) (length marks) (short marks some)) in
      (some, ap (λ found. unwrap_or found 0) (e ∙ at))
  | inr none ↦ absurd (differ lane (e ∙ none_is marks (omega arith)))
]
  where
    differ : (n : ℕ) → Some n ≡ None → ⊥
    differ n s = cc

pub none_at : (marks : List Bool) → position (λ mark. mark) marks ≡ None → (k : ℕ) → get_or marks k false ≡ false
none_at marks e k = elim (cases_lt (prefix_len not marks) (length marks)) [
  | inl some ↦ absurd (differ (prefix_len not marks) (sym (ap (λ b. cond b (Some (prefix_len not marks)) None) (lt-ltb (prefix_len not marks) (length marks) some)) ∙ e))
  | inr past ↦ elim (cases_lt k (prefix_len not marks)) [
    | inl below ↦ below_unmarked marks k below
    | inr above ↦ get_or_past marks k false (omega arith)
  ]
]
  where
    differ : (n : ℕ) → Some n ≡ None → ⊥
    differ n s = cc

pub next_lane : (bits lane others : ℕ) → bits < 2 ^ 64
    → ((marks : List Bool) → length marks ≤ 64 → bits ≡ mask_l marks → Some lane ≡ position (λ mark. mark) marks)
    → ((marks : List Bool) → bits ≡ mask_l marks → others ≡ mask_l (without_first marks))
    → lanes_marked bits ≡ lane ∷ lanes_marked others
unfolding lanes_marked
next_lane bits lane others fits lowest removed =
    let m = marks_of 64 bits fits in
    let at = lowest_at m.0 lane (lowest m.0 m.1 m.2) in
    ap (lanes_from 64 0) m.2 ∙ first_lane m.0 64 0 m.1 at.0
    ∙ (λ k. first at.1 k ∷ lanes_from 64 0 (sym (removed m.0 m.2) k))
  where
    first : {n : ℕ} → lane ≡ n → 0 + n ≡ lane
    first e = omega (arith, e)

pub last_lane : (bits : ℕ) → bits < 2 ^ 64
    → ((marks : List Bool) → length marks ≤ 64 → bits ≡ mask_l marks → None ≡ position (λ mark. mark) marks)
    → lanes_marked bits ≡ []
unfolding lanes_marked
last_lane bits fits lowest = elim (cases_lt 0 bits) [
  | inl some ↦
      let m = marks_of 64 bits fits in
      let marked : 0 < mask_l m.0 = omega (arith, m.2, some) in
      absurd (differ (prefix_len not m.0) (sym (ap (λ b. cond b (Some (prefix_len not m.0)) None) (lt-ltb (prefix_len not m.0) (length m.0) (short m.0 marked))) ∙ sym (lowest m.0 m.1 m.2)))
  | inr none ↦ let z : bits ≡ 0 = omega arith in ap (lanes_from 64 0) z ∙ no_lane 64 0
]
  where
    differ : (n : ℕ) → Some n ≡ None → ⊥
    differ n s = cc
