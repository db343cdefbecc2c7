-- The marks of a stride, taken from the lowest on.
use Rattle.std.proofs.Common.{◌≡◌, ℕ, ◌+◌, ◌*◌, ◌%◌, ◌<◌, ◌≤◌, Bool, true, false, not, ◌⊎◌, List, length, get_or, take, drop, sym, ap, subst, ◌∙◌, arith, inl, inr, true≢false, Some, None, position}
use Rattle.std.proofs.lemmas.Bool.{cases_lt, cases_eq}
use Rattle.std.proofs.lemmas.List.{get_or_past}
use Rattle.std.proofs.lemmas.Simd.{get_or-chunk}
use Rattle.std.specs.List.{prefix_len}
use lib.Lanes.{mask_l}
use Rattle.archive_hash_probing.specs.Marks.{without_first}
use Rattle.archive_hash_probing.specs.Scanning.{IsMatch}
use Rattle.archive_hash_probing.specs.Search.{IsFoundIn, IsRefused}
use Rattle.archive_hash_probing.proofs.Wrapping.{Wraps}
use Rattle.archive_hash_probing.proofs.LaneLemmas.{lowest_at, none_at}
use Rattle.archive_hash_probing.proofs.MarkLemmas.{short}
use Rattle.archive_hash_probing.proofs.Lowest.{lowest_marked, below_unmarked, still_marked, other_marked, length-without_first, fewer_marked}
use Rattle.archive_hash_probing.proofs.PlaceLemmas.{wrapped_low, wrapped_high}
use Rattle.archive_hash_probing.proofs.StrideLemmas.{length-window}

-- each item with the tag is still marked, or was refused
pub record Pending (refused : ℕ → Type 0) (cs : List ℕ) (cap tag p : ℕ) (marks : List Bool) (bits : ℕ) : Type 0 where
  pub long : length marks ≡ 16
  pub same : bits ≡ mask_l marks
  pub full : (k : ℕ) → get_or marks k false ≡ true → get_or cs (p + k) 0 < 128
  pub waiting : (k : ℕ) → k < 16 → get_or cs (p + k) 0 ≡ tag → (get_or marks k false ≡ true) ⊎ refused ((p + k) % cap)

marked_within : (marks : List Bool) (k : ℕ) → length marks ≡ 16 → get_or marks k false ≡ true → k < 16
marked_within marks k long e = elim (cases_lt k 16) [ inl l ↦ l | inr g ↦ absurd (true≢false (sym e ∙ get_or_past marks k false (omega arith))) ]

pub pending_first : (refused : ℕ → Type 0) (cs : List ℕ) (cap tag p : ℕ) (marks : List Bool) (bits : ℕ) → p + 16 ≤ length cs → bits ≡ mask_l marks → IsMatch tag (take 16 (drop p cs)) marks → Pending refused cs cap tag p marks bits
pending_first refused cs cap tag p marks bits room e m =
    let wide : length (take 16 (drop p cs)) ≡ 16 = length-window cs p 16 room in
    let long : length marks ≡ 16 = m.count ∙ wide in
    record {
      long = long;
      same = e;
      full = λ k h. omega (arith, get_or-chunk p 16 cs k 0 (marked_within marks k long h), m.full k h);
      waiting = λ k l h. inl (m.all k (omega arith) (get_or-chunk p 16 cs k 0 l ∙ h));
    }

module _ (refused : ℕ → Type 0) (cs : List ℕ) (cap tag p : ℕ) (marks : List Bool) (bits : ℕ) (h : Pending refused cs cap tag p marks bits) where
  pub few_marks : length marks ≤ 64
  few_marks = omega (arith, h.long)

  -- the lowest mark
  module _ (lane : ℕ) (e : Some lane ≡ position (λ mark. mark) marks) where
    pub lane_within : lane < 16
    lane_within = let m = lowest_at marks lane e in omega (arith, m.1, short marks m.0, h.long)

    pub lane_full : get_or cs (p + lane) 0 < 128
    lane_full = let m = lowest_at marks lane e in h.full lane (ap (λ k. get_or marks k false) m.1 ∙ lowest_marked marks m.0)

    pub fewer_left : (others : ℕ) → others ≡ mask_l (without_first marks) → others < bits
    fewer_left others is = let m = lowest_at marks lane e in omega (arith, is, h.same, fewer_marked marks m.0)

    pub pending_next : (others : ℕ) → (get_or cs (p + lane) 0 ≡ tag → refused ((p + lane) % cap)) → others ≡ mask_l (without_first marks) → Pending refused cs cap tag p (without_first marks) others
    pending_next others turned is = record {
      long = length-without_first marks ∙ h.long;
      same = is;
      full = λ k m. h.full k (still_marked marks k m);
      waiting = λ k l t. elim (h.waiting k l t) [
        | inl m ↦ elim (cases_eq k (prefix_len not marks)) [
          | inl s ↦ inr (let low = lowest_at marks lane e in let same : lane ≡ k = low.1 ∙ sym s in subst (λ j. refused ((p + j) % cap)) same (turned (ap (λ j. get_or cs (p + j) 0) same ∙ t)))
          | inr n ↦ inl (other_marked marks k m n)
        ]
        | inr r ↦ inr r
      ];
    }

    pub pending_found : (accepted : ℕ → Type 0) (place : ℕ) → place ≡ (p + lane) % cap → get_or cs (p + lane) 0 ≡ tag → accepted place → IsFoundIn accepted refused cs cap tag p place
    pending_found accepted place is same_tag took = record {
      lane = lane;
      within = lane_within;
      place_is = is;
      full = lane_full;
      tagged = same_tag;
      taken = took;
      before = λ k l t. elim (h.waiting k (omega (arith, lane_within)) t) [
        | inl m ↦ let low = lowest_at marks lane e in absurd (true≢false (sym m ∙ below_unmarked marks k (omega (arith, low.1))))
        | inr r ↦ r
      ];
    }

  pub pending_none : (accepted : ℕ → Type 0) → None ≡ position (λ mark. mark) marks → IsRefused accepted refused cs cap tag p
  pending_none accepted none k l t = elim (h.waiting k l t) [
    | inl m ↦ absurd (true≢false (sym m ∙ none_at marks (sym none) k))
    | inr r ↦ r
  ]

-- the place of a full control
pub full_below : (cs : List ℕ) (cap c : ℕ) → Wraps cs cap → c < length cs → get_or cs c 0 < 128 → c < 2 * cap
full_below cs cap c w l f = elim (cases_lt c (2 * cap)) [ inl h ↦ h | inr g ↦ absurd (omega (arith, w.behind c g l)) ]

pub place_of : (cs : List ℕ) (cap c place : ℕ) → Wraps cs cap → c < length cs → c < 2 * cap → place ≡ c % cap → get_or cs place 0 ≡ get_or cs c 0
place_of cs cap c place w l b e =
    elim (cases_lt c cap) [
      | inl h ↦ ap (λ x. get_or cs x 0) (e ∙ sym (wrapped_low c cap h))
      | inr h ↦ ap (λ x. get_or cs x 0) (e ∙ sym (wrapped_high c cap h b)) ∙ sym (w.repeated c h b l)
    ]
