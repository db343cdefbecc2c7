-- A table's controls, as the layout tests them: those from the capacity on repeat those before, and the rest are empty.
use Rattle.std.proofs.Common.{◌≡◌, ℕ, zero, suc, ◌+◌, ◌-◌, ◌*◌, ◌<◌, Bool, true, false, cond, ◌&&◌, ◌||◌, List, [], ◌∷◌, length, get_or, eqb, ltb, leb, refl, sym, ap, subst, ◌∙◌, arith, true≢false, eqb-true, eq-eqb, leb-true, le-leb, lt-ltb, le-ltb, inl, inr, ◌≤◌}
use Rattle.std.proofs.lemmas.Bool.{cases_lt}
use Rattle.archive_shape_layout.specs.Content.{control_count, wraps}
use Rattle.archive_shape_layout.specs.Bytes.{align_up}
use Rattle.archive_shape_canonical.specs.Strides.{sixteens}
use Rattle.archive_hash_probing.specs.Controls.{AreControls}
use Rattle.archive_hash_probing.proofs.Computed.{left_true, right_true}

pub record Wraps (controls : List ℕ) (cap : ℕ) : Type 0 where
  pub repeated : (c : ℕ) → cap ≤ c → c < 2 * cap → c < length controls → get_or controls c 0 ≡ get_or controls (c - cap) 0
  pub behind : (c : ℕ) → 2 * cap ≤ c → c < length controls → 128 ≤ get_or controls c 0

-- ---- from the test

wraps_at : (cap : ℕ) (cs : List ℕ) (i : ℕ) (xs : List ℕ) → wraps cap cs i xs ≡ true → (k : ℕ) → k < length xs
    → (ltb (i + k) cap || cond (ltb (i + k) (2 * cap)) (eqb (get_or xs k 0) (get_or cs (i + k - cap) 0)) (leb 128 (get_or xs k 0))) ≡ true
unfolding wraps
wraps_at cap cs i [] h k l = absurd (omega arith)
wraps_at cap cs i (x ∷ xs) h zero l =
    let e : i ≡ i + 0 = omega arith in
    subst (λ (j : ℕ). (ltb j cap || cond (ltb j (2 * cap)) (eqb x (get_or cs (j - cap) 0)) (leb 128 x)) ≡ true) e (left_true _ (wraps cap cs (i + 1) xs) h)
wraps_at cap cs i (x ∷ xs) h (suc k) l =
    let e : i + 1 + k ≡ i + suc k = omega arith in
    subst (λ (j : ℕ). (ltb j cap || cond (ltb j (2 * cap)) (eqb (get_or xs k 0) (get_or cs (j - cap) 0)) (leb 128 (get_or xs k 0))) ≡ true) e
    (wraps_at cap cs (i + 1) xs (right_true (ltb i cap || cond (ltb i (2 * cap)) (eqb x (get_or cs (i - cap) 0)) (leb 128 x)) (wraps cap cs (i + 1) xs) h) k (omega arith))

Wraps-from_wraps : (cap : ℕ) (cs : List ℕ) → wraps cap cs 0 cs ≡ true → Wraps cs cap
Wraps-from_wraps cap cs h = record {
  repeated = λ c low high l.
      let z : 0 + c ≡ c = omega arith in
      let t = subst (λ (j : ℕ). (ltb j cap || cond (ltb j (2 * cap)) (eqb (get_or cs c 0) (get_or cs (j - cap) 0)) (leb 128 (get_or cs c 0))) ≡ true) z (wraps_at cap cs 0 cs h c l) in
      eqb-true _ _ (sym (ap (λ b. b || cond (ltb c (2 * cap)) (eqb (get_or cs c 0) (get_or cs (c - cap) 0)) (leb 128 (get_or cs c 0))) (le-ltb c cap low)
      ∙ ap (λ b. cond b (eqb (get_or cs c 0) (get_or cs (c - cap) 0)) (leb 128 (get_or cs c 0))) (lt-ltb c (2 * cap) high)) ∙ t);
  behind = λ c high l.
      let z : 0 + c ≡ c = omega arith in
      let t = subst (λ (j : ℕ). (ltb j cap || cond (ltb j (2 * cap)) (eqb (get_or cs c 0) (get_or cs (j - cap) 0)) (leb 128 (get_or cs c 0))) ≡ true) z (wraps_at cap cs 0 cs h c l) in
      leb-true 128 (get_or cs c 0) (sym (ap (λ b. b || cond (ltb c (2 * cap)) (eqb (get_or cs c 0) (get_or cs (c - cap) 0)) (leb 128 (get_or cs c 0))) (le-ltb c cap (omega arith))
      ∙ ap (λ b. cond b (eqb (get_or cs c 0) (get_or cs (c - cap) 0)) (leb 128 (get_or cs c 0))) (le-ltb c (2 * cap) high)) ∙ t);
}

pub count_is : (cap : ℕ) → control_count cap ≡ 16 * sixteens cap + 15
unfolding control_count align_up
count_is cap = omega arith

pub wraps_of : (cs : List ℕ) (cap : ℕ) → AreControls cs cap → Wraps cs cap
wraps_of cs cap h = Wraps-from_wraps cap cs h.repeated

pub count_of : (cs : List ℕ) (cap : ℕ) → AreControls cs cap → length cs ≡ 16 * sixteens cap + 15
count_of cs cap h = h.count ∙ count_is cap

-- ---- to the test

one_wraps : (cap : ℕ) (cs : List ℕ) (c : ℕ) → Wraps cs cap → c < length cs
    → (ltb c cap || cond (ltb c (2 * cap)) (eqb (get_or cs c 0) (get_or cs (c - cap) 0)) (leb 128 (get_or cs c 0))) ≡ true
one_wraps cap cs c w l = elim (cases_lt c cap) [
  | inl low ↦ ap (λ b. b || cond (ltb c (2 * cap)) (eqb (get_or cs c 0) (get_or cs (c - cap) 0)) (leb 128 (get_or cs c 0))) (lt-ltb c cap low)
  | inr high ↦
      ap (λ b. b || cond (ltb c (2 * cap)) (eqb (get_or cs c 0) (get_or cs (c - cap) 0)) (leb 128 (get_or cs c 0))) (le-ltb c cap high)
      ∙ elim (cases_lt c (2 * cap)) [
        | inl below ↦ ap (λ b. cond b (eqb (get_or cs c 0) (get_or cs (c - cap) 0)) (leb 128 (get_or cs c 0))) (lt-ltb c (2 * cap) below) ∙ eq-eqb _ _ (w.repeated c high below l)
        | inr past ↦ ap (λ b. cond b (eqb (get_or cs c 0) (get_or cs (c - cap) 0)) (leb 128 (get_or cs c 0))) (le-ltb c (2 * cap) past) ∙ le-leb _ _ (w.behind c past l)
      ]
]

all_wrap : (cap : ℕ) (cs : List ℕ) (i : ℕ) (xs : List ℕ) → Wraps cs cap → i + length xs ≡ length cs → ((k : ℕ) → k < length xs → get_or xs k 0 ≡ get_or cs (i + k) 0)
    → wraps cap cs i xs ≡ true
unfolding wraps
all_wrap cap cs i [] w long same = refl
all_wrap cap cs i (x ∷ xs) w long same =
    let here : x ≡ get_or cs i 0 = same 0 (omega arith) ∙ ap (λ j. get_or cs j 0) {x = i + 0} {y = i} (omega arith) in
    let rest : wraps cap cs (i + 1) xs ≡ true =
    all_wrap cap cs (i + 1) xs w (omega arith) (λ k l. same (suc k) (omega arith) ∙ ap (λ j. get_or cs j 0) {x = i + suc k} {y = i + 1 + k} (omega arith)) in
    ap (λ y. (ltb i cap || cond (ltb i (2 * cap)) (eqb y (get_or cs (i - cap) 0)) (leb 128 y)) && wraps cap cs (i + 1) xs) here
    ∙ (λ j. one_wraps cap cs i w (omega arith) j && rest j)

pub are_controls : (cs : List ℕ) (cap : ℕ) → Wraps cs cap → length cs ≡ 16 * sixteens cap + 15 → AreControls cs cap
are_controls cs cap w long = record {
  count = long ∙ sym (count_is cap);
  repeated = all_wrap cap cs 0 cs w (omega arith) (λ k l. ap (λ j. get_or cs j 0) {x = k} {y = 0 + k} (omega arith));
}
