-- The state after one more item is legal where the item is allowed there, and only there.
use Rattle.std.proofs.Common.{◌≡◌, ℕ, suc, ◌+◌, ◌<◌, ◌≤◌, ◌^◌, List, [], ◌∷◌, length, Option, Some, None, sym, ap, refl, arith, inl, inr, subst, IsUtf8}
use Rattle.std.specs.Prelude.{max}
use Rattle.std.proofs.lemmas.Bool.Decides.{eqb_tells}
use Rattle.cabinet_text_grammar.specs.Tree.{Tree, leaf, shared, nothing, just, list, map, whole, Trees, no_trees, more_trees, Pairs, no_pairs, more_pairs, count, pair_count, depth, most_depth, pairs_depth, IsLegal, AreLegal, ArePairs}
use Rattle.cabinet_text_grammar.specs.Wholes.{numbered, IsNumbered, AreNumbered, ArePairsNumbered, IsTable}
use Rattle.cabinet_text_grammar.specs.Keys.{MapKind, MayFollow}
use Rattle.cabinet_text_grammar.specs.Item.{Item, leaf_item, shared_item, none_item, some_item, list_item, map_item, key_item, whole_item, wholes_item, whole_head}
use Rattle.cabinet_text_grammar.specs.Frame.{Frame, in_option, in_list, at_key, at_value, keys_after, WantsNode, AreOpen}
use Rattle.cabinet_text_grammar.specs.Due.{a_head, due_in, AdmitsHead, Admits}
use Rattle.cabinet_text_grammar.specs.Machine.{State, going, complete, stuck, then_tree, then_pair, plug, plug_whole, step}
use Rattle.cabinet_text_grammar.proofs.Items.{count-then, pair_count-then}
use Rattle.cabinet_text_grammar.proofs.Tables.{below_numbered, has_numbered, legal_numbered}

pub max_within : (d a b m : ℕ) → d + a ≤ m → d + b ≤ m → d + max a b ≤ m
max_within d a b m p q = omega (arith, p, q)

pub max_left : (d a b m : ℕ) → d + max a b ≤ m → d + a ≤ m
max_left d a b m p = omega (arith, p)

pub max_right : (d a b m : ℕ) → d + max a b ≤ m → d + b ≤ m
max_right d a b m p = omega (arith, p)

-- a node that is allowed inside d containers
abbrev pub Fits : List Tree → ℕ → Tree → Type 0
Fits table d t = IsLegal t × (d + depth t ≤ 64) × IsNumbered table t

abbrev pub IsLegalState : List Tree → ℕ → State → Type 0
IsLegalState table around (going fs) = AreOpen table around fs
IsLegalState table around (complete t) = Fits table around t
IsLegalState table around stuck = ⊥

AreLegal-then : (ts : Trees) (t : Tree) → AreLegal ts → IsLegal t → AreLegal (then_tree ts t)
AreLegal-then no_trees t are is = (is, tt)
AreLegal-then (more_trees s ts) t are is = (are.0, AreLegal-then ts t are.1 is)

AreLegal-before : (ts : Trees) (t : Tree) → AreLegal (then_tree ts t) → AreLegal ts × IsLegal t
AreLegal-before no_trees t are = (tt, are.0)
AreLegal-before (more_trees s ts) t are =
    let b = AreLegal-before ts t are.1 in
    ((are.0, b.0), b.1)

ArePairs-then : (kind : MapKind) (keys : List (List ℕ)) (ps : Pairs) (k : List ℕ) (t : Tree) → ArePairs kind keys ps → IsUtf8 k × MayFollow kind (keys_after keys ps) k → IsLegal t → ArePairs kind keys (then_pair ps k t)
ArePairs-then kind keys no_pairs k t are key is = (key, (is, tt))
ArePairs-then kind keys (more_pairs l s ps) k t are key is = (are.0, (are.1.0, ArePairs-then kind (l ∷ keys) ps k t are.1.1 key is))

ArePairs-before : (kind : MapKind) (keys : List (List ℕ)) (ps : Pairs) (k : List ℕ) (t : Tree) → ArePairs kind keys (then_pair ps k t) → ArePairs kind keys ps × (IsUtf8 k × MayFollow kind (keys_after keys ps) k) × IsLegal t
ArePairs-before kind keys no_pairs k t are = (tt, are.0, are.1.0)
ArePairs-before kind keys (more_pairs l s ps) k t are =
    let b = ArePairs-before kind (l ∷ keys) ps k t are.1.1 in
    ((are.0, (are.1.0, b.0)), b.1, b.2)

most_depth-then : (ts : Trees) (t : Tree) → most_depth (then_tree ts t) ≡ max (most_depth ts) (depth t)
most_depth-then no_trees t = omega arith
most_depth-then (more_trees s ts) t = omega (arith, most_depth-then ts t)

pairs_depth-then : (ps : Pairs) (k : List ℕ) (t : Tree) → pairs_depth (then_pair ps k t) ≡ max (pairs_depth ps) (depth t)
pairs_depth-then no_pairs k t = omega arith
pairs_depth-then (more_pairs l s ps) k t = omega (arith, pairs_depth-then ps k t)

AreNumbered-then : (table : List Tree) (ts : Trees) (t : Tree) → AreNumbered table ts → IsNumbered table t → AreNumbered table (then_tree ts t)
AreNumbered-then table no_trees t are is = (is, tt)
AreNumbered-then table (more_trees s ts) t are is = (are.0, AreNumbered-then table ts t are.1 is)

AreNumbered-before : (table : List Tree) (ts : Trees) (t : Tree) → AreNumbered table (then_tree ts t) → AreNumbered table ts × IsNumbered table t
AreNumbered-before table no_trees t are = (tt, are.0)
AreNumbered-before table (more_trees s ts) t are =
    let b = AreNumbered-before table ts t are.1 in
    ((are.0, b.0), b.1)

PairsNumbered-then : (table : List Tree) (ps : Pairs) (k : List ℕ) (t : Tree) → ArePairsNumbered table ps → IsNumbered table t → ArePairsNumbered table (then_pair ps k t)
PairsNumbered-then table no_pairs k t are is = (is, tt)
PairsNumbered-then table (more_pairs l s ps) k t are is = (are.0, PairsNumbered-then table ps k t are.1 is)

PairsNumbered-before : (table : List Tree) (ps : Pairs) (k : List ℕ) (t : Tree) → ArePairsNumbered table (then_pair ps k t) → ArePairsNumbered table ps × IsNumbered table t
PairsNumbered-before table no_pairs k t are = (tt, are.0)
PairsNumbered-before table (more_pairs l s ps) k t are =
    let b = PairsNumbered-before table ps k t are.1 in
    ((are.0, b.0), b.1)

module _ (table : List Tree) (around : ℕ) where
  pub legal-plug : (t : Tree) (fs : List Frame) → AreOpen table around fs → WantsNode fs → Fits table (around + length fs) t → IsLegalState table around (plug t fs)
  legal-plug t [] are wants fits = (fits.0, omega (arith, fits.1), fits.2)
  legal-plug t (in_option ∷ outer) are wants fits = legal-plug (just t) outer are.2 are.1 (fits.0, omega (arith, fits.1), fits.2)
  legal-plug t (in_list n ts ∷ outer) are wants fits =
      let legal = AreLegal-then ts t are.0.2 fits.0 in
      let known = AreNumbered-then table ts t are.0.4 fits.2 in
      let fewer : count ts < n = are.0.1 in
      let deep : around + length outer + 1 + most_depth ts ≤ 64 = are.0.3 in
      let here : around + length outer + suc (depth t) ≤ 64 = omega (arith, fits.1) in
      let all : around + length outer + 1 + most_depth (then_tree ts t) ≤ 64 = omega (arith, deep, here, most_depth-then ts t) in
      elim (eqb_tells (count (then_tree ts t)) n) [
        | inl is ↦
            let below : count (then_tree ts t) < 2 ^ 64 = rw is.1 are.0.0 in
            rw is.0 (legal-plug (list (then_tree ts t)) outer are.2 are.1 ((legal, below), omega (arith, all), known))
        | inr differs ↦
            let still : count (then_tree ts t) < n = omega (arith, fewer, count-then ts t, differs.1) in
            rw differs.0 ((are.0.0, still, legal, all, known), are.1, are.2)
      ]
  legal-plug t (at_key kind n ps ∷ outer) are wants fits = absurd wants
  legal-plug t (at_value kind n ps k ∷ outer) are wants fits =
      let legal = ArePairs-then kind [] ps k t are.0.0.2 are.0.1 fits.0 in
      let known = PairsNumbered-then table ps k t are.0.0.4 fits.2 in
      let fewer : pair_count ps < n = are.0.0.1 in
      let deep : around + length outer + 1 + pairs_depth ps ≤ 64 = are.0.0.3 in
      let here : around + length outer + suc (depth t) ≤ 64 = omega (arith, fits.1) in
      let all : around + length outer + 1 + pairs_depth (then_pair ps k t) ≤ 64 = omega (arith, deep, here, pairs_depth-then ps k t) in
      elim (eqb_tells (pair_count (then_pair ps k t)) n) [
        | inl is ↦
            let below : pair_count (then_pair ps k t) < 2 ^ 64 = rw is.1 are.0.0.0 in
            rw is.0 (legal-plug (map kind (then_pair ps k t)) outer are.2 are.1 ((legal, below), omega (arith, all), known))
        | inr differs ↦
            let still : pair_count (then_pair ps k t) < n = omega (arith, fewer, pair_count-then ps k t, differs.1) in
            rw differs.0 ((are.0.0.0, still, legal, all, known), are.1, are.2)
      ]

  pub legal-before_plug : (t : Tree) (fs : List Frame) → IsLegalState table around (plug t fs) → AreOpen table around fs × WantsNode fs × Fits table (around + length fs) t
  legal-before_plug t [] is = (tt, tt, (is.0, omega (arith, is.1), is.2))
  legal-before_plug t (in_option ∷ outer) is =
      let b = legal-before_plug (just t) outer is in
      let deep : around + length outer + suc (depth t) ≤ 64 = b.2.1 in
      ((omega (arith, deep), b.1, b.0), tt, (b.2.0, omega (arith, deep), b.2.2))
  legal-before_plug t (in_list n ts ∷ outer) is =
      elim (eqb_tells (count (then_tree ts t)) n) [
        | inl full ↦
            let computed : plug t (in_list n ts ∷ outer) ≡ plug (list (then_tree ts t)) outer = rw full.0 refl in
            let b = legal-before_plug (list (then_tree ts t)) outer (subst (IsLegalState table around) computed is) in
            let legal = AreLegal-before ts t b.2.0.0 in
            let known = AreNumbered-before table ts t b.2.2 in
            let below : n < 2 ^ 64 = rw (← full.1) b.2.0.1 in
            let deep : around + length outer + suc (most_depth (then_tree ts t)) ≤ 64 = b.2.1 in (
              (
                (below, omega (arith, full.1, count-then ts t), legal.0, omega (arith, deep, most_depth-then ts t), known.0),
                b.1,
                b.0,
              ),
              tt,
              (legal.1, omega (arith, deep, most_depth-then ts t), known.1),
            )
        | inr differs ↦
            let computed : plug t (in_list n ts ∷ outer) ≡ going (in_list n (then_tree ts t) ∷ outer) = rw differs.0 refl in
            let b = subst (IsLegalState table around) computed is in
            let legal = AreLegal-before ts t b.0.2 in
            let known = AreNumbered-before table ts t b.0.4 in
            let fewer : count (then_tree ts t) < n = b.0.1 in
            let deep : around + length outer + 1 + most_depth (then_tree ts t) ≤ 64 = b.0.3 in (
              (
                (b.0.0, omega (arith, fewer, count-then ts t), legal.0, omega (arith, deep, most_depth-then ts t), known.0),
                b.1,
                b.2,
              ),
              tt,
              (legal.1, omega (arith, deep, most_depth-then ts t), known.1),
            )
      ]
  legal-before_plug t (at_key kind n ps ∷ outer) is = absurd is
  legal-before_plug t (at_value kind n ps k ∷ outer) is =
      elim (eqb_tells (pair_count (then_pair ps k t)) n) [
        | inl full ↦
            let computed : plug t (at_value kind n ps k ∷ outer) ≡ plug (map kind (then_pair ps k t)) outer = rw full.0 refl in
            let b = legal-before_plug (map kind (then_pair ps k t)) outer (subst (IsLegalState table around) computed is) in
            let legal = ArePairs-before kind [] ps k t b.2.0.0 in
            let known = PairsNumbered-before table ps k t b.2.2 in
            let below : n < 2 ^ 64 = rw (← full.1) b.2.0.1 in
            let deep : around + length outer + suc (pairs_depth (then_pair ps k t)) ≤ 64 = b.2.1 in (
              (
                ((below, omega (arith, full.1, pair_count-then ps k t), legal.0, omega (arith, deep, pairs_depth-then ps k t), known.0), legal.1),
                b.1,
                b.0,
              ),
              tt,
              (legal.2, omega (arith, deep, pairs_depth-then ps k t), known.1),
            )
        | inr differs ↦
            let computed : plug t (at_value kind n ps k ∷ outer) ≡ going (at_key kind n (then_pair ps k t) ∷ outer) = rw differs.0 refl in
            let b = subst (IsLegalState table around) computed is in
            let legal = ArePairs-before kind [] ps k t b.0.2 in
            let known = PairsNumbered-before table ps k t b.0.4 in
            let fewer : pair_count (then_pair ps k t) < n = b.0.1 in
            let deep : around + length outer + 1 + pairs_depth (then_pair ps k t) ≤ 64 = b.0.3 in (
              (
                ((b.0.0, omega (arith, fewer, pair_count-then ps k t), legal.0, omega (arith, deep, pairs_depth-then ps k t), known.0), legal.1),
                b.1,
                b.2,
              ),
              tt,
              (legal.2, omega (arith, deep, pairs_depth-then ps k t), known.1),
            )
      ]

  length_most : around ≤ 64 → (fs : List Frame) → AreOpen table around fs → around + length fs ≤ 64
  length_most low [] are = omega (arith, low)
  length_most low (in_option ∷ outer) are = omega (arith, are.0)
  length_most low (in_list n ts ∷ outer) are = omega (arith, are.0.3)
  length_most low (at_key kind n ps ∷ outer) are = omega (arith, are.0.3)
  length_most low (at_value kind n ps k ∷ outer) are = omega (arith, are.0.0.3)

  pub head_due : (fs : List Frame) → WantsNode fs → due_in table around fs ≡ a_head table (around + length fs)
  head_due [] wants = ap (a_head table) (omega arith)
  head_due (in_option ∷ outer) wants = ap (a_head table) (omega arith)
  head_due (in_list n ts ∷ outer) wants = ap (a_head table) (omega arith)
  head_due (at_key kind n ps ∷ outer) wants = absurd wants
  head_due (at_value kind n ps k ∷ outer) wants = ap (a_head table) (omega arith)

  step-head : around ≤ 64 → IsTable table → (fs : List Frame) (i : Item) → AreOpen table around fs → WantsNode fs → AdmitsHead table (around + length fs) i → IsLegalState table around (step table fs i)
  step-head low known fs (leaf_item l) are wants p = legal-plug (leaf l) fs are wants (p, omega (arith, length_most low fs are), tt)
  step-head low known fs (shared_item t) are wants p = legal-plug (shared t) fs are wants (p, omega (arith, length_most low fs are), tt)
  step-head low known fs none_item are wants p = legal-plug nothing fs are wants (tt, omega (arith, p), tt)
  step-head low known fs some_item are wants p = (omega (arith, p), wants, are)
  step-head low known fs (list_item n) are wants p =
      let room : around + length fs < 64 = p.1 in
      elim (eqb_tells 0 n) [
        | inl is ↦ rw is.0 (legal-plug (list no_trees) fs are wants ((tt, omega arith), omega (arith, room), tt))
        | inr differs ↦ rw differs.0 ((p.0, omega (arith, differs.1), tt, omega (arith, room), tt), wants, are)
      ]
  step-head low known fs (map_item kind n) are wants p =
      let room : around + length fs < 64 = p.1 in
      elim (eqb_tells 0 n) [
        | inl is ↦ rw is.0 (legal-plug (map kind no_pairs) fs are wants ((tt, omega arith), omega (arith, room), tt))
        | inr differs ↦ rw differs.0 ((p.0, omega (arith, differs.1), tt, omega (arith, room), tt), wants, are)
      ]
  step-head low known fs (key_item k) are wants p = absurd p
  step-head low known fs (whole_item n) are wants p =
      let t = p.1.0 in
      rw p.1.1 (legal-plug (whole t) fs are wants (legal_numbered table n t known p.1.1, omega (arith, p.1.2), has_numbered table n t p.1.1))
  step-head low known fs (wholes_item n) are wants p = absurd p
  step-head low known fs whole_head are wants p = absurd p

  -- an item that is allowed next leads to a legal state
  pub legal-step : around ≤ 64 → IsTable table → (fs : List Frame) (i : Item) → AreOpen table around fs → Admits (due_in table around fs) i → IsLegalState table around (step table fs i)
  legal-step low known [] i are p = step-head low known [] i are tt (subst (λ d. Admits d i) (head_due [] tt) p)
  legal-step low known (in_option ∷ outer) i are p = step-head low known (in_option ∷ outer) i are tt (subst (λ d. Admits d i) (head_due (in_option ∷ outer) tt) p)
  legal-step low known (in_list n ts ∷ outer) i are p = step-head low known (in_list n ts ∷ outer) i are tt (subst (λ d. Admits d i) (head_due (in_list n ts ∷ outer) tt) p)
  legal-step low known (at_value kind n ps k ∷ outer) i are p = step-head low known (at_value kind n ps k ∷ outer) i are tt (subst (λ d. Admits d i) (head_due (at_value kind n ps k ∷ outer) tt) p)
  legal-step low known (at_key kind n ps ∷ outer) (key_item k) are p = ((are.0, p), are.1, are.2)
  legal-step low known (at_key kind n ps ∷ outer) (leaf_item l) are p = absurd p
  legal-step low known (at_key kind n ps ∷ outer) (shared_item t) are p = absurd p
  legal-step low known (at_key kind n ps ∷ outer) none_item are p = absurd p
  legal-step low known (at_key kind n ps ∷ outer) some_item are p = absurd p
  legal-step low known (at_key kind n ps ∷ outer) (list_item m) are p = absurd p
  legal-step low known (at_key kind n ps ∷ outer) (map_item k m) are p = absurd p
  legal-step low known (at_key kind n ps ∷ outer) (whole_item m) are p = absurd p
  legal-step low known (at_key kind n ps ∷ outer) (wholes_item m) are p = absurd p
  legal-step low known (at_key kind n ps ∷ outer) whole_head are p = absurd p

  admits_head : (fs : List Frame) (i : Item) → WantsNode fs → AdmitsHead table (around + length fs) i → Admits (due_in table around fs) i
  admits_head fs i wants p = subst (λ d. Admits d i) (sym (head_due fs wants)) p

  -- and only such an item does
  pub legal-before_step : length table < 2 ^ 64 → (fs : List Frame) (i : Item) → IsLegalState table around (step table fs i) → AreOpen table around fs × Admits (due_in table around fs) i
  legal-before_step few fs (leaf_item l) is =
      let b = legal-before_plug (leaf l) fs is in
      (b.0, admits_head fs (leaf_item l) b.1 b.2.0)
  legal-before_step few fs (shared_item t) is =
      let b = legal-before_plug (shared t) fs is in
      (b.0, admits_head fs (shared_item t) b.1 b.2.0)
  legal-before_step few fs none_item is =
      let b = legal-before_plug nothing fs is in
      let deep : around + length fs + 1 ≤ 64 = b.2.1 in
      (b.0, admits_head fs none_item b.1 (omega (arith, deep)))
  legal-before_step few fs some_item is = (is.2, admits_head fs some_item is.1 (omega (arith, is.0)))
  legal-before_step few fs (list_item n) is =
      elim (eqb_tells 0 n) [
        | inl zero ↦
            let computed : step table fs (list_item n) ≡ plug (list no_trees) fs = rw zero.0 refl in
            let b = legal-before_plug (list no_trees) fs (subst (IsLegalState table around) computed is) in
            let deep : around + length fs + 1 ≤ 64 = b.2.1 in
            let below : n < 2 ^ 64 = rw (← zero.1) b.2.0.1 in
            (b.0, admits_head fs (list_item n) b.1 (below, omega (arith, deep)))
        | inr differs ↦
            let computed : step table fs (list_item n) ≡ going (in_list n no_trees ∷ fs) = rw differs.0 refl in
            let b = subst (IsLegalState table around) computed is in
            let deep : around + length fs + 1 + 0 ≤ 64 = b.0.3 in
            (b.2, admits_head fs (list_item n) b.1 (b.0.0, omega (arith, deep)))
      ]
  legal-before_step few fs (map_item kind n) is =
      elim (eqb_tells 0 n) [
        | inl zero ↦
            let computed : step table fs (map_item kind n) ≡ plug (map kind no_pairs) fs = rw zero.0 refl in
            let b = legal-before_plug (map kind no_pairs) fs (subst (IsLegalState table around) computed is) in
            let deep : around + length fs + 1 ≤ 64 = b.2.1 in
            let below : n < 2 ^ 64 = rw (← zero.1) b.2.0.1 in
            (b.0, admits_head fs (map_item kind n) b.1 (below, omega (arith, deep)))
        | inr differs ↦
            let computed : step table fs (map_item kind n) ≡ going (at_key kind n no_pairs ∷ fs) = rw differs.0 refl in
            let b = subst (IsLegalState table around) computed is in
            let deep : around + length fs + 1 + 0 ≤ 64 = b.0.3 in
            (b.2, admits_head fs (map_item kind n) b.1 (b.0.0, omega (arith, deep)))
      ]
  legal-before_step few [] (key_item k) is = absurd is
  legal-before_step few (in_option ∷ outer) (key_item k) is = absurd is
  legal-before_step few (in_list n ts ∷ outer) (key_item k) is = absurd is
  legal-before_step few (at_value kind n ps l ∷ outer) (key_item k) is = absurd is
  legal-before_step few (at_key kind n ps ∷ outer) (key_item k) is = ((is.0.0, is.1, is.2), is.0.1)
  legal-before_step few fs (whole_item n) is =
      at (numbered table n) refl is
    where
      at : (found : Option Tree) → numbered table n ≡ found → IsLegalState table around (plug_whole fs found) → AreOpen table around fs × Admits (due_in table around fs) (whole_item n)
      at None h v = absurd v
      at (Some t) h v =
          let b = legal-before_plug (whole t) fs v in
          let deep : around + length fs + suc (depth t) ≤ 64 = b.2.1 in
          (b.0, admits_head fs (whole_item n) b.1 (omega (arith, few, below_numbered table n t h), (t, h, omega (arith, deep))))
  legal-before_step few fs (wholes_item n) is = absurd is
  legal-before_step few fs whole_head is = absurd is
