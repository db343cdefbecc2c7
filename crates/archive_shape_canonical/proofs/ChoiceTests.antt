-- Whether what the layout leaves open is settled, whether regions ascend and whether shared values differ, as tests
-- that give evidence.
use Rattle.std.proofs.Common.{◌≡◌, ℕ, zero, suc, ◌+◌, ◌-◌, ◌%◌, ◌≤◌, ◌<◌, Bool, true, false, ◌==◌, ◌&&◌, nat_lt, List, [], ◌∷◌, drop, get_or, slice_index, Option, Some, None, refl, ap, sym, subst, ◌∙◌, arith, ◌⊎◌, inl, inr, ⊎_elim, eqb-true, ltb-true, get_or-drop}
use Rattle.std.proofs.lemmas.Str.{IsUtf8-from_is_utf8}
use Rattle.archive_shape_layout.specs.Shape.{Pointee}
use Rattle.archive_shape_layout.specs.Value.{Value, Values, count_values}
use Rattle.archive_shape_layout.specs.Value.Value.{group}
use Rattle.archive_shape_layout.specs.Value.Values.{no_values, more_values}
use Rattle.archive_shape_layout.specs.Content.{Part, Label, IsLegal, members, weave, first_values, other_values}
use Rattle.archive_shape_layout.specs.Content.Part.{at, behind, node, child, entry, buckets, place_at}
use Rattle.archive_shape_layout.specs.Content.Label.{leaf, written, same, second, whole, tagged, woven, total}
use Rattle.archive_shape_layout.specs.Holds.{Region, Visit, Follows, Ascends}
use Rattle.archive_shape_layout.proofs.SameShape.{same_pointee, pointee_is, pointee_itself, both_left, both_right, both}
use Rattle.archive_shape_layout.proofs.Evaluate.{legal, same_visit}
use Rattle.archive_shape_canonical.specs.Packed.{child_items, ArePacked, IsPacked}
use Rattle.archive_shape_canonical.specs.Seen.{seen_bytes, seen_values}
use Rattle.archive_shape_canonical.specs.Sharing.{erased, all_erased, Differ, AllDiffer, AreDistinct}
use Rattle.archive_shape_canonical.specs.Settled.{Fit, naturals, IsFilledSo, IsAsked, IsFitted, HasItems, LeadsSettled, SeenSettled, IsSettled}
use Rattle.archive_shape_canonical.specs.Canonical.{InRegions}
use Rattle.archive_shape_canonical.proofs.SameValue.{same_numbers, numbers_are, same_value, value_is, value_itself, same_values, values_are}
use Rattle.archive_shape_canonical.proofs.CleanTests.{tested, turned, carried, joint, number_test, most_test, less_test, Run, run_of, InRuns, zero_outside, outside_zero}

-- ---- trees

abbrev packed_children : (most n i : ℕ) (vs : Values) → Option (ArePacked most n i vs)
packed_children most n i no_values = Some tt
packed_children most n i (more_values (group vs) cs) = joint (number_test (count_values vs) (child_items most n i)) (packed_children most n (i + 1) cs)
packed_children most n i (more_values c cs) = None

abbrev packed_test : (most kind : ℕ) (vs : Values) → Option (IsPacked most kind vs)
packed_test most zero vs = Some tt
packed_test most (suc kind) vs =
    let n = count_values (weave (first_values (most + 1) vs) (other_values (most + 1) vs)) in
    joint (less_test most n) (packed_children most n 0 (first_values (most + 1) vs))

abbrev items_test : (vs : Values) → Option (HasItems vs)
items_test (more_values v vs) = most_test 1 (count_values (members v))
items_test no_values = None

-- ---- tables

abbrev numbers_test : (ms ns : List ℕ) → Option (ms ≡ ns)
numbers_test ms ns = turned (numbers_are ms ns) (tested (same_numbers ms ns))

abbrev value_test : (v w : Value) → Option (v ≡ w)
value_test v w = turned (value_is v w) (tested (same_value v w))

abbrev values_test : (vs ws : Values) → Option (vs ≡ ws)
values_test vs ws = turned (values_are vs ws) (tested (same_values vs ws))

abbrev four : {A B C D : Type 0} → Option A → Option B → Option C → Option D → Option (A × B × C × D)
four a b c d = carried a (λ x. carried b (λ y. carried c (λ z. turned (λ w. (x, y, z, w)) d)))

abbrev filled_test : (fit : Fit) (controls : List ℕ) (len cap : ℕ) (vs : Values) → Option (IsFilledSo fit controls len cap vs)
filled_test fit controls len cap no_values = None
filled_test fit controls len cap (more_values items no_values) =
    let keys = all_erased (members items) in
    four
    (number_test (count_values (members items)) len)
    (number_test cap (fit.capacity len))
    (numbers_test controls (fit.table_controls keys))
    (values_test keys (fit.table_items keys))
filled_test fit controls len cap (more_values numbers (more_values entries no_values)) =
    let keys = all_erased (members entries) in
    four
    (number_test (count_values (members entries)) len)
    (number_test cap (fit.capacity len))
    (numbers_test controls (fit.map_controls keys))
    (value_test numbers (group (naturals (fit.map_numbers keys))))
filled_test fit controls len cap (more_values numbers (more_values entries (more_values v vs))) = None

abbrev asked_test : {A : Type 0} (b : Bool) → Option A → Option (IsAsked b A)
asked_test true a = a
asked_test false a = Some tt

abbrev fitted_test : (fit : Fit) (controls : List ℕ) (len cap : ℕ) (vs : Values) → Option (IsFitted fit controls len cap vs)
fitted_test fit controls len cap vs = asked_test fit.binds (filled_test fit controls len cap vs)

-- ---- parts

abbrev leads_test : (fit : Fit) (seen : List ℕ) (ps : List Part) (vs : Values) → Option (LeadsSettled fit seen ps vs)
leads_test fit seen [] vs = Some tt
leads_test fit seen (at pos s ∷ ps) vs = Some tt
leads_test fit seen (behind pos p len ∷ ps) vs = Some tt
leads_test fit seen (node level most k v pos ∷ ps) vs = items_test vs
leads_test fit seen (child level most k v pos ∷ ps) vs = Some tt
leads_test fit seen (entry k key_pos v value_pos ∷ ps) vs = Some tt
leads_test fit seen (buckets target len cap it ∷ ps) vs = fitted_test fit seen len cap vs
leads_test fit seen (place_at pos limit ∷ ps) vs = Some tt

abbrev seen_test : (fit : Fit) (seen : List ℕ) (p : Part) (ps : List Part) (vs : Values) → Option (SeenSettled fit seen p ps vs)
seen_test fit seen (at pos s) ps vs = leads_test fit seen ps vs
seen_test fit seen (behind pos p len) ps vs = Some tt
seen_test fit seen (node level most k v pos) ps vs = packed_test most (slice_index seen 0) vs
seen_test fit seen (child level most k v pos) ps vs = leads_test fit seen ps vs
seen_test fit seen (entry k key_pos v value_pos) ps vs = Some tt
seen_test fit seen (buckets target len cap it) ps vs = Some tt
seen_test fit seen (place_at pos limit) ps vs = Some tt

-- whether what is open at a part is settled, where the parts in it have these values
unfoldable pub settled_test : (fit : Fit) (bytes : List ℕ) (p : Part) (ps : List Part) (vs : Values) → Option (IsSettled fit bytes p ps vs)
settled_test fit bytes p ps vs = seen_test fit (seen_bytes bytes p ps) p ps (seen_values p ps vs)

unfoldable pub legal_test : (l : Label) → Option (IsLegal l)
legal_test (leaf v) = Some tt
legal_test (written bs) = turned (IsUtf8-from_is_utf8 bs) (tested (legal (written bs)))
legal_test same = Some tt
legal_test second = Some tt
legal_test whole = Some tt
legal_test (tagged t) = Some tt
legal_test (woven n) = Some tt
legal_test (total n) = Some tt

-- ---- shared values

abbrev pub visit_at : ℕ → Pointee → ℕ → Value → Visit
visit_at t q len v = record { pos = t; pointee = q; len = len; value = v }

pub visit_is : (w : Visit) (t : ℕ) (q : Pointee) (len : ℕ) → same_visit w t q len ≡ true → w ≡ visit_at t q len w.value
unfolding same_visit
visit_is w t q len e =
    let rest = both_right (w.pos == t) _ e in
    let a = eqb-true w.pos t (both_left _ _ e) in
    let b = pointee_is w.pointee q (both_left _ _ rest) in
    let c = eqb-true w.len len (both_right (same_pointee w.pointee q) _ rest) in
    made_of w.pos t w.pointee q w.len len w.value a b c
  where
    made_of : (s t : ℕ) (r q : Pointee) (m n : ℕ) (v : Value) → s ≡ t → r ≡ q → m ≡ n → visit_at s r m v ≡ visit_at t q n v
    made_of s t r q m n v a b c = cc

-- a visit is of this position, shape and length
unfoldable pub visit_test : (w : Visit) (t : ℕ) (q : Pointee) (len : ℕ) → Option (w ≡ visit_at t q len w.value)
visit_test w t q len = turned (visit_is w t q len) (tested (same_visit w t q len))

abbrev alike : Visit → Visit → Bool
alike a b = same_pointee a.pointee b.pointee && same_value (erased a.value) (erased b.value)

pub unlike_differ : (a b : Visit) → alike a b ≡ false → Differ a b
unlike_differ a b e one_pointee equal_values =
    let x : same_pointee a.pointee b.pointee ≡ true = subst (λ q. same_pointee a.pointee q ≡ true) one_pointee (pointee_itself a.pointee) in
    let y : same_value (erased a.value) (erased b.value) ≡ true = subst (λ v. same_value (erased a.value) v ≡ true) equal_values (value_itself (erased a.value)) in
    let z = both _ _ x y in
    cc

abbrev differ_by : (a b : Visit) (t : Bool) → alike a b ≡ t → Option (Differ a b)
differ_by a b true e = None
differ_by a b false e = Some (unlike_differ a b e)

abbrev all_differ_test : (a : Visit) (bs : List Visit) → Option (AllDiffer a bs)
all_differ_test a [] = Some tt
all_differ_test a (b ∷ bs) = joint (differ_by a b (alike a b) refl) (all_differ_test a bs)

unfoldable pub distinct_test : (visits : List Visit) → Option (AreDistinct visits)
distinct_test [] = Some tt
distinct_test (a ∷ bs) = joint (all_differ_test a bs) (distinct_test bs)

-- ---- regions

pub follows_by : (low high : ℕ) (r : Region) → low ≤ r.start → r.start % r.align ≡ 0 → r.start + r.size ≤ high → Follows low high r
follows_by low high r a b c = record { after = a; aligned = b; inside = c }

unfoldable pub ascends_test : (low high : ℕ) (rs : List Region) → Option (Ascends low high rs)
unfolding Ascends
ascends_test low high [] = Some tt
ascends_test low high (r ∷ rs) =
    carried (most_test low r.start) (λ a. carried (number_test (r.start % r.align) 0) (λ b. carried (most_test (r.start + r.size) high) (λ c.
    turned (λ d. (follows_by low high r a b c, d)) (ascends_test (r.start + r.size) high rs))))

abbrev region_runs : List Region → List Run
region_runs [] = []
region_runs (r ∷ rs) = run_of r.start r.size ∷ region_runs rs

runs_in_regions : (rs : List Region) (i : ℕ) → InRuns (region_runs rs) i → InRegions rs i
runs_in_regions [] i t = absurd t
runs_in_regions (r ∷ rs) i t = ⊎_elim inl (λ u. inr (runs_in_regions rs i u)) t

pub gaps_by : (rs : List Region) (bytes : List ℕ) (start : ℕ) → zero_outside (region_runs rs) (drop start bytes) start ≡ true
    → (i : ℕ) → start ≤ i → InRegions rs i ⊎ (slice_index bytes i ≡ 0)
gaps_by rs bytes start e i low =
    let there : start + (i - start) ≡ i = omega arith in
    ⊎_elim
    (λ t. inl (runs_in_regions rs i (subst (InRuns (region_runs rs)) there t)))
    (λ z. inr (ap (λ n. get_or bytes n 0) (sym there) ∙ sym (get_or-drop start bytes (i - start) 0) ∙ z))
    (outside_zero (region_runs rs) (drop start bytes) start (i - start) e)

unfoldable pub gaps_test : (rs : List Region) (bytes : List ℕ) (start : ℕ) → Option ((i : ℕ) → start ≤ i → InRegions rs i ⊎ (slice_index bytes i ≡ 0))
gaps_test rs bytes start = turned (gaps_by rs bytes start) (tested (zero_outside (region_runs rs) (drop start bytes) start))

-- ---- bytes

abbrev all_bytes : List ℕ → Bool
all_bytes [] = true
all_bytes (b ∷ bs) = nat_lt b 256 && all_bytes bs

pub bytes_by : (bs : List ℕ) → all_bytes bs ≡ true → (i : ℕ) → slice_index bs i < 256
bytes_by [] e i = omega arith
bytes_by (b ∷ bs) e zero = ltb-true b 256 (both_left _ _ e)
bytes_by (b ∷ bs) e (suc i) = bytes_by bs (both_right (nat_lt b 256) _ e) i

unfoldable pub bytes_test : (bs : List ℕ) → Option ((i : ℕ) → slice_index bs i < 256)
bytes_test bs = turned (bytes_by bs) (tested (all_bytes bs))
