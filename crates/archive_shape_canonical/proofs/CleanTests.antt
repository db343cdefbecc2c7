-- Whether a part is clean, as a test that gives evidence.
use Rattle.std.proofs.Common.{◌≡◌, ℕ, zero, suc, ◌+◌, ◌-◌, ◌≤◌, ◌<◌, Bool, true, false, ◌==◌, ◌&&◌, ◌||◌, nat_le, nat_lt, List, [], ◌∷◌, ◌++◌, length, drop, get_or, slice_index, Option, Some, None, refl, ap, sym, subst, ◌∙◌, arith, ◌⊎◌, inl, inr, ⊎_elim, eqb-true, leb-true, ltb-true, get_or-drop, get_or-take}
use Rattle.std.proofs.lemmas.Bool.{cases_lt, leb-false}
use Rattle.archive_shape_layout.specs.Bytes.{window, word_at}
use Rattle.archive_shape_layout.specs.Shape.{Shape, size_of}
use Rattle.archive_shape_layout.specs.Shape.Shape.{text, tree, table, index_map}
use Rattle.archive_shape_layout.specs.Shape.Pointee.{sized, slice, str}
use Rattle.archive_shape_layout.specs.Content.{Names, Part, Content, content_of, links_offset, control_count}
use Rattle.archive_shape_layout.specs.Content.Part.{at, behind, node, child, entry, buckets, place_at}
use Rattle.archive_shape_layout.specs.Content.Label.{written}
use Rattle.archive_shape_layout.specs.Content.Content.{illegal, plain, claimed, counting}
use Rattle.archive_shape_layout.proofs.SameShape.{both_left, both_right}
use Rattle.archive_shape_canonical.specs.Clean.{IsIn, Owns, InParts, field_size, InFieldOfNode, InField, FieldPartOrZero, PaddingIsZero, IsTextFilled, IsShapeFilled, AreControlsFilled, IsFilled, IsClean}
use Rattle.archive_shape_canonical.proofs.Cleanness.{clean_by}

-- ---- evidence from tests

abbrev pub tested : (b : Bool) → Option (b ≡ true)
tested true = Some refl
tested false = None

-- what follows from evidence, where there is some
abbrev pub turned : {A B : Type 0} → (A → B) → Option A → Option B
turned f None = None
turned f (Some a) = Some (f a)

-- a further test, by the evidence of the first
abbrev pub carried : {A B : Type 0} → Option A → (A → Option B) → Option B
carried None f = None
carried (Some a) f = f a

-- of both tests
abbrev pub joint : {A B : Type 0} → Option A → Option B → Option (A × B)
joint a b = carried a (λ x. turned (λ y. (x, y)) b)

abbrev pub number_test : (m n : ℕ) → Option (m ≡ n)
number_test m n = turned (eqb-true m n) (tested (m == n))

abbrev pub most_test : (m n : ℕ) → Option (m ≤ n)
most_test m n = turned (leb-true m n) (tested (nat_le m n))

abbrev pub less_test : (m n : ℕ) → Option (m < n)
less_test m n = turned (ltb-true m n) (tested (nat_lt m n))

-- what holds of an option that is not none
pub record Known {A : Type 0} (o : Option A) : Type 0 where
  pub it : A
  pub is : o ≡ Some it

abbrev pub known : {A : Type 0} → (o : Option A) → Option (Known o)
known None = None
known (Some a) = Some (record { it = a; is = refl })

abbrev pub from_test : {Q : Type 0} → (a b : ℕ) → Option Q → (t : Bool) → nat_le a b ≡ t → Option (a ≤ b → Q)
from_test a b q true e = turned (λ x h. x) q
from_test a b q false e = Some (λ h. let less = leb-false a b e in absurd (omega arith))

-- where a is not greater than b
abbrev pub from_on : {Q : Type 0} → (a b : ℕ) → Option Q → Option (a ≤ b → Q)
from_on a b q = from_test a b q (nat_le a b) refl

-- where a is zero
abbrev pub zero_test : {Q : Type 0} → (a : ℕ) → Option Q → Option (a ≡ 0 → Q)
zero_test zero q = turned (λ x h. x) q
zero_test (suc a) q = Some (λ h. absurd (omega arith))

pub one_more : (P : ℕ → Type 0) (n : ℕ) → ((i : ℕ) → i < n → P i) → P n → (i : ℕ) → i < suc n → P i
one_more P n h l i less = ⊎_elim (h i) (λ g. subst P (let e : n ≡ i = omega arith in e) l) (cases_lt i n)

-- of each number below n
abbrev pub every : (P : ℕ → Type 0) → ((i : ℕ) → Option (P i)) → (n : ℕ) → Option ((i : ℕ) → i < n → P i)
every P test zero = Some (λ i l. absurd (omega arith))
every P test (suc n) = carried (every P test n) (λ h. turned (one_more P n h) (test n))

-- ---- runs of positions

pub record Run : Type 0 where
  pub start : ℕ
  pub size : ℕ

abbrev pub run_of : ℕ → ℕ → Run
run_of start size = record { start = start; size = size }

abbrev pub InRuns : List Run → ℕ → Type 0
InRuns [] i = ⊥
InRuns (r ∷ rs) i = IsIn r.start r.size i ⊎ InRuns rs i

abbrev pub covers : List Run → ℕ → Bool
covers [] i = false
covers (r ∷ rs) i = (nat_le r.start i && nat_lt i (r.start + r.size)) || covers rs i

pub either_true : (a b : Bool) → (a || b) ≡ true → (a ≡ true) ⊎ (b ≡ true)
either_true true b e = inl refl
either_true false b e = inr e

pub covered : (rs : List Run) (i : ℕ) → covers rs i ≡ true → InRuns rs i
covered [] i e = absurd (cc)
covered (r ∷ rs) i e =
    ⊎_elim
    (λ f. inl (leb-true r.start i (both_left _ _ f), ltb-true i (r.start + r.size) (both_right (nat_le r.start i) _ f)))
    (λ f. inr (covered rs i f))
    (either_true _ _ e)

pub runs_split : (rs qs : List Run) (i : ℕ) → InRuns (rs ++ qs) i → InRuns rs i ⊎ InRuns qs i
runs_split [] qs i t = inr t
runs_split (r ∷ rs) qs i t = ⊎_elim (λ o. inl (inl o)) (λ u. ⊎_elim (λ o. inl (inr o)) inr (runs_split rs qs i u)) t

-- each byte, counted from a position, is zero or in a run
abbrev pub zero_outside : List Run → List ℕ → ℕ → Bool
zero_outside runs [] i = true
zero_outside runs (b ∷ bs) i = ((b == 0) || covers runs i) && zero_outside runs bs (i + 1)

pub outside_zero : (runs : List Run) (bs : List ℕ) (i j : ℕ) → zero_outside runs bs i ≡ true → InRuns runs (i + j) ⊎ (get_or bs j 0 ≡ 0)
outside_zero runs [] i j e = inr refl
outside_zero runs (b ∷ bs) i zero e =
    ⊎_elim
    (λ f. inr (eqb-true b 0 f))
    (λ f. inl (covered runs (i + 0) (let same : i ≡ i + 0 = omega arith in subst (λ n. covers runs n ≡ true) same f)))
    (either_true _ _ (both_left _ _ e))
outside_zero runs (b ∷ bs) i (suc j) e =
    let there : (i + 1) + j ≡ i + suc j = omega arith in
    subst (λ n. InRuns runs n ⊎ (get_or bs j 0 ≡ 0)) there (outside_zero runs bs (i + 1) j (both_right ((b == 0) || covers runs i) _ e))

-- of the bytes in some runs
abbrev pub zero_within : List Run → List ℕ → List Run → Bool
zero_within runs bytes [] = true
zero_within runs bytes (r ∷ rs) = zero_outside runs (window bytes r.start r.size) r.start && zero_within runs bytes rs

within_zero : (runs : List Run) (bytes : List ℕ) (over : List Run) (i : ℕ) → zero_within runs bytes over ≡ true → InRuns over i → InRuns runs i ⊎ (slice_index bytes i ≡ 0)
within_zero runs bytes [] i e o = absurd o
within_zero runs bytes (r ∷ rs) i e o =
    ⊎_elim (here r.start r.size (both_left _ _ e)) (within_zero runs bytes rs i (both_right (zero_outside runs (window bytes r.start r.size) r.start) _ e)) o
  where
    here : (start size : ℕ) → zero_outside runs (window bytes start size) start ≡ true → IsIn start size i → InRuns runs i ⊎ (slice_index bytes i ≡ 0)
    here start size f o =
        let low = o.0 in
        let high = o.1 in
        let there : start + (i - start) ≡ i = omega arith in
        let less : i - start < size = omega arith in
        ⊎_elim
        (λ t. inl (subst (InRuns runs) there t))
        (λ z. inr (ap (λ n. get_or bytes n 0) (sym there) ∙ sym (get_or-drop start bytes (i - start) 0) ∙ sym (get_or-take size (drop start bytes) (i - start) 0 less) ∙ z))
        (outside_zero runs (window bytes start size) start (i - start) f)

-- ---- those of parts

abbrev pub owned_runs : Part → List Run
owned_runs (at pos s) = run_of pos (size_of s) ∷ []
owned_runs (child level most k v pos) = run_of pos 4 ∷ []
owned_runs (entry k key_pos v value_pos) = run_of key_pos (size_of k) ∷ run_of value_pos (size_of v) ∷ []
owned_runs (place_at pos limit) = run_of pos 4 ∷ []
owned_runs (behind pos p len) = []
owned_runs (node level most k v pos) = []
owned_runs (buckets target len cap it) = []

runs_owned : (p : Part) (i : ℕ) → InRuns (owned_runs p) i → Owns p i
runs_owned (at pos s) i t = ⊎_elim (λ o. o) (λ o. absurd o) t
runs_owned (child level most k v pos) i t = ⊎_elim (λ o. o) (λ o. absurd o) t
runs_owned (entry k key_pos v value_pos) i t = ⊎_elim inl (λ u. ⊎_elim inr (λ o. absurd o) u) t
runs_owned (place_at pos limit) i t = ⊎_elim (λ o. o) (λ o. absurd o) t
runs_owned (behind pos p len) i t = absurd t
runs_owned (node level most k v pos) i t = absurd t
runs_owned (buckets target len cap it) i t = absurd t

pub owned_in_runs : (p : Part) (i : ℕ) → Owns p i → InRuns (owned_runs p) i
owned_in_runs (at pos s) i o = inl o
owned_in_runs (child level most k v pos) i o = inl o
owned_in_runs (entry k key_pos v value_pos) i o = ⊎_elim inl (λ u. inr (inl u)) o
owned_in_runs (place_at pos limit) i o = inl o
owned_in_runs (behind pos p len) i o = absurd o
owned_in_runs (node level most k v pos) i o = absurd o
owned_in_runs (buckets target len cap it) i o = absurd o

abbrev pub parts_runs : List Part → List Run
parts_runs [] = []
parts_runs (p ∷ ps) = owned_runs p ++ parts_runs ps

runs_in_parts : (ps : List Part) (i : ℕ) → InRuns (parts_runs ps) i → InParts ps i
runs_in_parts [] i t = absurd t
runs_in_parts (p ∷ ps) i t = ⊎_elim (λ u. inl (runs_owned p i u)) (λ u. inr (runs_in_parts ps i u)) (runs_split (owned_runs p) (parts_runs ps) i t)

abbrev pub node_runs : ℕ → ℕ → Shape → Shape → ℕ → List Run
node_runs zero most k v pos = run_of pos 1 ∷ run_of (pos + links_offset most k v) 4 ∷ []
node_runs (suc kind) most k v pos = run_of pos 1 ∷ []

abbrev pub field_runs : List ℕ → Part → List Run
field_runs bytes (at pos s) = run_of pos (field_size s) ∷ []
field_runs bytes (behind pos str len) = run_of pos len ∷ []
field_runs bytes (behind pos (sized s) len) = []
field_runs bytes (behind pos (slice s) len) = []
field_runs bytes (node level most k v pos) = node_runs (slice_index (drop pos bytes) 0) most k v pos
field_runs bytes (child level most k v pos) = run_of pos 4 ∷ []
field_runs bytes (entry k key_pos v value_pos) = []
field_runs bytes (buckets target len cap it) = run_of target (control_count cap) ∷ []
field_runs bytes (place_at pos limit) = run_of pos 4 ∷ []

pub one_place : (pos i : ℕ) → IsIn pos 1 i → i ≡ pos
one_place pos i o = let low = o.0 in let high = o.1 in omega arith

runs_in_node : (kind most : ℕ) (k v : Shape) (pos i : ℕ) → InRuns (node_runs kind most k v pos) i → InFieldOfNode kind most k v pos i
runs_in_node zero most k v pos i t = ⊎_elim (λ o. inl (one_place pos i o)) (λ u. ⊎_elim inr (λ o. absurd o) u) t
runs_in_node (suc kind) most k v pos i t = ⊎_elim (one_place pos i) (λ o. absurd o) t

pub runs_in_field : (bytes : List ℕ) (p : Part) (i : ℕ) → InRuns (field_runs bytes p) i → InField bytes p i
runs_in_field bytes (at pos s) i t = ⊎_elim (λ o. o) (λ o. absurd o) t
runs_in_field bytes (behind pos str len) i t = ⊎_elim (λ o. o) (λ o. absurd o) t
runs_in_field bytes (behind pos (sized s) len) i t = absurd t
runs_in_field bytes (behind pos (slice s) len) i t = absurd t
runs_in_field bytes (node level most k v pos) i t = runs_in_node (slice_index (drop pos bytes) 0) most k v pos i t
runs_in_field bytes (child level most k v pos) i t = ⊎_elim (λ o. o) (λ o. absurd o) t
runs_in_field bytes (entry k key_pos v value_pos) i t = absurd t
runs_in_field bytes (buckets target len cap it) i t = ⊎_elim (λ o. o) (λ o. absurd o) t
runs_in_field bytes (place_at pos limit) i t = ⊎_elim (λ o. o) (λ o. absurd o) t

-- ---- padding

pub zero_but_parts : (bytes : List ℕ) (p : Part) (ps : List Part) (over : List Run) → zero_within (field_runs bytes p ++ parts_runs ps) bytes over ≡ true
    → (i : ℕ) → InRuns over i → FieldPartOrZero bytes p ps i
zero_but_parts bytes p ps over e i o =
    ⊎_elim
    (λ t. ⊎_elim (λ u. inl (runs_in_field bytes p i u)) (λ u. inr (inl (runs_in_parts ps i u))) (runs_split (field_runs bytes p) (parts_runs ps) i t))
    (λ z. inr (inr z))
    (within_zero (field_runs bytes p ++ parts_runs ps) bytes over i e o)

abbrev pub padding_test : (bytes : List ℕ) (p : Part) (c : Content) → Option (PaddingIsZero bytes p c)
padding_test bytes p illegal = None
padding_test bytes p (plain l ps) =
    turned (λ e i o. zero_but_parts bytes p ps (owned_runs p) e i (owned_in_runs p i o)) (tested (zero_within (field_runs bytes p ++ parts_runs ps) bytes (owned_runs p)))
padding_test bytes p (claimed s l ps) =
    turned (λ e i o. zero_but_parts bytes p ps (run_of s.start s.size ∷ []) e i (inl o)) (tested (zero_within (field_runs bytes p ++ parts_runs ps) bytes (run_of s.start s.size ∷ [])))
padding_test bytes p (counting cyclic t q len) =
    turned (λ e i o. zero_but_parts bytes p [] (owned_runs p) e i (owned_in_runs p i o)) (tested (zero_within (field_runs bytes p ++ []) bytes (owned_runs p)))

-- ---- fillers

abbrev pub text_filled_test : (own : List ℕ) (c : Content) → Option (IsTextFilled own c)
text_filled_test own (plain (written bs) ps) =
    turned (λ h i from less. h i less from) (every (λ i. length bs ≤ i → slice_index own i ≡ 255) (λ i. from_on (length bs) i (number_test (slice_index own i) 255)) 8)
text_filled_test own _ = Some tt

abbrev pub shape_filled_test : (own : List ℕ) (c : Content) (s : Shape) → Option (IsShapeFilled own c s)
shape_filled_test own c text = text_filled_test own c
shape_filled_test own c (tree most k v) = zero_test (word_at own 4) (number_test (word_at own 0) 1)
shape_filled_test own c (table s) = zero_test (word_at own 4) (joint (number_test (word_at own 0) 1) (number_test (word_at own 8) 0))
shape_filled_test own c (index_map k v) =
    zero_test (word_at own 4)
    (carried (number_test (word_at own 0) 1) (λ a. carried (number_test (word_at own 8) 0) (λ b. turned (λ d. (a, b, d)) (number_test (word_at own 12) 1))))
shape_filled_test own c _ = Some tt

abbrev pub controls_filled_test : (controls : List ℕ) (n : ℕ) → Option (AreControlsFilled controls n)
controls_filled_test controls n =
    every (λ i. 128 ≤ slice_index controls i → slice_index controls i ≡ 255) (λ i. from_on 128 (slice_index controls i) (number_test (slice_index controls i) 255)) n

abbrev pub filled_test : (bytes : List ℕ) (p : Part) (c : Content) → Option (IsFilled bytes p c)
filled_test bytes (at pos s) c = shape_filled_test (window bytes pos (size_of s)) c s
filled_test bytes (buckets target len cap it) c = controls_filled_test (window bytes target (control_count cap)) (control_count cap)
filled_test bytes (behind pos p len) c = Some tt
filled_test bytes (node level most k v pos) c = Some tt
filled_test bytes (child level most k v pos) c = Some tt
filled_test bytes (entry k key_pos v value_pos) c = Some tt
filled_test bytes (place_at pos limit) c = Some tt

-- whether a part with a content is clean
unfoldable pub clean_test : (names : Names) (bytes : List ℕ) (p : Part) (c : Content) → content_of names bytes p ≡ c → Option (IsClean names bytes p)
clean_test names bytes p c e = carried (padding_test bytes p c) (λ h. turned (clean_by names bytes p c e h) (filled_test bytes p c))
