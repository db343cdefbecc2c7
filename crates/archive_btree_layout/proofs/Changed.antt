-- Bytes that agree except for the values of entries.
use Rattle.std.proofs.Common.{◌≡◌, ◌∙◌, ℕ, zero, suc, ◌+◌, ◌*◌, ◌<◌, ◌≤◌, List, [], ◌∷◌, ◌++◌, length, drop, take, inl, inr, sym, arith, get_or-drop, get_or-take}
use Rattle.std.specs.Prelude.{slice_index, slice_index_or, All, AllPairs}
use Rattle.std.proofs.lemmas.Bool.{cases_lt}
use Rattle.std.proofs.lemmas.List.{ext_get_or, length-drop, length-take-le}
use Rattle.std.proofs.lemmas.List.Elements.{All-nil, All-cons, All-append, All-head, All-tail}
use Rattle.archive_shape_layout.specs.Bytes.{window, word_at}
use Rattle.archive_shape_layout.specs.Shape.{Shape, size_of}
use Rattle.archive_shape_layout.specs.Value.{Value}
use Rattle.archive_shape_layout.specs.Content.{Names, Part}
use Rattle.archive_shape_layout.specs.Content.Part.{at}
use Rattle.archive_shape_layout.specs.Holds.{Region, Visit, OpenShared, Holds, Ascends}
use Rattle.archive_shape_layout.specs.Laws.{AgreesOn, RegionsAgree}
use Rattle.archive_shape_layout.specs.Visited.{AllStand, ClaimedAfter}
use Rattle.archive_shape_layout.proofs.Framed.{frame}
use Rattle.archive_shape_layout.proofs.SameBytes.{AreSame, regions_same}
use Rattle.archive_shape_layout.proofs.Visited.{claimed_raised}
use Rattle.archive_btree_layout.specs.Reading.{Place, places}
use Rattle.archive_btree_layout.specs.Items.{IsHeld}
use Rattle.archive_shape_layout.specs.Bytes.{IsOutside}
use Rattle.archive_btree_layout.specs.Changing.{IsInNoValue, AreApart}

-- ---- indices

-- what lies outside a range is in no value of the entries
abbrev pub AreIn : Shape → ℕ → ℕ → List Place → Type 0
AreIn v low high es = (i : ℕ) → IsOutside low high i → IsInNoValue v es i

pub widened : (v : Shape) (low from to high : ℕ) (es : List Place) → low ≤ from → to ≤ high → AreIn v from to es → AreIn v low high es
widened v low from to high es below above h i out = h i (λ le. let past = out (omega arith) in omega arith)

pub none_in : (v : Shape) (low high : ℕ) → AreIn v low high []
none_in v low high i out = All-nil _

pub places_in : (n : ℕ) (k : Shape) (key : ℕ) (v : Shape) (value : ℕ) → AreIn v value (value + n * size_of v) (places n k key v value)
places_in zero k key v value i out = All-nil _
places_in (suc n) k key v value i out =
    All-cons (λ e. IsOutside e.value (e.value + size_of v) i) (record { key = key; value = value }) (places n k (key + size_of k) v (value + size_of v))
    (λ le. let past = out le in omega (arith, past))
    (places_in n k (key + size_of k) v (value + size_of v) i (λ le. let past = out (omega arith) in omega (arith, past)))

-- the items between two children's are a place and those after it
pub between_in : (v : Shape) (p : Place) (es fs : List Place) (i : ℕ) → IsInNoValue v es i → IsOutside p.value (p.value + size_of v) i → IsInNoValue v fs i → IsInNoValue v (es ++ p ∷ fs) i
between_in v p es fs i a b c =
    let P : Place → Type 0 = λ e. IsOutside e.value (e.value + size_of v) i in
    All-append P es (p ∷ fs) a (All-cons P p fs b c)

-- ---- values that lie apart

pairs_cons : {A : Type 0} (R : A → A → Type 0) (x : A) (xs : List A) → All (R x) xs → AllPairs R xs → AllPairs R (x ∷ xs)
pairs_cons R x xs h g i zero d less below = absurd (omega arith)
pairs_cons R x xs h g zero (suc j) d less below = h j d (omega arith)
pairs_cons R x xs h g (suc i) (suc j) d less below = g i j d (omega arith) (omega arith)

pairs_between : {A : Type 0} (R : A → A → Type 0) (xs : List A) (p : A) (ys : List A)
    → AllPairs R xs → All (λ a. R a p) xs → All (λ a. All (R a) ys) xs → All (R p) ys → AllPairs R ys → AllPairs R (xs ++ p ∷ ys)
pairs_between R [] p ys a b c d e = pairs_cons R p ys d e
pairs_between R (x ∷ xs) p ys a b c d e =
    pairs_cons R x (xs ++ p ∷ ys)
    (All-append (R x) xs (p ∷ ys) (λ j f below. a 0 (suc j) f (omega arith) (omega arith)) (All-cons (R x) p ys (All-head (λ a. R a p) x xs b) (All-head (λ a. All (R a) ys) x xs c)))
    (pairs_between R xs p ys (λ i j f less below. a (suc i) (suc j) f (omega arith) (omega arith)) (All-tail (λ a. R a p) x xs b) (All-tail (λ a. All (R a) ys) x xs c) d e)

pub none_apart : (v : Shape) → AllPairs (AreApart v) []
none_apart v i j d less below = absurd (omega arith)

pub places_apart : (n : ℕ) (k : Shape) (key : ℕ) (v : Shape) (value : ℕ) → AllPairs (AreApart v) (places n k key v value)
places_apart zero k key v value = none_apart v
places_apart (suc n) k key v value =
    pairs_cons (AreApart v) (record { key = key; value = value }) (places n k (key + size_of k) v (value + size_of v))
    (λ j d below i low high. places_in n k (key + size_of k) v (value + size_of v) i (λ past. absurd (omega arith)) j d below)
    (places_apart n k (key + size_of k) v (value + size_of v))

-- what lies in a value that is in a range lies before the range's end
before_end : (v : Shape) (low high : ℕ) (es : List Place) → AreIn v low high es → (j : ℕ) (d : Place) → j < length es → (i : ℕ)
    → (slice_index_or es j d).value ≤ i → i < (slice_index_or es j d).value + size_of v → i < high
before_end v low high es h j d below i from to =
    elim (cases_lt i high) [
      | inl lower ↦ lower
      | inr upper ↦
          let past = h i (λ over. upper) j d below from in
          absurd (omega arith)
    ]

-- values before a place, the one that lies there, and others, which lie before the place or after its value
pub between_apart : (v : Shape) (bottom mid low : ℕ) (p : Place) (es fs : List Place) → mid ≤ p.value → low ≤ p.value
    → AreIn v bottom mid es → ((i : ℕ) → IsOutside mid low i → (p.value + size_of v ≤ i → ⊥) → IsInNoValue v fs i)
    → AllPairs (AreApart v) es → AllPairs (AreApart v) fs → AllPairs (AreApart v) (es ++ p ∷ fs)
between_apart v bottom mid low p es fs below under within others a b =
    pairs_between (AreApart v) es p fs a
    (λ j d less i from to. let lower = before_end v bottom mid es within j d less i from to in λ over. absurd (omega arith))
    (λ j d less n e short i from to.
    let lower = before_end v bottom mid es within j d less i from to in
    others i (λ over. absurd (omega arith)) (λ past. omega arith) n e short)
    (λ n e short i from to. others i (λ over. omega arith) (λ past. omega arith) n e short)
    b

-- ---- bytes

-- what is held is held in bytes that agree on its own and on what is claimed
pub held_same : (xs ys : List ℕ) {names : Names} (s : Shape) {depth : ℕ} {inside : List OpenShared} {value : Value} {rs : List Region} {before after : List Visit} {low high : ℕ} (start : ℕ)
    → high ≤ start → start + size_of s ≤ length xs → start + size_of s ≤ length ys
    → AreSame xs ys low high → AgreesOn xs ys start (size_of s)
    → ClaimedAfter names xs before low high rs → AllStand names ys low before → Holds names xs depth inside (at start s) value rs before after
    → IsHeld names ys s start value
held_same xs ys {names} s {depth} {inside} {value} {rs} {before} {after} {low} {high} start below here there same own claimed stand h =
    record {
      depth = depth;
      inside = inside;
      regions = rs;
      before = before;
      after = after;
      own_within = there;
      low = low;
      claimed = claimed_raised below (record { stand = stand; below = claimed.below; ascends = claimed.ascends });
      holds = frame xs ys names own (regions_same xs ys low high rs (omega arith) (omega arith) same claimed.ascends) h;
    }

-- bytes from one index up to another are the same, except for the values of entries
pub record Agrees (v : Shape) (es : List Place) (xs ys : List ℕ) (low high : ℕ) : Type 0 where
  pub same_length : length ys ≡ length xs
  pub same : (i : ℕ) → low ≤ i → i < high → IsInNoValue v es i → slice_index ys i ≡ slice_index xs i
