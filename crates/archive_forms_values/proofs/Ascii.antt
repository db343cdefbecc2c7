-- Bytes that are ASCII are UTF-8.
use Rattle.std.proofs.Common.{◌≡◌, ℕ, ◌==◌, ◌||◌, ◌&&◌, nat_lt, true, false, true≢false, Bool, List, [], ◌∷◌, length, slice_index, ap₂, IsUtf8, arith, ltb-true, inl, inr, refl, sym, ◌∙◌}
use Rattle.std.specs.List.{list_all, AllPass}
use Rattle.std.specs.Str.{IsAscii}
use Rattle.std.proofs.lemmas.Bool.{cases_lt, cases_Bool}
use Rattle.std.proofs.lemmas.List.{get_or_past}
use Rattle.std.proofs.lemmas.List.Sums.{AllPass-from_list_all}
use Rattle.std.proofs.lemmas.Str.{IsUtf8-from_ascii}
use Rattle.archive_shape_layout.specs.Content.{before_ff}

all_below : (bs : List ℕ) → AllPass (λ b. nat_lt b 128) bs → IsAscii bs
all_below bs all i =
    elim (cases_lt i (length bs)) [
      | inl l ↦ ltb-true _ 128 (all i 0 l)
      | inr l ↦ omega (arith, get_or_past bs i 0 l)
    ]

pub ascii_is_utf8 : (bs : List ℕ) → list_all (λ b. nat_lt b 128) bs ≡ true → IsUtf8 bs
ascii_is_utf8 bs all = IsUtf8-from_ascii bs (all_below bs (AllPass-from_list_all (λ b. nat_lt b 128) bs all))

both_of : (a b : Bool) → (a && b) ≡ true → (a ≡ true) × (b ≡ true)
both_of true b h = (refl, h)
both_of false b h = absurd (true≢false (sym h))

first_of : (a b : Bool) → b ≡ false → (a || b) ≡ true → a ≡ true
first_of true b is h = refl
first_of false b is h = absurd (true≢false (sym h ∙ is))

-- where each byte is ASCII or the filler, those before the first filler are ASCII
before_is_ascii : (bs : List ℕ) → list_all (λ b. nat_lt b 128 || b == 255) bs ≡ true → list_all (λ b. nat_lt b 128) (before_ff bs) ≡ true
before_is_ascii [] all = refl
before_is_ascii (b ∷ bs) all =
    elim (cases_Bool (b == 255)) [
      | inl filler ↦ rw filler refl
      | inr other ↦
          let both = both_of _ _ all in
          rw other (ap₂ ◌&&◌ (first_of _ _ other both.0) (before_is_ascii bs both.1))
    ]

pub filled_is_utf8 : (bs : List ℕ) → list_all (λ b. nat_lt b 128 || b == 255) bs ≡ true → IsUtf8 (before_ff bs)
filled_is_utf8 bs all = ascii_is_utf8 (before_ff bs) (before_is_ascii bs all)

-- eight tests, one by one
regroup : (a b c d e g h i : Bool) → (((((((a && b) && c) && d) && e) && g) && h) && i) ≡ (a && (b && (c && (d && (e && (g && (h && (i && true))))))))
regroup false b c d e g h i = refl
regroup true false c d e g h i = refl
regroup true true false d e g h i = refl
regroup true true true false e g h i = refl
regroup true true true true false g h i = refl
regroup true true true true true false h i = refl
regroup true true true true true true false i = refl
regroup true true true true true true true false = refl
regroup true true true true true true true true = refl

pub all_of_eight : (f : ℕ → Bool) (bs : List ℕ) → length bs ≡ 8
    → (((((((f (slice_index bs 0) && f (slice_index bs 1)) && f (slice_index bs 2)) && f (slice_index bs 3)) && f (slice_index bs 4)) && f (slice_index bs 5)) && f (slice_index bs 6)) && f (slice_index bs 7)) ≡ list_all f bs
all_of_eight f [] is = absurd (omega arith)
all_of_eight f (a ∷ []) is = absurd (omega arith)
all_of_eight f (a ∷ b ∷ []) is = absurd (omega arith)
all_of_eight f (a ∷ b ∷ c ∷ []) is = absurd (omega arith)
all_of_eight f (a ∷ b ∷ c ∷ d ∷ []) is = absurd (omega arith)
all_of_eight f (a ∷ b ∷ c ∷ d ∷ e ∷ []) is = absurd (omega arith)
all_of_eight f (a ∷ b ∷ c ∷ d ∷ e ∷ g ∷ []) is = absurd (omega arith)
all_of_eight f (a ∷ b ∷ c ∷ d ∷ e ∷ g ∷ h ∷ []) is = absurd (omega arith)
all_of_eight f (a ∷ b ∷ c ∷ d ∷ e ∷ g ∷ h ∷ i ∷ []) is = regroup (f a) (f b) (f c) (f d) (f e) (f g) (f h) (f i)
all_of_eight f (a ∷ b ∷ c ∷ d ∷ e ∷ g ∷ h ∷ i ∷ j ∷ bs) is = absurd (omega arith)
