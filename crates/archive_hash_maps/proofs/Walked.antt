-- The full places that a walk has left.
use denote.Ref.{Bor}
use Rattle.std.proofs.Common.{◌≡◌, ◌∙◌, ℕ, zero, suc, ◌+◌, ◌-◌, ◌<◌, ◌≤◌, Bool, true, false, cond, nat_lt, List, [], ◌∷◌, map, filter, slice_index, All, refl, ap, subst, arith, lt-ltb, ltb-true}
use Rattle.std.specs.List.{range_with_len}
use Rattle.std.proofs.lemmas.List.Elements.{All-nil, All-cons}
use Rattle.archive_shape_layout.specs.Shape.{Shape, size_of}
use Rattle.archive_shape_layout.specs.Content.{Names}
use Rattle.archive_forms_values.specs.Parts.{HasValue}
use Rattle.archive_hash_maps.specs.Tables.{Buckets, full_places, item_position}
use Rattle.archive_hash_maps.specs.Places.{places_from, full_place}

module _ (controls : List ℕ) (cap next : ℕ) where
  abbrev Listed : ℕ → List ℕ
  Listed n = filter (λ p. nat_lt (slice_index controls p) 128) (range_with_len next n)

  parted : next < cap → places_from controls cap next ≡ cond (nat_lt (slice_index controls next) 128) (next ∷ places_from controls cap (next + 1)) (places_from controls cap (next + 1))
  parted less = let many : cap - next ≡ suc (cap - (next + 1)) = omega (arith, less) in ap Listed many

  chosen_yes : (b : Bool) (xs ys : List ℕ) → b ≡ true → cond b xs ys ≡ xs
  chosen_yes true xs ys e = refl
  chosen_yes false xs ys e = absurd cc

  chosen_no : (b : Bool) (xs ys : List ℕ) → (b ≡ true → ⊥) → cond b xs ys ≡ ys
  chosen_no true xs ys n = absurd (n refl)
  chosen_no false xs ys n = refl

  pub place_taken : next < cap → slice_index controls next < 128 → places_from controls cap next ≡ next ∷ places_from controls cap (next + 1)
  place_taken less full = parted less ∙ chosen_yes (nat_lt (slice_index controls next) 128) _ _ (lt-ltb _ _ full)

  pub place_skipped : next < cap → 128 ≤ slice_index controls next → places_from controls cap next ≡ places_from controls cap (next + 1)
  place_skipped less empty = parted less ∙ chosen_no (nat_lt (slice_index controls next) 128) _ _ (λ e. let full = ltb-true (slice_index controls next) 128 e in absurd (omega (arith, full, empty)))

  pub places_passed : cap ≤ next → places_from controls cap next ≡ []
  places_passed past = let none : cap - next ≡ 0 = omega (arith, past) in ap Listed none

pub all_left : (b : Buckets) → places_from b.controls b.cap 0 ≡ full_places b
all_left b = let many : b.cap - 0 ≡ b.cap = omega arith in ap (λ n. filter (λ p. nat_lt (slice_index b.controls p) 128) (range_with_len 0 n)) many

-- each of them is one of the table's places
chosen_below : (cap i : ℕ) (b : Bool) (ps : List ℕ) → i < cap → All (λ p. p < cap) ps → All (λ p. p < cap) (cond b (i ∷ ps) ps)
chosen_below cap i true ps less h = All-cons (λ p. p < cap) i ps less h
chosen_below cap i false ps less h = h

listed_below : (g : ℕ → Bool) (cap n i : ℕ) → i + n ≤ cap → All (λ p. p < cap) (filter g (range_with_len i n))
listed_below g cap zero i few = All-nil (λ p. p < cap)
listed_below g cap (suc n) i few = chosen_below cap i (g i) (filter g (range_with_len (i + 1) n)) (omega arith) (listed_below g cap n (i + 1) (omega arith))

pub places_are : (P : ℕ → Type 0) (b : Buckets) → ((p : ℕ) → p < b.cap → P p) → All P (places_from b.controls b.cap 0)
places_are P b says k d less = says _ (listed_below (λ p. nat_lt (slice_index b.controls p) 128) b.cap (b.cap - 0) 0 (omega arith) k d less)

-- what holds of all that is left holds of the first, and of what is left then
pub first_of : (P : ℕ → Type 0) (p : ℕ) (ps qs : List ℕ) → qs ≡ p ∷ ps → All P qs → P p × All P ps
first_of P p ps qs is all = let h : All P (p ∷ ps) = subst (All P) is all in (h 0 p (omega arith), λ k d less. h (suc k) d (omega (arith, less)))

-- the positions of the items at full places
pub positions_of : (T : Type 0) (bytes : Bor (List ℕ)) (controls : List ℕ) (s : Shape) (target : ℕ) (ps : List ℕ) → map (λ e. e.2.pos) (map (full_place {T = T} bytes controls target (size_of s)) ps) ≡ map (item_position s target) ps
positions_of T bytes controls s target [] = refl
positions_of T bytes controls s target (p ∷ ps) = ap (λ qs. item_position s target p ∷ qs) (positions_of T bytes controls s target ps)

-- each item at a full place is a value, where each item at those positions is one
pub all_there : (T : Type 0) (s : Shape) (knows : Names → Type 0) (bytes : Bor (List ℕ)) (controls : List ℕ) (target : ℕ) (ps : List ℕ)
    → All (HasValue s knows bytes.now) (map (item_position s target) ps) → All (λ e. HasValue s knows e.2.bytes.now e.2.pos) (map (full_place {T = T} bytes controls target (size_of s)) ps)
all_there T s knows bytes controls target [] h = All-nil (λ e. HasValue s knows e.2.bytes.now e.2.pos)
all_there T s knows bytes controls target (p ∷ ps) h =
    let both = first_of (HasValue s knows bytes.now) (item_position s target p) (map (item_position s target) ps) (item_position s target p ∷ map (item_position s target) ps) refl h in
    All-cons (λ e. HasValue s knows e.2.bytes.now e.2.pos) (full_place {T = T} bytes controls target (size_of s) p) (map (full_place {T = T} bytes controls target (size_of s)) ps) both.0
    (all_there T s knows bytes controls target ps both.1)
