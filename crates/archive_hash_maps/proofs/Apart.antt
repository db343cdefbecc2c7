-- The items of a table do not overlap.
use Rattle.std.proofs.Common.{ℕ, zero, suc, ◌+◌, ◌-◌, ◌*◌, ◌<◌, ◌≤◌, Bool, true, false, cond, nat_lt, List, ◌∷◌, filter, map, slice_index, All, arith}
use Rattle.std.specs.Prelude.{AllPairs}
use Rattle.std.specs.List.{range_with_len}
use Rattle.std.proofs.lemmas.List.Elements.{All-nil, All-cons}
use Rattle.archive_shape_layout.specs.Shape.{Shape, size_of}
use Rattle.archive_hash_maps.specs.Tables.{Buckets, item_position, ItemsDescend}
use Rattle.archive_hash_maps.proofs.Passed.{room_of}
use Rattle.archive_hash_maps.proofs.Stays.{item_ends, items_apart, place_fits}

pairs_cons : {A : Type 0} (R : A → A → Type 0) (x : A) (xs : List A) → All (R x) xs → AllPairs R xs → AllPairs R (x ∷ xs)
pairs_cons R x xs h g i zero d less below = absurd (omega arith)
pairs_cons R x xs h g zero (suc j) d less below = h j d (omega arith)
pairs_cons R x xs h g (suc i) (suc j) d less below = g i j d (omega arith) (omega arith)

module _ (s : Shape) (b : Buckets) (room : b.cap * size_of s ≤ b.target) where
  abbrev at : ℕ → ℕ
  at = item_position s b.target

  abbrev EndsBefore : ℕ → ℕ → Type 0
  EndsBefore p q = q + size_of s ≤ p

  abbrev Full : ℕ → ℕ → List ℕ
  Full n i = filter (λ p. nat_lt (slice_index b.controls p) 128) (range_with_len i n)

  later_ends : (p q : ℕ) → p < q → q < b.cap → EndsBefore (at p) (at q)
  later_ends p q less below =
      let ends = item_ends (size_of s) b.target b.cap q room below in
      let apart = items_apart (size_of s) b.target p q less (place_fits (size_of s) b.target b.cap q room (omega (arith, below))) in
      omega (arith, ends, apart)

  chosen_all : (P : ℕ → Type 0) (t : Bool) (i : ℕ) (ps : List ℕ) → P (at i) → All P (map at ps) → All P (map at (cond t (i ∷ ps) ps))
  chosen_all P true i ps h all = All-cons P (at i) (map at ps) h all
  chosen_all P false i ps h all = all

  chosen_pairs : (t : Bool) (i : ℕ) (ps : List ℕ) → All (EndsBefore (at i)) (map at ps) → AllPairs EndsBefore (map at ps) → AllPairs EndsBefore (map at (cond t (i ∷ ps) ps))
  chosen_pairs true i ps h all = pairs_cons EndsBefore (at i) (map at ps) h all
  chosen_pairs false i ps h all = all

  all_later : (p n i : ℕ) → p < i → i + n ≤ b.cap → All (EndsBefore (at p)) (map at (Full n i))
  all_later p zero i less few = All-nil (EndsBefore (at p))
  all_later p (suc n) i less few =
      chosen_all (EndsBefore (at p)) (nat_lt (slice_index b.controls i) 128) i (Full n (i + 1)) (later_ends p i less (omega (arith, few))) (all_later p n (i + 1) (omega (arith, less)) (omega (arith, few)))

  descend : (n i : ℕ) → i + n ≤ b.cap → AllPairs EndsBefore (map at (Full n i))
  descend zero i few = λ j k d less below. absurd (omega arith)
  descend (suc n) i few =
      chosen_pairs (nat_lt (slice_index b.controls i) 128) i (Full n (i + 1)) (all_later i n (i + 1) (omega arith) (omega (arith, few))) (descend n (i + 1) (omega (arith, few)))

pub items_descend : (s : Shape) → ItemsDescend s
items_descend s bytes pos b is = descend s b (room_of is) b.cap 0 (omega arith)
