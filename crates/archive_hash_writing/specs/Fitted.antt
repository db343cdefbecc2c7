-- The places of the items of a table that is written: each item, in the order of the list, is at its first fit.
use Rattle.std.specs.Prelude.{ℕ, List, [], length, Option}
use Rattle.archive_shape_canonical.specs.FirstFit.{capacity_for, fitted_from, placed, present, written_controls}

-- of items with a hash for each, in a table of which `most` of `places` places may be full
module _ {A : Type 0} (most places : ℕ) (hashes : List ℕ) where
  abbrev pub capacity_of : List A → ℕ
  capacity_of xs = capacity_for (length xs) most places

  -- the place of each item
  abbrev pub places_of : List A → List ℕ
  places_of xs = fitted_from (capacity_of xs) [] hashes

  -- the item at each place, or none
  abbrev pub table_of : List A → List (Option A)
  table_of xs = placed (capacity_of xs) (places_of xs) xs

  -- the items by ascending place
  abbrev pub by_place : List A → List A
  by_place xs = present (table_of xs)

  abbrev pub controls_of : List A → List ℕ
  controls_of xs = written_controls (capacity_of xs) hashes (places_of xs)
