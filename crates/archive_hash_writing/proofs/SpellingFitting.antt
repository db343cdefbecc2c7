-- The items at the places of a table that is written, and its controls.
use Rattle.std.proofs.Common.{◌≡◌, ◌∙◌, ℕ, ◌+◌, ◌*◌, ◌/◌, ◌^◌, ◌<◌, ◌==◌, max, Bool, true, false, cond, List, [], length, refl, sym, subst, arith, take, eqb-true}
use Rattle.std.specs.List.{All}
use Rattle.std.specs.List.Sorted.{IsPermutation}
use Rattle.std.proofs.lemmas.List.FromFn.{length-map-range_with_len}
use Rattle.archive_shape_canonical.specs.FirstFit.{capacity_for, item_at}
use Rattle.archive_hash_probing.specs.Controls.{AreControls}
use Rattle.archive_hash_probing.proofs.FirstFits.{written_are}
use Rattle.archive_hash_probing.proofs.Fit.{IsFirstFit, first_fit}
use Rattle.archive_hash_probing.proofs.Reached.{same_length, places_low, places_apart}
use Rattle.archive_hash_writing.specs.Fitted.{capacity_of, places_of, table_of, by_place, controls_of}
use Rattle.archive_hash_writing.proofs.Tagged.{AreTagged, written_tagged, controls_are}
use Rattle.archive_hash_writing.proofs.SpellingPresent.{AreApart, AreBelow, count_present, placed_moved}
use Rattle.archive_hash_writing.proofs.SpellingFilled.{AreControlsOf}

-- a table that has items has more places
pub capacity_above : (len most places : ℕ) → 0 < len → len < capacity_for len most places
capacity_above len most places some = tested (len == 0) refl
  where
    tested : (b : Bool) → (len == 0) ≡ b → len < cond b 0 (max (len * places / most) (len + 1))
    tested true e = let none = eqb-true len 0 e in absurd (omega (arith, none, some))
    tested false e = omega arith

module _ {A : Type 0} (most places : ℕ) (hashes : List ℕ) (xs : List A) where
  pub length-table : length (table_of most places hashes xs) ≡ capacity_of most places hashes xs
  length-table = length-map-range_with_len (item_at xs (places_of most places hashes xs)) 0 (capacity_of most places hashes xs)

  module _ (even : length hashes ≡ length xs) (some : 0 < length xs) where
    pub above : length xs < capacity_of most places hashes xs
    above = capacity_above (length xs) most places some

    pub places_fit : IsFirstFit (capacity_of most places hashes xs) [] hashes (places_of most places hashes xs)
    places_fit = first_fit (capacity_of most places hashes xs) [] hashes (omega (arith, above, even))

    pub length-places : length (places_of most places hashes xs) ≡ length xs
    length-places = sym (same_length (capacity_of most places hashes xs) [] hashes (places_of most places hashes xs) places_fit) ∙ even

    pub places_below : AreBelow (capacity_of most places hashes xs) (places_of most places hashes xs)
    places_below j l = places_low (capacity_of most places hashes xs) [] hashes (places_of most places hashes xs) j (omega (arith, above)) places_fit (omega (arith, length-places, even, l))

    pub are_apart : AreApart (places_of most places hashes xs)
    are_apart i j less l = places_apart (capacity_of most places hashes xs) hashes (places_of most places hashes xs) i j places_fit less (omega (arith, length-places, even, l))

    -- all items are in the table
    pub length-by_place : length (by_place most places hashes xs) ≡ length xs
    length-by_place = count_present (capacity_of most places hashes xs) xs (places_of most places hashes xs) length-places places_below are_apart

    pub by_place_moved : IsPermutation xs (by_place most places hashes xs)
    by_place_moved = placed_moved (capacity_of most places hashes xs) xs (places_of most places hashes xs) length-places places_below are_apart

    pub controls_of_table : All (λ h. h < 2 ^ 64) hashes → AreControlsOf (table_of most places hashes xs) (controls_of most places hashes xs)
    controls_of_table tags =
        let cap = capacity_of most places hashes xs in
        let qs = places_of most places hashes xs in
        record {
          wrapped = subst (AreControls (controls_of most places hashes xs)) (sym length-table) (written_are cap hashes qs);
          tagged = subst (λ n. AreTagged (table_of most places hashes xs) (take n (controls_of most places hashes xs))) (sym length-table) (written_tagged cap hashes xs qs even tags);
          each_is = controls_are cap hashes qs tags;
        }
