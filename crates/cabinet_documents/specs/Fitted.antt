-- The values of documents in which the pairs of each hashed map are in the order that first fit gives them.
use Rattle.std.specs.Prelude.{◌≡◌, ℕ, ◌≤◌, List}
use Rattle.archive_shape_layout.specs.Value.{Value, Values, count_values}
use Rattle.archive_shape_layout.specs.Value.Value.{group, chosen, counted}
use Rattle.archive_shape_layout.specs.Value.Values.{no_values, more_values}
use Rattle.archive_shape_canonical.specs.FirstFit.{ascending, keys_in, map_capacity, placed_keys}
use Rattle.archive_shape_canonical.specs.Hash.{text_hash}
use Rattle.cabinet_documents.specs.Denotes.{tagged_value, pair_value}

-- the keys of pairs, by ascending place, where first fit takes them in ascending order
abbrev pub AreFirstFit : Values → Type 0
AreFirstFit vs = keys_in vs ≡ placed_keys text_hash (map_capacity (count_values vs)) (ascending (keys_in vs))

mutual
  -- by the tags of the ten kinds
  pub data IsFitted : Value → Type 0 where
    leaf_is_fitted : {v w : Value} {tag : ℕ} → v ≡ tagged_value tag w → tag ≤ 3 → IsFitted v
    nothing_is_fitted : {v : Value} → v ≡ tagged_value 4 (chosen 0 no_values) → IsFitted v
    some_is_fitted : {v w : Value} → v ≡ tagged_value 4 (tagged_value 1 w) → IsFitted w → IsFitted v
    list_is_fitted : {v : Value} {vs : Values} → v ≡ tagged_value 5 (group vs) → AreFitted vs → IsFitted v
    ordered_is_fitted : {v : Value} {vs : Values} → v ≡ tagged_value 6 (group vs) → ArePairsFitted vs → IsFitted v
    hashed_is_fitted : {v : Value} {vs : Values} → v ≡ tagged_value 7 (group vs) → AreFirstFit vs → ArePairsFitted vs → IsFitted v
    kept_is_fitted : {v : Value} {vs : Values} → v ≡ tagged_value 8 (group vs) → ArePairsFitted vs → IsFitted v
    whole_is_fitted : {v w : Value} {at : ℕ} → v ≡ tagged_value 9 (counted at w) → IsFitted w → IsFitted v

  pub data AreFitted : Values → Type 0 where
    none_are_fitted : {vs : Values} → vs ≡ no_values → AreFitted vs
    more_are_fitted : {v : Value} {vs ws : Values} → ws ≡ more_values v vs → IsFitted v → AreFitted vs → AreFitted ws

  pub data ArePairsFitted : Values → Type 0 where
    no_pairs_are_fitted : {vs : Values} → vs ≡ no_values → ArePairsFitted vs
    more_pairs_are_fitted : {k : List ℕ} {v : Value} {vs ws : Values} → ws ≡ more_values (pair_value k v) vs → IsFitted v → ArePairsFitted vs → ArePairsFitted ws
