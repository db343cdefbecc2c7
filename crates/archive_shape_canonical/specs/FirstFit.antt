-- First fit: the places of the items of tables and index maps whose keys are texts, by the hashes of their keys.
use Rattle.std.specs.Prelude.{ℕ, ◌+◌, ◌*◌, ◌/◌, ◌%◌, ◌^◌, Bool, true, false, ◌==◌, ◌&&◌, ◌||◌, not, cond, max, nat_lt, List, [], ◌∷◌, ◌++◌, map, Option, Some, None}
use Rattle.std.specs.Option.{unwrap_or}
use Rattle.std.specs.List.{find, filter_map, flat_map, list_any, range_with_len}
use Rattle.archive_shape_layout.specs.Value.{Value, Values, count_values}
use Rattle.archive_shape_layout.specs.Value.Value.{string, group}
use Rattle.archive_shape_layout.specs.Value.Values.{no_values, more_values}
use Rattle.archive_shape_canonical.specs.Settled.{Fit}
use Rattle.archive_shape_canonical.specs.Strides.{sixteens, places_for}

-- ---- keys

-- of a pair the bytes of its key
abbrev pub text_key : Value → List ℕ
text_key (group (more_values (string bs) vs)) = bs
text_key _ = []

abbrev pub keys_in : Values → List (List ℕ)
keys_in no_values = []
keys_in (more_values v vs) = text_key v ∷ keys_in vs

-- items with these keys alone
abbrev pub items_of : List (List ℕ) → Values
items_of [] = no_values
items_of (k ∷ ks) = more_values (group (more_values (string k) no_values)) (items_of ks)

-- as texts compare: byte by byte, and a text before those that it begins
abbrev pub comes_before : List ℕ → List ℕ → Bool
comes_before [] [] = false
comes_before [] (y ∷ ys) = true
comes_before (x ∷ xs) [] = false
comes_before (x ∷ xs) (y ∷ ys) = nat_lt x y || ((x == y) && comes_before xs ys)

abbrev pub put_in : List ℕ → List (List ℕ) → List (List ℕ)
put_in k [] = k ∷ []
put_in k (l ∷ ls) = cond (comes_before k l) (k ∷ (l ∷ ls)) (l ∷ put_in k ls)

abbrev pub ascending : List (List ℕ) → List (List ℕ)
ascending [] = []
ascending (k ∷ ks) = put_in k (ascending ks)

-- ---- places

-- the number of places of a table of `len` items, at a load of `most` items in `places` places: 0 for no items, else at
-- least one more than its items
abbrev pub capacity_for : ℕ → ℕ → ℕ → ℕ
capacity_for len most places = cond (len == 0) 0 (max (len * places / most) (len + 1))

-- seven items in eight places at most
abbrev pub map_capacity : ℕ → ℕ
map_capacity len = capacity_for len 7 8

-- none of those taken
abbrev pub is_free : List ℕ → ℕ → Bool
is_free taken p = not (list_any (λ q. q == p) taken)

-- each hash at the first place that its strides show and that no hash before it has
abbrev pub fitted_from : ℕ → List ℕ → List ℕ → List ℕ
fitted_from cap taken [] = []
fitted_from cap taken (hash ∷ hashes) =
    let place = unwrap_or (find (is_free taken) (places_for hash cap)) 0 in place ∷ fitted_from cap (taken ++ place ∷ []) hashes

-- the top seven bits of a hash
unfoldable pub hash_tag : ℕ → ℕ
hash_tag hash = hash / 2 ^ 57

-- the tag of the hash that a place was given to, ff for none
abbrev pub control_at : List ℕ → List ℕ → ℕ → ℕ
control_at [] places p = 255
control_at (hash ∷ hashes) [] p = 255
control_at (hash ∷ hashes) (place ∷ places) p = cond (place == p) (hash_tag hash) (control_at hashes places p)

-- all controls: those of the places twice in order, up to the number of controls, and ff after them
unfoldable pub written_controls : ℕ → List ℕ → List ℕ → List ℕ
written_controls cap hashes places =
    map (λ c. cond (nat_lt c (2 * cap)) (control_at hashes places (c % cap)) 255) (range_with_len 0 (16 * sixteens cap + 15))

-- the number of the one that has a place, counted from i
abbrev pub numbers_at : ℕ → List ℕ → ℕ → List ℕ
numbers_at i [] p = []
numbers_at i (q ∷ qs) p = cond (q == p) (i ∷ []) (numbers_at (i + 1) qs p)

-- the one of these that has a place, where each has the place beside it
abbrev pub item_at : {C : Type 0} → List C → List ℕ → ℕ → Option C
item_at [] qs p = None
item_at (x ∷ xs) [] p = None
item_at (x ∷ xs) (q ∷ qs) p = cond (q == p) (Some x) (item_at xs qs p)

-- the item at each of `cap` places, if there is one
abbrev pub placed : {C : Type 0} → ℕ → List ℕ → List C → List (Option C)
placed cap qs xs = map (item_at xs qs) (range_with_len 0 cap)

-- the items there, by ascending place
abbrev pub present : {C : Type 0} → List (Option C) → List C
present os = filter_map (λ o. o) os

module _ (hash : List ℕ → ℕ) where
  abbrev pub places_of : ℕ → List (List ℕ) → List ℕ
  places_of cap keys = fitted_from cap [] (map hash keys)

  abbrev pub controls_of : ℕ → List (List ℕ) → List ℕ
  controls_of cap keys = written_controls cap (map hash keys) (places_of cap keys)

  -- by ascending place
  abbrev pub numbers_of : ℕ → List (List ℕ) → List ℕ
  numbers_of cap keys = let places = places_of cap keys in flat_map (numbers_at 0 places) (range_with_len 0 cap)

  abbrev pub placed_keys : ℕ → List (List ℕ) → List (List ℕ)
  placed_keys cap keys = present (placed cap (places_of cap keys) keys)

  -- a table takes its items by ascending keys, an index map in its own order
  abbrev pub first_fit : Fit
  first_fit = record {
    binds = true;
    capacity = map_capacity;
    table_controls = λ items. controls_of (map_capacity (count_values items)) (ascending (keys_in items));
    table_items = λ items. items_of (placed_keys (map_capacity (count_values items)) (ascending (keys_in items)));
    map_controls = λ entries. controls_of (map_capacity (count_values entries)) (keys_in entries);
    map_numbers = λ entries. numbers_of (map_capacity (count_values entries)) (keys_in entries);
  }

-- ---- a finite map: its items by ascending keys

abbrev pub put_item : Value → Values → Values
put_item v no_values = more_values v no_values
put_item v (more_values u us) =
    cond (comes_before (text_key v) (text_key u)) (more_values v (more_values u us)) (more_values u (put_item v us))

abbrev pub by_key : Values → Values
by_key no_values = no_values
by_key (more_values v vs) = put_item v (by_key vs)
