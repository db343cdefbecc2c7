-- Where a table of `cap` places is searched for a hash: strides of sixteen controls each.
use Rattle.std.specs.Prelude.{ℕ, zero, suc, ◌+◌, ◌*◌, ◌/◌, ◌%◌, cond, nat_le, nat_lt, List, map}
use Rattle.std.specs.List.{range_with_len, filter, flat_map}

-- the number of runs of sixteen that hold `cap` places
abbrev pub sixteens : ℕ → ℕ
sixteens cap = (cap + 15) / 16

-- doubled until it is not below n
abbrev pub doubled : ℕ → ℕ → ℕ → ℕ
doubled zero p n = p
doubled (suc times) p n = cond (nat_le n p) p (doubled times (2 * p) n)

-- the least power of two that is not below n
unfoldable pub least_power : ℕ → ℕ
least_power n = doubled n 1 n

-- The k-th stop: the first is the hash modulo the capacity, each next one is 16, then 32, then 48 .. further, modulo
-- the least power of two that is not below the capacity rounded up to sixteen.
unfoldable pub stop : ℕ → ℕ → ℕ → ℕ
stop hash cap k = (hash % cap + 8 * (k * (k + 1))) % (16 * least_power (sixteens cap))

-- n stops from the k-th on, without those that are not below the capacity rounded up to sixteen
unfoldable pub strides_from : ℕ → ℕ → ℕ → ℕ → List ℕ
strides_from hash cap k n = filter (λ p. nat_lt p (16 * sixteens cap)) (map (stop hash cap) (range_with_len k n))

-- where the strides begin
unfoldable pub strides : ℕ → ℕ → List ℕ
strides hash cap = strides_from hash cap 0 (least_power (sixteens cap))

-- the places of the controls below twice the capacity that a stride shows
abbrev pub places_shown : ℕ → ℕ → List ℕ
places_shown cap p = map (λ c. c % cap) (filter (λ c. nat_lt c (2 * cap)) (range_with_len p 16))

-- all places that the strides of a hash show, in order
unfoldable pub places_for : ℕ → ℕ → List ℕ
places_for hash cap = flat_map (places_shown cap) (strides hash cap)
