-- The escaped keys of a kept map up to now, and one more.
use denote.Ref.{Bor}
use Rattle.std.specs.Prelude.{◌≡◌, ℕ, ◌-◌, Bool, true, false, ◌||◌, List, length, slice_get, Option, Some, MatchOption}
use Rattle.std.specs.declared.cmp.Ordering.TheVariants.{Less}
use Rattle.std.specs.Cmp.Lexicographic.{slice_cmp}
use Rattle.std.specs.List.{list_any}
use Rattle.std.specs.List.Sorted.{IsStrictlySortedBy}
use Rattle.std.specs.Ordering.{nat_cmp}
use Rattle.std.specs.Str.{bytes_eq}
use Rattle.cabinet_text_reading.specs.declared.stack.seen.SeenKeys.{SeenKeys}
use Rattle.cabinet_text_reading.specs.declared.stack.seen.SeenKeys.TheVariants.{Ascending, Any}

abbrev pub seen_keys : SeenKeys → List (Bor (List ℕ))
seen_keys (Ascending v) = v.items
seen_keys (Any s) = s.keys

-- whether a key has these bytes
abbrev pub has_key : List ℕ → List (Bor (List ℕ)) → Bool
has_key bytes ks = list_any (λ k. bytes_eq bytes k.now) ks

-- each key is below those after it
abbrev pub KeysAscend : List (Bor (List ℕ)) → Type 0
KeysAscend ks = IsStrictlySortedBy (λ x y. slice_cmp nat_cmp x.now y.now) ks

-- the keys that are kept as ascending ones ascend
abbrev pub AreInOrder : SeenKeys → Type 0
AreInOrder (Ascending v) = KeysAscend v.items
AreInOrder (Any s) = Unit {0}

-- the last key, if there are keys, is below these bytes
abbrev pub IsAbove : List (Bor (List ℕ)) → List ℕ → Type 0
IsAbove ks bytes = (last : Bor (List ℕ)) → slice_get ks (length ks - 1) ≡ Some last → slice_cmp nat_cmp last.now bytes ≡ Less

-- the keys with one more that none of them is, unless one of them is that
abbrev pub AddsKey : List (Bor (List ℕ)) → List ℕ → Option SeenKeys → Type 0
AddsKey ks key result =
    MatchOption result (has_key key ks ≡ true)
    (λ seen. (has_key key ks ≡ false) × AreInOrder seen × ((bytes : List ℕ) → has_key bytes (seen_keys seen) ≡ (bytes_eq bytes key || has_key bytes ks)))
