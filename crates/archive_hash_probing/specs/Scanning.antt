-- What a scan of some controls marks. A control below 128 is a tag and its place is full; any other is empty.
use Rattle.std.specs.Prelude.{◌≡◌, ℕ, ◌<◌, Bool, true, false, nat_lt, List, length, slice_index, slice_index_or}

abbrev pub is_full : ℕ → Bool
is_full control = nat_lt control 128

-- What a search for a tag may mark: every equal control, and full ones only; the lowest mark is of an equal one.
pub record IsMatch (tag : ℕ) (controls : List ℕ) (marks : List Bool) : Type 0 where
  pub count : length marks ≡ length controls
  pub all : (k : ℕ) → k < length controls → slice_index controls k ≡ tag → slice_index_or marks k false ≡ true
  pub full : (k : ℕ) → slice_index_or marks k false ≡ true → slice_index controls k < 128
  pub lowest : (k : ℕ) → slice_index_or marks k false ≡ true → ((j : ℕ) → j < k → slice_index_or marks j false ≡ false)
      → slice_index controls k ≡ tag
