-- The result of a look-up along strides. `accepted p` and `refused p` state the result of the comparison for the item
-- at place p.
use Rattle.std.specs.Prelude.{◌≡◌, ℕ, ◌+◌, ◌%◌, ◌<◌, ◌==◌, Bool, true, false, List, ◌∷◌, ◌++◌, length, slice_index, Option, Some, None}
use Rattle.std.specs.List.{All, list_any}
use Rattle.archive_shape_canonical.specs.FirstFit.{hash_tag}
use Rattle.archive_shape_canonical.specs.Strides.{strides, places_shown}
use Rattle.archive_shape_canonical.specs.Reach.{searched}

module _ (accepted refused : ℕ → Type 0) (controls : List ℕ) (cap tag : ℕ) where
  -- every item of a stride that has the tag was refused
  abbrev pub IsRefused : ℕ → Type 0
  IsRefused p = (k : ℕ) → k < 16 → slice_index controls (p + k) ≡ tag → refused ((p + k) % cap)

  -- an item of a stride that has the tag and is accepted, where every item before it that has the tag was refused; its
  -- place is full
  pub record IsFoundIn (p place : ℕ) : Type 0 where
    pub lane : ℕ
    pub within : lane < 16
    pub place_is : place ≡ (p + lane) % cap
    pub full : slice_index controls (p + lane) < 128
    pub tagged : slice_index controls (p + lane) ≡ tag
    pub taken : accepted place
    pub before : (k : ℕ) → k < lane → slice_index controls (p + k) ≡ tag → refused ((p + k) % cap)

  -- the same among strides, of which n were searched
  pub record IsFoundAmong (strides : List ℕ) (place n : ℕ) : Type 0 where
    pub prior : List ℕ
    pub stride : ℕ
    pub later : List ℕ
    pub strides_are : strides ≡ prior ++ stride ∷ later
    pub count : n ≡ length prior + 1
    pub refused_before : All IsRefused prior
    pub found : IsFoundIn stride place

  abbrev pub IsAnswer : List ℕ → Option ℕ → ℕ → Type 0
  IsAnswer strides None n = (n ≡ length strides) × All IsRefused strides
  IsAnswer strides (Some place) n = IsFoundAmong strides place n

-- a stride shows a place
abbrev pub shows : ℕ → ℕ → ℕ → Bool
shows cap place p = list_any (λ q. place == q) (places_shown cap p)

-- the result of a look-up of a hash, where `says p b` holds if the comparison has the result b for the item at place p
abbrev pub IsLookup : (ℕ → Bool → Type 0) → List ℕ → ℕ → ℕ → Option ℕ → ℕ → Type 0
IsLookup says controls cap hash place n =
    IsAnswer (λ p. says p true) (λ p. says p false) controls cap (hash_tag hash) (searched controls (strides hash cap)) place n
