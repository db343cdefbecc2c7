-- What each function requires and ensures, where that is longer than a line. `says p b` holds if the comparison has the
-- result b for the item at place p.
use Rattle.std.specs.Prelude.{◌≡◌, ◌≢◌, ℕ, ◌+◌, ◌^◌, ◌<◌, ◌≤◌, ◌⊎◌, Bool, true, false, not, cond, List, [], ◌∷◌, length, map, position, slice_index, Option, Some, Result, IfSome, MatchOption, MatchResult}
use Rattle.std.specs.List.{prefix_len}
use Rattle.std.specs.Simd.Lanes.{mask_l, number_l}
use Rattle.archive_shape_canonical.specs.FirstFit.{capacity_for, hash_tag}
use Rattle.archive_shape_canonical.specs.Strides.{strides}
use Rattle.archive_shape_canonical.specs.Reach.{searched, Reaches}
use Rattle.archive_shape_layout.specs.declared.error.Error.{Error}
use Rattle.archive_shape_layout.specs.declared.error.Error.TheVariants.{InvalidLoadFactor, LengthTooLarge}
use Rattle.archive_hash_probing.specs.Controls.{with_control}
use Rattle.archive_hash_probing.specs.Loads.{IsLoadFactor}
use Rattle.archive_hash_probing.specs.Scanning.{IsMatch}
use Rattle.archive_hash_probing.specs.Search.{shows, IsFoundIn, IsRefused}
use Rattle.archive_hash_probing.specs.Stops.{strides_left}
use Rattle.archive_hash_probing.specs.Words.{marks_from, AreBytes}
use Rattle.archive_hash_probing.specs.declared.places.strides.Stop.{Stop}

-- ---- scans

-- the mask marks what a search for a tag may mark among some controls
abbrev pub MarksTag : (tag : ℕ) (controls : List ℕ) (mask : ℕ) → Type 0
MarksTag tag controls mask = (marks : List Bool) × (mask ≡ mask_l marks) × IsMatch tag controls marks

-- the lane is the lowest that a mask marks, if it marks one
abbrev pub FindsLowest : (mask : ℕ) (lane : Option ℕ) → Type 0
FindsLowest mask lane =
    (marks : List Bool) → length marks ≤ 64 → mask ≡ mask_l marks → lane ≡ position (λ mark. mark) marks

-- marks as the high bits of the bytes of a word
abbrev pub high_bits : List Bool → ℕ
high_bits marks = number_l 256 (map (λ m. cond m 128 0) marks)

-- the high bits of another word mark the bytes of this one that the subtraction marks
abbrev pub MarksBytes : (word high : ℕ) → Type 0
MarksBytes word high =
    (xs : List ℕ) → length xs ≡ 8 → AreBytes xs → word ≡ number_l 256 xs → high ≡ high_bits (marks_from xs 0)

-- the mask marks the lanes that the high bits of a word mark
abbrev pub GathersMarks : (word mask : ℕ) → Type 0
GathersMarks word mask = (marks : List Bool) → length marks ≡ 8 → word ≡ high_bits marks → mask ≡ mask_l marks

-- ---- strides

-- the first element is passed, if there is one
abbrev pub PassesFirst : {A : Type 0} (before : List A) (first : Option A) (after : List A) → Type 0
PassesFirst before first after = MatchOption first ((before ≡ []) × (after ≡ [])) (λ x. before ≡ x ∷ after)

-- the next stride of those that begin before an end is passed, if there is one
abbrev pub PassesStride : (end : ℕ) (old : Stop) (stride : Option ℕ) (new : Stop) → Type 0
PassesStride end old stride new =
    PassesFirst (strides_left end old.count old.passed old.position) stride (strides_left end new.count new.passed new.position)

-- the number of strides up to the first that shows a place
abbrev pub strides_to : (controls : List ℕ) (hash cap place : ℕ) → ℕ
strides_to controls hash cap place = prefix_len (λ p. not (shows cap place p)) (searched controls (strides hash cap)) + 1

-- ---- first fit

-- the number of places for `len` items, or the first limit that does not hold
abbrev pub CountsPlaces : (len : ℕ) (load_factor : ℕ × ℕ) (result : Result ℕ Error) → Type 0
CountsPlaces len load_factor result =
    MatchResult result
    (λ capacity. IsLoadFactor load_factor × (capacity ≡ capacity_for len load_factor.0 load_factor.1) × (capacity < 2 ^ 32))
    (λ e. ((IsLoadFactor load_factor → ⊥) × (e ≡ InvalidLoadFactor))
    ⊎ (IsLoadFactor load_factor × (2 ^ 32 ≤ capacity_for len load_factor.0 load_factor.1) × (e ≡ LengthTooLarge)))

-- the tag of a hash is written at the place, if there is one
abbrev pub WritesTag : (old : List ℕ) (cap hash : ℕ) (place : Option ℕ) (new : List ℕ) → Type 0
WritesTag old cap hash place new = IfSome place (λ p. new ≡ with_control old cap p (hash_tag hash))

-- no two of the first n places are the same
abbrev pub AreDistinct : (places : List ℕ) (n : ℕ) → Type 0
AreDistinct places n = (i j : ℕ) → i < j → j < n → slice_index places i ≢ slice_index places j

-- a search for each hash reaches its place
abbrev pub AreReached : (controls : List ℕ) (cap : ℕ) (hashes places : List ℕ) → Type 0
AreReached controls cap hashes places =
    (j : ℕ) → j < length hashes → Reaches controls (slice_index hashes j) cap (slice_index places j)

-- the control of each place is the tag of its hash
abbrev pub AreTagged : (controls hashes places : List ℕ) → Type 0
AreTagged controls hashes places =
    (j : ℕ) → j < length hashes → slice_index controls (slice_index places j) ≡ hash_tag (slice_index hashes j)

-- ---- look-ups

-- a fact holds at each full place
abbrev pub AtFullPlaces : (controls : List ℕ) (cap : ℕ) (fact : ℕ → Type 0) → Type 0
AtFullPlaces controls cap fact = (place : ℕ) → place < cap → slice_index controls place < 128 → fact place

module _ (says : ℕ → Bool → Type 0) where
  -- the comparison does not both accept and refuse the item at a place
  abbrev pub IsDecided : (place : ℕ) → Type 0
  IsDecided place = says place true → says place false → ⊥

  -- a place is full, and its item is accepted
  abbrev pub HasAccepted : (controls : List ℕ) (cap place : ℕ) → Type 0
  HasAccepted controls cap place = (place < cap) × (slice_index controls place < 128) × says place true

  -- the place is that of the first item of a stride that has the tag and is accepted, if there is one
  abbrev pub FindsInStride : (controls : List ℕ) (cap tag stride : ℕ) (place : Option ℕ) → Type 0
  FindsInStride controls cap tag stride place =
      MatchOption place
      (IsRefused (λ p. says p true) (λ p. says p false) controls cap tag stride)
      (λ p. IsFoundIn (λ q. says q true) (λ q. says q false) controls cap tag stride p)

  -- an item is found that is the only one that can be accepted, has the hash's tag and is in its reach
  abbrev pub FindsReached : (controls : List ℕ) (cap hash : ℕ) (found : Option ℕ) → Type 0
  FindsReached controls cap hash found =
      (place : ℕ) → Reaches controls hash cap place → slice_index controls place ≡ hash_tag hash
      → (says place false → ⊥) → AtFullPlaces controls cap (λ p. says p true → p ≡ place) → found ≡ Some place

  -- ---- of the items that were inserted at these places, in this order

  -- the comparison does not both accept and refuse any of the first n
  abbrev pub AreDecided : (places : List ℕ) (n : ℕ) → Type 0
  AreDecided places n = (i : ℕ) → i < n → IsDecided (slice_index places i)

  -- only those of a hash are accepted
  abbrev pub AcceptsOnly : (places hashes : List ℕ) (hash : ℕ) → Type 0
  AcceptsOnly places hashes hash =
      (i : ℕ) → i < length hashes → says (slice_index places i) true → slice_index hashes i ≡ hash

  -- none of the first n is accepted
  abbrev pub AcceptsNone : (places : List ℕ) (n : ℕ) → Type 0
  AcceptsNone places n = (i : ℕ) → i < n → says (slice_index places i) true → ⊥

  -- the one of the first n that is accepted and has none before it that is accepted, if there is one, is found
  abbrev pub FindsFirst : (places : List ℕ) (n : ℕ) (found : Option ℕ) → Type 0
  FindsFirst places n found =
      (j : ℕ) → j < n → says (slice_index places j) true → AcceptsNone places j → found ≡ Some (slice_index places j)
