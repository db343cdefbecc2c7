-- The places of a table as the code holds them, and the results of its look-ups.
use denote.Ref.{Bor}
use Rattle.std.specs.Prelude.{◌≡◌, ℕ, ◌+◌, ◌*◌, ◌-◌, ◌<◌, ◌≤◌, nat_lt, List, filter, Bool, true, false, slice_index, Option, Some, None, IfSome, Contains}
use Rattle.std.specs.List.{range_with_len}
use Rattle.std.specs.Option.{option_map}
use Rattle.archive_shape_layout.specs.Shape.{Shape}
use Rattle.archive_shape.specs.declared.references.refs.Ref.{Ref}
use Rattle.archive_shape_canonical.specs.Strides.{sixteens}
use Rattle.archive_shape_canonical.specs.FirstFit.{hash_tag}
use Rattle.archive_shape_canonical.specs.Reach.{Reaches}
use Rattle.archive_hash_probing.specs.Search.{IsLookup}
use Rattle.archive_hash_maps.specs.Tables.{Buckets, item_position, item_positions}
use Rattle.archive_hash_maps.specs.declared.walking.buckets.BucketsAt.{BucketsAt}

-- the places that the code holds
abbrev pub held : BucketsAt → Buckets
held r = record { target = r.target; cap = r.capacity; controls = r.controls.now }

-- the places from `next` on whose controls are tags, in ascending order
abbrev pub places_from : List ℕ → ℕ → ℕ → List ℕ
places_from controls cap next = filter (λ p. nat_lt (slice_index controls p) 128) (range_with_len next (cap - next))

-- the result of a look-up of a hash, where `says at x` holds if x is the answer for the item at a position: the item's
-- position, and how many strides were searched; a table without places is not searched
pub data LooksUp (says : ℕ → Bool → Type 0) (s : Shape) (b : Buckets) (hash : ℕ) (found : Option ℕ) (strides : ℕ) : Type 0 where
  has_no_places : b.cap ≡ 0 → found ≡ None → strides ≡ 0 → LooksUp says s b hash found strides
  has_places :
      (place : Option ℕ)
      → found ≡ option_map (item_position s b.target) place
      → IsLookup (λ p x. says (item_position s b.target p) x) b.controls b.cap hash place strides
      → LooksUp says s b hash found strides

-- it finds the item of a place that is the only one that can be accepted, has the hash's tag and is in its reach
abbrev pub FindsTheOnly : (ℕ → Bool → Type 0) → Shape → Buckets → ℕ → Option ℕ → Type 0
FindsTheOnly says s b hash found =
    (place : ℕ)
    → Reaches b.controls hash b.cap place
    → slice_index b.controls place ≡ hash_tag hash
    → (says (item_position s b.target place) false → ⊥)
    → ((p : ℕ) → p < b.cap → slice_index b.controls p < 128 → says (item_position s b.target p) true → p ≡ place)
    → found ≡ Some (item_position s b.target place)

-- what is found is an item that was accepted
abbrev pub FindsAccepted : (ℕ → Bool → Type 0) → Shape → Buckets → Option ℕ → Type 0
FindsAccepted says s b found = IfSome found (λ at. Contains (item_positions s b) at × says at true)

-- the item at a position
abbrev pub item_at : {T : Type 0} → Bor (List ℕ) → ℕ → Ref T
item_at bytes at = record { bytes = bytes; pos = at; of = record {} }

-- the result of a look-up of the items: `item` is what the look-up returns for the item at a position
pub record Answers {A : Type 0} (says : ℕ → Bool → Type 0) (item : ℕ → A) (s : Shape) (b : Buckets) (hash : ℕ) (found : Option A) (strides : ℕ) : Type 0 where
  pub position : Option ℕ
  pub is : found ≡ option_map item position
  pub looks_up : LooksUp says s b hash position strides
  pub accepted : FindsAccepted says s b position
  pub only : FindsTheOnly says s b hash position
  pub few : strides ≤ sixteens b.cap

-- what calls return for the items
abbrev pub calls : {T F : Type 0} → (F → Ref T → Bool → Type 0) → F → Bor (List ℕ) → ℕ → Bool → Type 0
calls post accepts bytes at x = post accepts (item_at bytes at) x

-- a full place, its control, and its item, of this size
abbrev pub full_place : {T : Type 0} → Bor (List ℕ) → List ℕ → (target size : ℕ) → ℕ → ℕ × ℕ × Ref T
full_place bytes controls target size p = (p, slice_index controls p, item_at bytes (target - (p + 1) * size))
