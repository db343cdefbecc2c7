-- The places that a search for a hash visits.
use Rattle.std.specs.Prelude.{◌≡◌, ℕ, ◌==◌, Bool, true, cond, nat_le, List, [], ◌∷◌, take, drop}
use Rattle.std.specs.List.{list_any, flat_map}
use Rattle.archive_shape_canonical.specs.Strides.{strides, places_shown}

-- a control of no item
abbrev pub is_empty : ℕ → Bool
is_empty c = nat_le 128 c

-- the controls that a stride shows
abbrev pub shown : List ℕ → ℕ → List ℕ
shown controls p = take 16 (drop p controls)

-- strides up to and including the first that shows an empty control
abbrev pub searched : List ℕ → List ℕ → List ℕ
searched controls [] = []
searched controls (p ∷ ps) = p ∷ cond (list_any is_empty (shown controls p)) [] (searched controls ps)

-- the places that a search for a hash visits, in order
unfoldable pub reach : List ℕ → ℕ → ℕ → List ℕ
reach controls hash cap = flat_map (places_shown cap) (searched controls (strides hash cap))

-- a search for a hash visits a place
abbrev pub Reaches : List ℕ → ℕ → ℕ → ℕ → Type 0
Reaches controls hash cap place = list_any (λ p. place == p) (reach controls hash cap) ≡ true
