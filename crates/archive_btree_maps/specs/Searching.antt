-- What a search returns.
use Rattle.std.specs.Prelude.{◌≡◌, ℕ, ◌<◌, ◌≤◌, List, Option, All, Contains, IfSome}
use Rattle.std.specs.declared.cmp.Ordering.{Ordering}
use Rattle.std.specs.declared.cmp.Ordering.TheVariants.{Less, Equal, Greater}
use Rattle.archive_btree_layout.specs.Reading.{Place}
use Rattle.archive_btree_maps.specs.SearchingNodes.{place_of}
use Rattle.archive_btree_maps.specs.declared.nodes.searching.node.EntryAt.{EntryAt}
use Rattle.archive_btree_maps.specs.declared.nodes.searching.search.Outcome.{Outcome}
use Rattle.archive_btree_maps.specs.declared.nodes.searching.search.Outcome.TheVariants.{Equals, Before}

-- the calls of a comparison at the keys of these places return what this order does
abbrev pub Orders : {F : Type 0} → (F → ℕ → Ordering → Type 0) → F → (Place → Ordering) → List Place → Type 0
Orders post f order places = All (λ e. (r : Ordering) → post f e.key r → r ≡ order e) places

-- what a search finds is one of these places, if it finds one, and a call returned that its key is equal to the query
abbrev pub IsAmong : {F : Type 0} → (F → ℕ → Ordering → Type 0) → F → List Place → Option EntryAt → Type 0
IsAmong post f places result = IfSome result (λ e. Contains places (place_of e) × post f e.key Equal)

-- the query is said to be above the first i keys, by what is said of the key at each index
abbrev pub AreBelow : (ℕ → Ordering → Type 0) → ℕ → Type 0
AreBelow says i = (j : ℕ) → j < i → says j Greater

-- what a search among `count` keys returns: the index of the key that is said to be equal, or of the first that the query
-- is said to be below; `count` where there is none
abbrev pub IsSaid : (ℕ → Ordering → Type 0) → ℕ → Outcome → Type 0
IsSaid says count (Equals i) = (i < count) × AreBelow says i × says i Equal
IsSaid says count (Before i) = (i ≤ count) × AreBelow says i × (i < count → says i Less)
