-- How a query compares with the keys of a map.
use denote.Ref.{Bor}
use Rattle.std.specs.Prelude.{◌≡◌, ℕ, List, Option, Some, IfSome, All, Contains}
use Rattle.std.specs.Option.{option_map}
use Rattle.std.specs.Ordering.{ordering_reverse}
use Rattle.std.specs.declared.cmp.Ordering.{Ordering}
use Rattle.std.specs.declared.cmp.Ordering.TheVariants.{Equal}
use Rattle.archive_shape_layout.specs.Shape.{Shape}
use Rattle.archive_shape.specs.declared.references.refs.Ref.{Ref}
use Rattle.archive_btree_layout.specs.Reading.{Place}
use Rattle.archive_btree_layout.specs.Tree.{Tree}
use Rattle.archive_btree_maps.specs.Descents.{DescendsTo}
use Rattle.archive_btree_maps.specs.Maps.{IsMapAt}
use Rattle.archive_btree_maps.specs.Refs.{key_at}

-- this order is how the query compares with the keys at these places: the reverse of how each key compares with the
-- query
abbrev pub QueryOrders : {Q : Type 0} → (List ℕ → ℕ → Q → Type 0) → (Q → Q → Ordering) → List ℕ → Q → (Place → Ordering) → List Place → Type 0
QueryOrders key_of key_order bytes query order places = All (λ e. (key : _) → key_of bytes e.key key → order e ≡ ordering_reverse (key_order key query)) places

-- what lies at a position compares as equal to a query
abbrev pub IsSameAs : {Q : Type 0} → (List ℕ → ℕ → Q → Type 0) → (Q → Q → Ordering) → List ℕ → ℕ → Q → Type 0
IsSameAs key_of key_order bytes pos query = (key : _) × key_of bytes pos key × (key_order key query ≡ Equal)

-- the key at a place compares as equal to a query
abbrev pub IsEqualKey : {Q : Type 0} → (List ℕ → ℕ → Q → Type 0) → (Q → Q → Ordering) → List ℕ → Q → Place → Type 0
IsEqualKey key_of key_order bytes query e = IsSameAs key_of key_order bytes e.key query

-- a call returns that the query is equal to the key at a place
abbrev pub CallsEqual : {F Q K : Type 0} → (F → Q → Ref K → Ordering → Type 0) → F → Q → Bor (List ℕ) → Place → Type 0
CallsEqual post f query bytes e = post f query (key_at bytes e) Equal

-- it does so regardless of where these bytes are lent
abbrev pub IsCalledEqual : {F Q K : Type 0} → (F → Q → Ref K → Ordering → Type 0) → F → Q → List ℕ → Place → Type 0
IsCalledEqual post f query bytes e = (lent : Bor (List ℕ)) × (lent.now ≡ bytes) × CallsEqual post f query lent e

-- what is found, if anything is, is what lies at one of these places, of which this holds
abbrev pub Finds : {A : Type 0} → (Place → A) → (Place → Type 0) → List Place → Option A → Type 0
Finds of holds places found = IfSome found (λ a. (e : Place) × Contains places e × holds e × (a ≡ of e))

-- the query compares with a key at a position as this order says
abbrev pub ComparesAt : {Q : Type 0} → (List ℕ → ℕ → Q → Type 0) → (Q → Q → Ordering) → List ℕ → Q → ℕ → Ordering → Type 0
ComparesAt key_of key_order bytes query pos order = (key : _) × key_of bytes pos key × (order ≡ ordering_reverse (key_order key query))

-- the query compares with the key at a place as this order says
abbrev pub QuerySays : {Q : Type 0} → (List ℕ → ℕ → Q → Type 0) → (Q → Q → Ordering) → List ℕ → Q → Place → Ordering → Type 0
QuerySays key_of key_order bytes query e order = ComparesAt key_of key_order bytes query e.key order

-- what is found is what lies at the entry that the search for the query ends at
abbrev pub LooksUp : {A Q : Type 0} → (Place → A) → (List ℕ → ℕ → Q → Type 0) → (Q → Q → Ordering) → List ℕ → Q → Tree Place → Option A → Type 0
LooksUp of key_of key_order bytes query t found = (entry : Option Place) × DescendsTo (QuerySays key_of key_order bytes query) t entry × (found ≡ option_map of entry)

-- the map at a position has a key that compares as equal to the query, where the search for the query ends
pub record HasKey {Q : Type 0} (key_of : List ℕ → ℕ → Q → Type 0) (key_order : Q → Q → Ordering) (bytes : List ℕ) (most : ℕ) (k v : Shape) (pos : ℕ) (query : Q) : Type 0 where
  pub search_tree : Tree Place
  pub entry : Place
  pub map : IsMapAt bytes most k v pos search_tree
  pub found : DescendsTo (QuerySays key_of key_order bytes query) search_tree (Some entry)

-- the calls at the keys of these places return what this order does
abbrev pub CallsOrder : {F Q K : Type 0} → (F → Q → Ref K → Ordering → Type 0) → F → Q → Bor (List ℕ) → (Place → Ordering) → List Place → Type 0
CallsOrder post f query bytes order places = All (λ e. (r : Ordering) → post f query (key_at bytes e) r → r ≡ order e) places
