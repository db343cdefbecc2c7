-- The items of a map between two bounds.
use denote.Ref.{Bor}
use Rattle.std.specs.Prelude.{◌≡◌, ℕ, Bool, false, not, ◌&&◌, List, All, filter, ⊤, ◌⊎◌}
use Rattle.std.specs.Ordering.{is_lt, is_le, is_gt, is_ge}
use Rattle.std.specs.Range.Bound.{MatchBound}
use Rattle.std.specs.declared.cmp.Ordering.{Ordering}
use Rattle.std.specs.declared.ops.Bound.{Bound}
use Rattle.std.specs.declared.ops.Bound.TheVariants.{Included, Excluded, Unbounded}
use Rattle.archive_shape.specs.declared.references.refs.Ref.{Ref}
use Rattle.archive_btree_layout.specs.Reading.{Place}
use Rattle.archive_btree_layout.specs.Descent.{Ascends}
use Rattle.archive_btree_maps.specs.Lookups.{CallsOrder}
use Rattle.archive_btree_maps.specs.Refs.{key_at}

-- `order` says how the query of a bound compares with the key at a place
module _ {Q : Type 0} (order : Q → Place → Ordering) where
  -- the item at a place lies before a range with this lower bound
  abbrev pub is_before : Bound Q → Place → Bool
  is_before (Included query) e = is_gt (order query e)
  is_before (Excluded query) e = is_ge (order query e)
  is_before Unbounded e = false

  -- the item lies after a range with this upper bound
  abbrev pub is_behind : Bound Q → Place → Bool
  is_behind (Included query) e = is_lt (order query e)
  is_behind (Excluded query) e = is_le (order query e)
  is_behind Unbounded e = false

  -- the items that lie neither before nor after the range
  abbrev pub items_between : Bound Q → Bound Q → List Place → List Place
  items_between start end = filter (λ e. not (is_before start e) && not (is_behind end e))

-- P holds of the query of a bound, if it has one
abbrev pub OfQuery : {Q : Type 0} → (Q → Type 0) → Bound Q → Type 0
OfQuery P bound = MatchBound bound P P ⊤

-- P holds of the queries of both bounds
abbrev pub OfQueries : {Q : Type 0} → (Q → Type 0) → Bound Q → Bound Q → Type 0
OfQueries P start end = OfQuery P start × OfQuery P end

-- the result of a call with the query of a bound and the key at a position decides whether the key lies before the
-- range
abbrev pub TellsBefore : {F Q : Type 0} → (F → Q → ℕ → Ordering → Type 0) → F → Bound Q → ℕ → Bool → Type 0
TellsBefore post f (Included query) at answer = (r : Ordering) × post f query at r × (answer ≡ is_gt r)
TellsBefore post f (Excluded query) at answer = (r : Ordering) × post f query at r × (answer ≡ is_ge r)
TellsBefore post f Unbounded at answer = answer ≡ false

-- or after it
abbrev pub TellsBehind : {F Q : Type 0} → (F → Q → ℕ → Ordering → Type 0) → F → Bound Q → ℕ → Bool → Type 0
TellsBehind post f (Included query) at answer = (r : Ordering) × post f query at r × (answer ≡ is_lt r)
TellsBehind post f (Excluded query) at answer = (r : Ordering) × post f query at r × (answer ≡ is_le r)
TellsBehind post f Unbounded at answer = answer ≡ false

-- the calls with a query at the keys of these places return what this order does, by which the keys ascend
abbrev pub OrdersCalls : {F Q : Type 0} → (F → Q → ℕ → Ordering → Type 0) → F → Q → (Place → Ordering) → List Place → Type 0
OrdersCalls post f query order places = All (λ e. (r : Ordering) → post f query e.key r → r ≡ order e) places × Ascends order places

-- the calls with this query, regardless of where it lies, return what this order does
abbrev pub CallsOrderOf : {F Q K : Type 0} → (F → Bor Q → Ref K → Ordering → Type 0) → F → Q → Bor (List ℕ) → (Place → Ordering) → List Place → Type 0
CallsOrderOf post f query bytes order places = (lent : _) → lent.now ≡ query → CallsOrder post f lent bytes order places

-- this is the query of a bound
abbrev pub IsQueryOf : {Q : Type 0} → Q → Bound Q → Type 0
IsQueryOf query bound = MatchBound bound (λ q. q ≡ query) (λ q. q ≡ query) ⊥

-- the closure may be called with the query of each bound, regardless of where it lies, and the key at a place
abbrev pub MayCompare : {F Q K : Type 0} → (F → Bor Q → Ref K → Type 0) → F → Type 0 → Bound Q → Bound Q → Bor (List ℕ) → Place → Type 0
MayCompare pre f known start end bytes e = (lent : _) → (known → IsQueryOf lent.now start ⊎ IsQueryOf lent.now end) → pre f lent (key_at bytes e)
