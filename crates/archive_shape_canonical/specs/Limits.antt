-- The fields of a value that exceed the limits of the format, by sizes and positions in whole numbers, and the error of
-- each limit.
use Rattle.std.specs.Prelude.{◌≡◌, ℕ, ◌+◌, ◌^◌, ◌<◌, ◌≤◌, List, [], ◌∷◌, ◌++◌, map, ◌⊎◌, ⊤}
use Rattle.archive_shape_layout.specs.Bytes.{align_up}
use Rattle.archive_shape_layout.specs.Shape.{Shape, Pointee, align_of}
use Rattle.archive_shape_layout.specs.Value.{Value}
use Rattle.archive_shape_layout.specs.Content.{Names}
use Rattle.archive_shape_layout.specs.declared.error.Error.{Error}
use Rattle.archive_shape_layout.specs.declared.error.Error.TheVariants.{StringTooLong, LengthTooLarge, PositionTooLarge, IsizeOverflow}
use Rattle.archive_shape_canonical.specs.Settled.{Fit}
use Rattle.archive_shape_canonical.specs.Sharing.{end_of_shared}
use Rattle.archive_shape_canonical.specs.Plan.{Target, Plan, flat, parts, leads, leads_to_text, counts, Plans, no_plans, more_plans, HasPlan}

-- ---- what a value stores in fields of a limited width

pub data Field : Type 0 where
  -- a pointer from a position to another
  offset : (from to : ℕ) → Field
  -- where a region begins
  position : ℕ → Field
  -- a number of elements, of bytes of a shared text, of items or of places
  count : ℕ → Field
  -- the number of bytes of a text out of line
  text_length : ℕ → Field

-- an offset is an i32, positions and counts are u32, and the length of a text has 30 bits
abbrev pub IsFieldPast : Field → Error → Type 0
IsFieldPast (offset from to) e = ((from + 2 ^ 31 ≤ to) ⊎ (to + 2 ^ 31 < from)) × (e ≡ IsizeOverflow)
IsFieldPast (position n) e = (2 ^ 32 ≤ n) × (e ≡ PositionTooLarge)
IsFieldPast (count n) e = (2 ^ 32 ≤ n) × (e ≡ LengthTooLarge)
IsFieldPast (text_length n) e = (2 ^ 30 ≤ n) × (e ≡ StringTooLong)

abbrev pub IsSomePast : List Field → Error → Type 0
IsSomePast [] e = ⊥
IsSomePast (f ∷ fs) e = IsFieldPast f e ⊎ IsSomePast fs e

-- ---- the positions of a plan

-- a shared value that lies at a position
pub record Shared : Type 0 where
  pub pointee : Pointee
  pub value : Value
  pub pos : ℕ

-- the position of the next byte, and the shared values that lie before it
pub record State : Type 0 where
  pub pos : ℕ
  pub met : List Shared

abbrev pub moved : ℕ → State → State
moved pos st = record { pos = pos; met = st.met }

-- a pointee and a value are not among those that were seen; they were seen at a position
abbrev pub IsUnmet : Pointee → Value → List Shared → Type 0
IsUnmet q v [] = ⊤
IsUnmet q v (m ∷ ms) = (m.pointee ≡ q → m.value ≡ v → ⊥) × IsUnmet q v ms

abbrev pub IsMetAt : Pointee → Value → ℕ → List Shared → Type 0
IsMetAt q v pos [] = ⊥
IsMetAt q v pos (m ∷ ms) = (record { pointee = q; value = v; pos = pos } ≡ m) ⊎ IsMetAt q v pos ms

mutual
  -- Own bytes with a plan lie at a position, and what they lead to lies from a state on: the fields of all of it, and
  -- the state after it. A region begins at the least aligned position after what its contents lead to.
  pub data Lies : Plan → ℕ → State → List Field → State → Type 0 where
    lies_flat : {own : ℕ} {st : State} → Lies flat own st [] st
    lies_parts : {ps : Plans} {own : ℕ} {st behind : State} {fs : List Field} → LieAll ps own st fs behind → Lies (parts ps) own st fs behind
    lies_leads :
        {numbers : List ℕ} {t : Target} {p : Plan} {own start : ℕ} {st inner behind : State} {fs all : List Field}
        → Lies p start st fs inner
        → start ≡ align_up inner.pos t.align
        → behind ≡ moved (start + t.size) inner
        → all ≡ fs ++ position start ∷ (offset own (start + t.lead) ∷ map count numbers)
        → Lies (leads numbers t p) own st all behind
    lies_text :
        {n own : ℕ} {st behind : State} {all : List Field}
        → behind ≡ moved (st.pos + n) st
        → all ≡ position st.pos ∷ (offset own st.pos ∷ (text_length n ∷ []))
        → Lies (leads_to_text n) own st all behind
    lies_first :
        {q : Pointee} {v : Value} {numbers : List ℕ} {t : Target} {p : Plan} {own start : ℕ} {st inner behind : State} {fs all : List Field}
        → IsUnmet q v st.met
        → Lies p start st fs inner
        → start ≡ align_up inner.pos t.align
        → behind ≡ record { pos = end_of_shared start (start + t.size); met = record { pointee = q; value = v; pos = start } ∷ inner.met }
        → all ≡ fs ++ position start ∷ (offset own (start + t.lead) ∷ map count numbers)
        → Lies (counts q v numbers t p) own st all behind
    lies_later :
        {q : Pointee} {v : Value} {numbers : List ℕ} {t : Target} {p : Plan} {own : ℕ} {st : State} {all : List Field}
        → (pos : ℕ)
        → IsMetAt q v pos st.met
        → all ≡ offset own (pos + t.lead) ∷ map count numbers
        → Lies (counts q v numbers t p) own st all st

  pub data LieAll : Plans → ℕ → State → List Field → State → Type 0 where
    lie_none : {own : ℕ} {st : State} → LieAll no_plans own st [] st
    lie_more :
        {at own : ℕ} {p : Plan} {ps : Plans} {st between behind : State} {here there all : List Field}
        → Lies p (own + at) st here between
        → LieAll ps own between there behind
        → all ≡ here ++ there
        → LieAll (more_plans at p ps) own st all behind

-- ---- the whole

-- a value of a shape, written as a root from position 0 on, stores these fields
pub record Stores (fit : Fit) (names : Names) (s : Shape) (v : Value) (fields : List Field) : Type 0 where
  pub plan : Plan
  pub has_plan : HasPlan fit names s v plan
  pub root : ℕ
  pub inner : State
  pub within : List Field
  pub lies : Lies plan root (record { pos = 0; met = [] }) within inner
  pub root_is : root ≡ align_up inner.pos (align_of s)
  pub fields_are : fields ≡ within ++ position root ∷ []

-- what it stores exceeds a limit
pub record PastLimits (fit : Fit) (names : Names) (s : Shape) (v : Value) (e : Error) : Type 0 where
  pub fields : List Field
  pub stores : Stores fit names s v fields
  pub past : IsSomePast fields e
