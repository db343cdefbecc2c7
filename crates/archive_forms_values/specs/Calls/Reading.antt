-- What calls that read options, results, elements and leaves ensure; `this` refers to what is read.
use denote.Ref.{Bor, MutBor}
use Rattle.std.specs.Prelude.{◌≡◌, ℕ, ◌+◌, ◌*◌, ◌<◌, ◌≤◌, ◌↔◌, ◌⊎◌, Bool, List, Option, Result, IsTrue, MatchOption, MatchResult}
use Rattle.std.specs.Bool.{MatchBool}
use Rattle.archive_shape_layout.specs.Shape.{Shape, size_of}
use Rattle.archive_shape_layout.specs.Shape.Shape.{result as result_shape}
use Rattle.archive_shape_layout.specs.Value.{Value}
use Rattle.archive_shape_layout.specs.Content.{Names}
use Rattle.archive_shape.specs.Key.{HeldAt}
use Rattle.archive_shape.specs.declared.references.refs.Ref.{Ref}
use Rattle.archive_shape.specs.declared.references.seal.Seal.{Seal}
use Rattle.archive_forms_values.specs.Parts.{HasValue, both, some_position, IsNoneAt, IsSomeAt, outcome_position, IsOkAt, IsErrAt, IsVecAt}

-- the only value that there is
abbrev pub ReadsValue : {T : Type 0} → Shape → (Names → Type 0) → Ref T → Value → Type 0
ReadsValue s knows this value = (v : Value) → HeldAt s knows this.bytes.now this.pos v → value ≡ v

-- ---- options

module _ (s : Shape) (knows : Names → Type 0) where
  -- whether the option at a position is none
  abbrev pub TellsNone : List ℕ → ℕ → Bool → Type 0
  TellsNone bytes pos answer = MatchBool answer (IsNoneAt s knows bytes pos) (IsSomeAt s knows bytes pos)

  -- whether it has a value
  abbrev pub TellsSome : List ℕ → ℕ → Bool → Type 0
  TellsSome bytes pos answer = MatchBool answer (IsSomeAt s knows bytes pos) (IsNoneAt s knows bytes pos)

  -- it has a value, and this is a reference to it
  abbrev pub RefersToSome : {T U : Type 0} → Ref T → Ref U → Type 0
  RefersToSome this r = (r.bytes ≡ this.bytes) × (r.pos ≡ some_position s this.pos) × IsSomeAt s knows this.bytes.now this.pos

  -- a reference to the value, if there is one
  abbrev pub FindsSome : {T U : Type 0} → Ref T → Option (Ref U) → Type 0
  FindsSome this found = MatchOption found (IsNoneAt s knows this.bytes.now this.pos) (λ r. RefersToSome this r)

  -- a seal of the value, if there is one
  abbrev pub SealsSome : {T U : Type 0} → Seal T → Option (Seal U) → Type 0
  SealsSome this found =
      MatchOption found
      (IsNoneAt s knows this.bytes.now this.pos)
      (λ r. (r.bytes.ghost_name ≡ this.bytes.ghost_name) × (r.bytes.now ≡ this.bytes.now)
      × (r.pos ≡ some_position s this.pos) × IsSomeAt s knows this.bytes.now this.pos)

  -- a reference to the value, or this error if there is none
  abbrev pub FindsSomeOr : {T U E : Type 0} → Ref T → E → Result (Ref U) E → Type 0
  FindsSomeOr this err found =
      MatchResult found (λ r. RefersToSome this r) (λ e. (e ≡ err) × IsNoneAt s knows this.bytes.now this.pos)

  -- a reference to the value, or another one if there is none
  abbrev pub GivesSomeOr : {T U : Type 0} → Ref T → (is_other : Type 0) → Ref U → Type 0
  GivesSomeOr this is_other r = (is_other × IsNoneAt s knows this.bytes.now this.pos) ⊎ RefersToSome this r

-- ---- results

module _ (s t : Shape) (knows others : Names → Type 0) where
  -- the result has some value
  abbrev pub HasResult : {T : Type 0} → Ref T → Type 0
  HasResult this = HasValue (result_shape s t) (both knows others) this.bytes.now this.pos

  -- whether the result at a position is a value
  abbrev pub TellsOk : List ℕ → ℕ → Bool → Type 0
  TellsOk bytes pos answer = MatchBool answer (IsOkAt s t knows others bytes pos) (IsErrAt s t knows others bytes pos)

  -- whether it is an error
  abbrev pub TellsErr : List ℕ → ℕ → Bool → Type 0
  TellsErr bytes pos answer = MatchBool answer (IsErrAt s t knows others bytes pos) (IsOkAt s t knows others bytes pos)

  -- it is a value, and this is a reference to it
  abbrev pub RefersToOk : {T U : Type 0} → Ref T → Ref U → Type 0
  RefersToOk this r = (r.bytes ≡ this.bytes) × (r.pos ≡ outcome_position s t this.pos) × IsOkAt s t knows others this.bytes.now this.pos

  -- it is an error, and this is a reference to it
  abbrev pub RefersToErr : {T U : Type 0} → Ref T → Ref U → Type 0
  RefersToErr this e = (e.bytes ≡ this.bytes) × (e.pos ≡ outcome_position s t this.pos) × IsErrAt s t knows others this.bytes.now this.pos

  -- a reference to the value or to the error
  abbrev pub FindsOutcome : {T U E : Type 0} → Ref T → Result (Ref U) (Ref E) → Type 0
  FindsOutcome this found = MatchResult found (λ r. RefersToOk this r) (λ e. RefersToErr this e)

  -- a reference to the value, if it is one
  abbrev pub FindsOk : {T U : Type 0} → Ref T → Option (Ref U) → Type 0
  FindsOk this found = MatchOption found (IsErrAt s t knows others this.bytes.now this.pos) (λ r. RefersToOk this r)

  -- a call may be made with a reference to the error, if it is one
  abbrev pub MayCallOnErr : {T E : Type 0} → Ref T → (Ref E → Type 0) → Type 0
  MayCallOnErr {E} this pre =
      IsErrAt s t knows others this.bytes.now this.pos
      → (e : Ref E) → (e.bytes ≡ this.bytes) → (e.pos ≡ outcome_position s t this.pos) → pre e

  -- a reference to the value; if it is an error, it is what a call returned for a reference to that
  abbrev pub GivesOkOr : {T U E : Type 0} → Ref T → (Ref E → Ref U → Type 0) → Ref U → Type 0
  GivesOkOr {E} this post r =
      RefersToOk this r
      ⊎ ((e : Ref E) × (e.bytes ≡ this.bytes) × (e.pos ≡ outcome_position s t this.pos)
      × IsErrAt s t knows others this.bytes.now this.pos × post e r)

-- ---- elements, of which `len` are adjacent from `start` on

-- the position of the element at an index, if it is in bounds
abbrev pub FindsPosition : Shape → (start len index : ℕ) → Option ℕ → Type 0
FindsPosition s start len index found = MatchOption found (len ≤ index) (λ at. (index < len) × (at ≡ start + index * size_of s))

-- a reference to that element
abbrev pub FindsElement : {U : Type 0} → Shape → Bor (List ℕ) → (start len index : ℕ) → Option (Ref U) → Type 0
FindsElement s bytes start len index found =
    MatchOption found (len ≤ index) (λ r. (index < len) × (r.bytes ≡ bytes) × (r.pos ≡ start + index * size_of s))

-- a seal of that element
abbrev pub SealsElement : {U : Type 0} → Shape → MutBor (List ℕ) → (start len index : ℕ) → Option (Seal U) → Type 0
SealsElement s bytes start len index found =
    MatchOption found
    (len ≤ index)
    (λ r. (index < len) × (r.bytes.ghost_name ≡ bytes.ghost_name) × (r.bytes.now ≡ bytes.now) × (r.pos ≡ start + index * size_of s))

-- a reference to the element of a vector at an index, if it is in bounds
abbrev pub FindsVecElement : {T U : Type 0} → Shape → (Names → Type 0) → Ref T → ℕ → Option (Ref U) → Type 0
FindsVecElement s knows this index found =
    (to len : ℕ) × IsVecAt s knows this.bytes.now this.pos to len × FindsElement s this.bytes to len index found

-- a seal of it
abbrev pub SealsVecElement : {T U : Type 0} → Shape → (Names → Type 0) → Seal T → ℕ → Option (Seal U) → Type 0
SealsVecElement s knows this index found =
    (to len : ℕ) × IsVecAt s knows this.bytes.now this.pos to len × SealsElement s this.bytes to len index found

-- whether a pointer has no elements; `leads` says where they begin and how many they are
abbrev pub TellsEmpty : {T : Type 0} → (List ℕ → ℕ → (to len : ℕ) → Type 0) → Ref T → Bool → Type 0
TellsEmpty leads this answer = (to len : ℕ) × leads this.bytes.now this.pos to len × (IsTrue answer ↔ (len ≡ 0))
