-- What calls of closures need and ensure that are lent a value with only its own bytes, of which there are `size`.
use denote.Ref.{MutBor}
use Rattle.std.specs.Prelude.{ℕ, List}
use Rattle.archive_shape.specs.declared.references.refs.Ref.{Ref}
use Rattle.archive_shape.specs.declared.references.own_seal.OwnSeal.{OwnSeal}
use Rattle.archive_forms_values.specs.Loans.{IsOwn, IsLent, LeavesOwn, LeavesLent}

module _ {V : Type 0} (size : ℕ) (bytes : List ℕ) (place : ℕ) where
  -- a call may be made with the value at a position
  abbrev pub MayVisitOwn : (MutBor (OwnSeal V) → Type 0) → Type 0
  MayVisitOwn pre = (value : MutBor (OwnSeal V)) → IsOwn size bytes place value.now → pre value

  -- a call was made with the value: it has this result, and leaves this closure and these bytes
  abbrev pub VisitsOwn : {F R : Type 0} → (MutBor (OwnSeal V) → R → MutBor (OwnSeal V) → F → Type 0) → R → F → List ℕ → Type 0
  VisitsOwn step result closure out = LeavesOwn size bytes place (λ value left. step value result left closure) out

module _ {K V : Type 0} (size : ℕ) (bytes : List ℕ) (key_place place : ℕ) where
  -- a call may be made with the key at one position and the value at another
  abbrev pub MayVisitEntry : (Ref K → MutBor (OwnSeal V) → Type 0) → Type 0
  MayVisitEntry pre = (key : Ref K) (value : MutBor (OwnSeal V)) → IsLent size bytes key_place place key value.now → pre key value

  -- a call was made with both: it has this result, and leaves this closure and these bytes
  abbrev pub VisitsEntry : {F R : Type 0} → (Ref K → MutBor (OwnSeal V) → R → MutBor (OwnSeal V) → F → Type 0) → R → F → List ℕ → Type 0
  VisitsEntry step result closure out = LeavesLent size bytes key_place place (λ key value left. step key value result left closure) out
