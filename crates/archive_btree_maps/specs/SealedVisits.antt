-- Calls of a closure with the keys of a map and seals of their values.
use denote.Ref.{MutBor}
use Rattle.std.specs.Prelude.{◌≡◌, ℕ, List, [], ◌∷◌, Option, Some, None}
use Rattle.std.specs.declared.ops.ControlFlow.{ControlFlow}
use Rattle.std.specs.declared.ops.ControlFlow.TheVariants.{Continue, Break}
use Rattle.archive_shape_layout.specs.Shape.{Shape}
use Rattle.archive_shape_layout.specs.Content.{Names}
use Rattle.archive_forms_values.specs.Loans.{MayCallLent, LeavesLent}
use Rattle.archive_shape.specs.declared.references.refs.Ref.{Ref}
use Rattle.archive_shape.specs.declared.references.own_seal.OwnSeal.{OwnSeal}
use Rattle.archive_btree_layout.specs.Reading.{Place}
use Rattle.archive_forms_values.specs.Parts.{HasValue}

-- the closure may be called with the key and the value of an entry
abbrev pub MayCallWith : {F K V : Type 0} → (F → Ref K → MutBor (OwnSeal V) → Type 0) → F → Shape → (Names → Type 0) → ℕ → List ℕ → Place → Type 0
MayCallWith pre f k knows size bytes e = MayCallLent size bytes e.key e.value (λ key. HasValue k knows key.bytes.now key.pos) (pre f)

-- it may be called so in any state that it may have reached
abbrev pub MayCallSealed : {F K V : Type 0} → (F → Ref K → MutBor (OwnSeal V) → Type 0) → Shape → (Names → Type 0) → ℕ → List ℕ → Place → Type 0
MayCallSealed {F} pre k knows size bytes e = (f : F) → MayCallWith pre f k knows size bytes e

-- a call is lent the key and the value of an entry of these bytes, has this result, and leaves other bytes
abbrev pub CallsSealed : {F R K V : Type 0} → (F → Ref K → MutBor (OwnSeal V) → R → MutBor (OwnSeal V) → F → Type 0) → ℕ → F → List ℕ → Place → R → F → List ℕ → Type 0
CallsSealed step size f bytes e answer g out = LeavesLent size bytes e.key e.value (λ key value left. step f key value answer left g) out

module _ {F B K V : Type 0} (step : F → Ref K → MutBor (OwnSeal V) → ControlFlow B (Unit {0}) → MutBor (OwnSeal V) → F → Type 0) (size : ℕ) where
  -- the calls at these entries, in order, up to the first that breaks: the result is the value that it breaks with, and
  -- the bytes are as the calls leave them
  pub data VisitsSealed : F → List ℕ → List Place → Option B → F → List ℕ → Type 0 where
    none_left :
        {f g : F} {bytes out : List ℕ} {es : List Place} {answer : Option B}
        → es ≡ []
        → answer ≡ None
        → g ≡ f
        → out ≡ bytes
        → VisitsSealed f bytes es answer g out
    breaks_at :
        {f g : F} {bytes out : List ℕ} {e : Place} {es rest : List Place} {answer : Option B} {value : B}
        → es ≡ e ∷ rest
        → answer ≡ Some value
        → CallsSealed step size f bytes e (Break value) g out
        → VisitsSealed f bytes es answer g out
    goes_on :
        {f g h : F} {bytes mid out : List ℕ} {e : Place} {es rest : List Place} {answer : Option B}
        → es ≡ e ∷ rest
        → CallsSealed step size f bytes e (Continue tt) g mid
        → VisitsSealed g mid rest answer h out
        → VisitsSealed f bytes es answer h out
