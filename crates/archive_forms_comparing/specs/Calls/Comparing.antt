-- What calls that compare and hash archived values ensure, and those that compare and hash adjacent elements.
use Rattle.std.specs.Prelude.{◌≡◌, ℕ, List}
use Rattle.std.specs.List.{fold}
use Rattle.archive_shape_layout.specs.Shape.{Shape}
use Rattle.archive_shape_layout.specs.Value.{Value}
use Rattle.archive_shape_layout.specs.Content.{Names}
use Rattle.archive_shape.specs.Key.{HeldAt}
use Rattle.archive_shape.specs.declared.references.refs.Ref.{Ref}
use Rattle.archive_forms_laws.specs.Orders.{Hashed, vector_hashed}
use Rattle.archive_forms_values.specs.Parts.{AreElements}
use Rattle.archive_forms_values.specs.declared.reading.slice.SliceRef.{SliceRef}
use Rattle.archive_forms_comparing.specs.Compared.{OfValue, OfBoth, OfElements, IsElement}

-- the result is what a function returns for the two values
abbrev pub Compares : {T X : Type 0} → Shape → (Names → Type 0) → (this other : Ref T) → (Value → Value → X) → X → Type 0
Compares s knows this other f result = OfBoth s knows this.bytes.now this.pos other.bytes.now other.pos f result

-- a value is fed to a hasher
abbrev pub Hashes : {T H : Type 0} → Shape → (Names → Type 0) → (this : Ref T) → (write : H → List ℕ → H) → Hashed
    → (old new : H) → Type 0
Hashes s knows this write hashed old new = OfValue s knows this.bytes.now this.pos (λ v. fold write old (hashed v)) new

-- ---- elements, of values of a shape and of adjacent ones

-- each value of that shape has these elements
abbrev pub GivesElements : {T U : Type 0} → (shape s : Shape) → (Names → Type 0) → (this : Ref T) → SliceRef U → Type 0
GivesElements shape s knows this elements =
    (v : Value) → HeldAt shape knows this.bytes.now this.pos v → AreElements s knows elements.bytes.now elements.pos elements.len v

-- the element at an index
abbrev pub GivesElement : {T : Type 0} → Shape → (Names → Type 0) → SliceRef T → (index : ℕ) → Ref T → Type 0
GivesElement s knows elements index element =
    IsElement s knows elements.bytes.now elements.pos elements.len index element.bytes.now element.pos

-- the result is what a function returns for two values with these elements
abbrev pub ComparesElements : {T X : Type 0} → Shape → (Names → Type 0) → (these others : SliceRef T) → (Value → Value → X) → X → Type 0
ComparesElements s knows these others f result =
    OfElements s knows these.bytes.now these.pos these.len others.bytes.now others.pos others.len f result

-- a value with these elements is fed to a hasher
abbrev pub HashesElements : {T H : Type 0} → Shape → (Names → Type 0) → SliceRef T → (write : H → List ℕ → H) → Hashed
    → (old new : H) → Type 0
HashesElements s knows elements write hashed old new =
    (v : Value) → AreElements s knows elements.bytes.now elements.pos elements.len v → new ≡ fold write old (vector_hashed hashed v)
