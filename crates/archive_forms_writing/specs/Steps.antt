-- The contract of a step that writes the data of an element, where a form calls it for its elements.
use Rattle.std.specs.Prelude.{◌≡◌, ℕ, ◌-◌, ◌^◌, ◌<◌, List, Result, length, get_or, Option, Some, None, Ok, Err, [], ◌∷◌}
use denote.Ref.{MutBor}
use denote.Bor.{Bor}
use denote.Param.Members.{Shared}
use Rattle.archive_shape_layout.specs.Writing.{WriterMembers}
use Rattle.archive_shape_layout.specs.declared.error.Error.{Error}
use Rattle.archive_forms_laws.specs.Spelling.{Spelling}
use Rattle.archive_forms_laws.specs.Serializing.{HasState, SerializesBy}

-- an element of a list
abbrev pub IsElement : {A : Type 0} → List A → A → Type 0
IsElement items x = (i : ℕ) × (i < length items) × (x ≡ get_or items i x)

-- the value of an option, if there is one
abbrev pub elements_of : {A : Type 0} → Option A → List A
elements_of None = []
elements_of (Some x) = x ∷ []

-- the value of a result, if it has one, and its error, if it has one
abbrev pub values_of : {A B : Type 0} → Result A B → List A
values_of (Ok x) = x ∷ []
values_of (Err y) = []

abbrev pub errors_of : {A B : Type 0} → Result A B → List B
errors_of (Ok x) = []
errors_of (Err y) = y ∷ []

module _ {F A S Q : Type 0} (call : Shared F (Bor A × (MutBor S × Unit {0})) (Result Q Error × (MutBor S × Unit {0}))) where
  -- it may be called for each of the elements
  abbrev pub StepTakes : WriterMembers S → F → List A → Type 0
  StepTakes members step items =
      (x : Bor A) (s : MutBor S)
      → IsElement items x.now
      → members.failures s.now < 2 ^ 64 - 1
      → HasState members.pos members.known s.now
      → call.pre step (x, (s, tt))

  -- each call writes the data of its element, and returns the resolver
  abbrev pub StepWrites : {R : Type 0} → (Q → R) → Spelling A R → WriterMembers S → F → Type 0
  StepWrites kept w members step =
      (x : Bor A) (old new : MutBor S) (result : Result Q Error)
      → members.failures old.now < 2 ^ 64 - 1
      → HasState members.pos members.known old.now
      → call.post step (x, (old, tt)) (result, (new, tt))
      → SerializesBy kept w members x.now old.now new.now result
