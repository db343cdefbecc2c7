-- What calls that write the items of an iterator require and ensure. `gives` says which iterator is made of a value, and
-- `steps` what its calls return.
use Rattle.std.specs.Prelude.{◌≡◌, ℕ, ◌⊎◌, List, Option, Vec, Result, MatchResult}
use Rattle.std.specs.Global.{Global}
use Rattle.std.specs.Iterator.{Drains}
use denote.Ref.{MutBor}
use denote.Bor.{Bor}
use denote.Param.Members.{Shared}
use Rattle.archive_shape_layout.specs.Shape.{Shape}
use Rattle.archive_shape_layout.specs.Writing.{WriterMembers}
use Rattle.archive_shape_layout.specs.declared.error.Error.{Error}
use Rattle.archive_shape_layout.specs.declared.error.Error.TheVariants.{OutOfMemory}
use Rattle.archive_forms_laws.specs.Spelling.{Spelling}
use Rattle.archive_forms_values.specs.declared.reading.resolving.VecResolver.{VecResolver}
use Rattle.archive_forms_writing.specs.Claims.{RefusesMemory, SerializesClaimed}
use Rattle.archive_forms_writing.specs.Elements.{elements_spelling}
use Rattle.archive_forms_writing.specs.Steps.{StepTakes}

module _ {U I A : Type 0} (gives : U → I → Type 0) (steps : I → Option A → I → Type 0) where
  -- the items are collected, or an allocation fails
  abbrev pub CollectsItems : U → Result (Vec A Global) Error → Type 0
  CollectsItems iter result =
      MatchResult result
      (λ all. (it : I) × gives iter it × Drains steps it all.items)
      (λ e. e ≡ OutOfMemory)

  -- the step may be called for each of them
  abbrev pub StepTakesItems : {F S Q : Type 0} → Shared F (Bor A × (MutBor S × Unit {0})) (Result Q Error × (MutBor S × Unit {0}))
      → WriterMembers S → F → U → Type 0
  StepTakesItems call members step iter =
      (it : I) (xs : List A) → gives iter it → Drains steps it xs → StepTakes call members step xs

  -- the elements of a vector are written, which are the items, as many as are claimed
  abbrev pub SerializesItems : {R S : Type 0} → Shape → Spelling A R → WriterMembers S
      → U → (claimed : ℕ) → S → S → Result VecResolver Error → Type 0
  SerializesItems s w members iter claimed old new result =
      RefusesMemory old new result
      ⊎ ((it : I) × (xs : List A) × gives iter it × Drains steps it xs
      × SerializesClaimed (elements_spelling s w) members claimed xs old new result)
