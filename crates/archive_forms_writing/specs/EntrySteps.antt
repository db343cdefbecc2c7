-- What the steps of keys and of values have to guarantee.
use Rattle.std.specs.Prelude.{[], ◌∷◌, Result}
use denote.Ref.{MutBor}
use denote.Bor.{Bor}
use denote.Param.Members.{Shared}
use Rattle.archive_shape_layout.specs.Writing.{WriterMembers}
use Rattle.archive_shape_layout.specs.declared.error.Error.{Error}
use Rattle.archive_forms_laws.specs.Spelling.{Spelling}
use Rattle.archive_forms_writing.specs.Steps.{StepTakes, StepWrites}

-- They may be called for the key and for the value of an entry, and each call writes the data of its key or value. A
-- resolver is seen in the result of a call.
pub record PartsWritten {A B R Q F G S C D : Type 0}
    (key : Shared F (Bor A × (MutBor S × Unit {0})) (Result C Error × (MutBor S × Unit {0})))
    (value : Shared G (Bor B × (MutBor S × Unit {0})) (Result D Error × (MutBor S × Unit {0})))
    (key_resolver : C → R) (value_resolver : D → Q) (keys : Spelling A R) (vals : Spelling B Q) (members : WriterMembers S) (f : F) (g : G) (e : A × B) : Type 0 where
  pub takes_key : StepTakes key members f (e.0 ∷ [])
  pub writes_key : StepWrites key key_resolver keys members f
  pub takes_value : StepTakes value members g (e.1 ∷ [])
  pub writes_value : StepWrites value value_resolver vals members g
