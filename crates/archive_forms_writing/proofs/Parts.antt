-- Steps that may be called for the keys and for the values of entries may be called for each entry.
use denote.Ref.{MutBor}
use denote.Bor.{Bor}
use denote.Param.Members.{Shared}
use Rattle.std.proofs.Common.{◌≡◌, ℕ, zero, suc, ◌<◌, List, [], ◌∷◌, length, map, get_or, All, Result, sym, ◌∙◌, arith}
use Rattle.std.proofs.lemmas.List.{length-map, get_or-map}
use Rattle.archive_shape_layout.specs.Writing.{WriterMembers}
use Rattle.archive_shape_layout.specs.declared.error.Error.{Error}
use Rattle.archive_forms_laws.specs.Spelling.{Spelling}
use Rattle.archive_forms_writing.specs.Steps.{IsElement, StepTakes, StepWrites}
use Rattle.archive_forms_writing.specs.EntrySteps.{PartsWritten}

-- the part of one entry is among the parts of all
part_among : {A B : Type 0} (part : A → B) (es : List A) (k : ℕ) (d : A) (y : B) → k < length es → IsElement (part (get_or es k d) ∷ []) y → IsElement (map part es) y
part_among part es k d y less h = by h.0 h.1 h.2
  where
    by : (i : ℕ) → i < 1 → y ≡ get_or (part (get_or es k d) ∷ []) i y → IsElement (map part es) y
    by zero first e = (k, omega (arith, less, length-map es part), e ∙ sym (get_or-map part es k d y less))
    by (suc i) first e = absurd (omega (arith, first))

module _ {A B R Q F G S C D : Type 0}
    (key : Shared F (Bor A × (MutBor S × Unit {0})) (Result C Error × (MutBor S × Unit {0})))
    (value : Shared G (Bor B × (MutBor S × Unit {0})) (Result D Error × (MutBor S × Unit {0})))
    (key_resolver : C → R) (value_resolver : D → Q) (keys : Spelling A R) (vals : Spelling B Q) (members : WriterMembers S) (f : F) (g : G) where
  pub parts_written : (es : List (A × B))
      → StepTakes key members f (map (λ e. e.0) es) → StepWrites key key_resolver keys members f
      → StepTakes value members g (map (λ e. e.1) es) → StepWrites value value_resolver vals members g
      → All (PartsWritten key value key_resolver value_resolver keys vals members f g) es
  parts_written es takes_key writes_key takes_value writes_value = λ k d less. record {
    takes_key = λ x s element room state. takes_key x s (part_among (λ e. e.0) es k d x.now less element) room state;
    writes_key = writes_key;
    takes_value = λ x s element room state. takes_value x s (part_among (λ e. e.1) es k d x.now less element) room state;
    writes_value = writes_value;
  }
