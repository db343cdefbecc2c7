-- The values that archived ones are read back as. Each is a relation between a value of the layout, without its counts,
-- and an owned value.
use Rattle.std.specs.Prelude.{◌≡◌, List, [], ◌∷◌, Option, Some, None, Result, Ok, Err, ⊤}
use Rattle.std.specs.Rc.{rc_slice_items}
use Rattle.std.specs.Global.{Global}
use Rattle.std.specs.declared.rc.Rc.{Rc}
use Rattle.std.specs.declared.rc.RcSlice.{RcSlice}
use Rattle.archive_shape_layout.specs.Value.{Value, Values}
use Rattle.archive_shape_layout.specs.Value.Value.{chosen, counted, group}
use Rattle.archive_shape_layout.specs.Value.Values.{no_values, more_values}
use Rattle.archive_forms_laws.specs.Spelling.{Spelling}
use Rattle.archive_forms_laws.specs.Fields.{unit_spelling}
use Rattle.archive_forms_rc.specs.declared.sharing.keyed.Shared.{Shared}

-- the values that are archived as it
abbrev pub reads_as : {A R : Type 0} → Spelling A R → Value → A → Type 0
reads_as w v x = w.plain x ≡ v

-- a value is read back by a part of it
abbrev pub reads_in : {A B : Type 0} → (B → A) → (Value → A → Type 0) → Value → B → Type 0
reads_in part reads v x = reads v (part x)

module _ {A : Type 0} (reads : Value → A → Type 0) where
  -- none where no value is chosen, else what the chosen one is read back as
  abbrev pub reads_option : Value → Option A → Type 0
  reads_option v None = chosen 0 no_values ≡ v
  reads_option v (Some x) = (inner : Value) × (chosen 1 (more_values inner no_values) ≡ v) × reads inner x

  -- the same number as there are values, each what its own value is read back as
  abbrev pub reads_each : Values → List A → Type 0
  reads_each no_values [] = ⊤
  reads_each no_values (x ∷ xs) = ⊥
  reads_each (more_values v vs) [] = ⊥
  reads_each (more_values v vs) (x ∷ xs) = reads v x × reads_each vs xs

  -- the elements of a group
  abbrev pub reads_all : Value → List A → Type 0
  reads_all v xs = (elements : Values) × (group elements ≡ v) × reads_each elements xs

  -- what a shared value is read back as, regardless of its position
  abbrev pub reads_counted : Value → A → Type 0
  reads_counted v x = (inner : Value) × (counted 0 inner ≡ v) × reads inner x

  -- a field that is read back of the first of some values, where the others are read back as the fields after it
  abbrev pub reads_field : A → (Values → Type 0) → Values → Type 0
  reads_field x Others vs = (first : Value) × (others : Values) × (more_values first others ≡ vs) × reads first x × Others others

-- no field
abbrev pub reads_end : Values → Type 0
reads_end vs = no_values ≡ vs

-- the fields of a group
abbrev pub reads_group : (Values → Type 0) → Value → Type 0
reads_group Fields v = (fields : Values) × (group fields ≡ v) × Fields fields

-- a value or an error, by which of them is chosen
abbrev pub reads_result : {A B : Type 0} → (Value → A → Type 0) → (Value → B → Type 0) → Value → Result A B → Type 0
reads_result reads errors v (Ok x) = (inner : Value) × (chosen 0 (more_values inner no_values) ≡ v) × reads inner x
reads_result reads errors v (Err e) = (inner : Value) × (chosen 1 (more_values inner no_values) ≡ v) × errors inner e

-- ---- counted pointers, by what they lead to

module _ {T : Type 0} where
  -- a pointer to what the value is read back as
  abbrev pub reads_rc : (Value → T → Type 0) → Value → Shared (Rc T Global) → Type 0
  reads_rc reads = reads_in (λ x. x.value.value) (reads_counted reads)

  -- a pointer to what the elements are read back as
  abbrev pub reads_rc_slice : (Value → T → Type 0) → Value → Shared (RcSlice T Global) → Type 0
  reads_rc_slice reads = reads_in (λ x. rc_slice_items x.value) (reads_counted (reads_all reads))

-- ---- tuples, by their fields in order

abbrev pub reads_tuple1 : {A : Type 0} → (Value → A → Type 0) → Value → record { 0 : A } → Type 0
reads_tuple1 a v x = reads_group (reads_field a x.0 reads_end) v

abbrev pub reads_tuple2 : {A B : Type 0} → (Value → A → Type 0) → (Value → B → Type 0) → Value → A × B → Type 0
reads_tuple2 a b v x = reads_group (reads_field a x.0 (reads_field b x.1 reads_end)) v

-- a key beside a value without bytes, by the key alone
abbrev pub reads_key : {A : Type 0} → (Value → A → Type 0) → Value → A → Type 0
reads_key keys v x = reads_tuple2 keys (reads_as unit_spelling) v (x, tt {0})

abbrev pub reads_tuple3 : {A B C : Type 0} → (Value → A → Type 0) → (Value → B → Type 0) → (Value → C → Type 0) → Value → A × B × C → Type 0
reads_tuple3 a b c v x = reads_group (reads_field a x.0 (reads_field b x.1 (reads_field c x.2 reads_end))) v

abbrev pub reads_tuple4 : {A B C D : Type 0} → (Value → A → Type 0) → (Value → B → Type 0) → (Value → C → Type 0) → (Value → D → Type 0)
    → Value → A × B × C × D → Type 0
reads_tuple4 a b c d v x = reads_group (reads_field a x.0 (reads_field b x.1 (reads_field c x.2 (reads_field d x.3 reads_end)))) v
