-- How tuples and structs are archived: the data of the fields in order, and the own bytes of each at its offset, with
-- zeros between them and after them.
use Rattle.std.specs.Prelude.{ℕ, ◌+◌, ◌-◌, List, [], ◌++◌, ⊤, ◌⊎◌}
use Rattle.archive_shape_layout.specs.Bytes.{align_up}
use Rattle.archive_shape_layout.specs.Shape.{Shape, Shapes, size_of, align_of, fields_end}
use Rattle.archive_shape_layout.specs.Shape.Shape.{tuple}
use Rattle.archive_shape_layout.specs.Shape.Shapes.{no_shapes, more_shapes}
use Rattle.archive_shape_layout.specs.Value.{Values}
use Rattle.archive_shape_layout.specs.Value.Value.{group}
use Rattle.archive_shape_layout.specs.Value.Values.{no_values, more_values}
use Rattle.archive_shape_canonical.specs.Settled.{Fit}
use Rattle.archive_shape.specs.Bytes.{zeros}
use Rattle.archive_shape_layout.specs.declared.error.Error.{Error}
use Rattle.archive_forms_laws.specs.State.{State, Met, Keys}
use Rattle.archive_forms_laws.specs.Spelling.{Spelling, state_after}
use Rattle.archive_forms_laws.specs.Forms.{seen_as, kept_as}

-- Fields in order: A has their values, and R their resolvers. The members are as in `Spelling`, except that the own
-- bytes are those of a struct at a position, from an offset in it to the end of its last field.
pub record FieldsSpelling (A R : Type 0) : Type 1 where
  pub shapes : Shapes
  pub values : A → State → Values
  pub plain : A → Values
  pub piece : A → State → List ℕ
  pub resolver : A → State → R
  pub met : A → State → List Met
  pub own : A → R → (pos offset : ℕ) → List ℕ
  pub piece_fits : A → State → Type 0
  pub piece_refused : A → State → Error → Type 0
  pub own_fits : A → R → (pos offset : ℕ) → Type 0
  pub own_refused : A → R → (pos offset : ℕ) → Error → Type 0
  pub suits : Fit → Keys → A → Type 0

-- all values without fields are alike
abbrev pub no_fields : {A : Type 0} → FieldsSpelling A (Unit {0})
no_fields = record {
  shapes = no_shapes;
  values = λ x st. no_values;
  plain = λ x. no_values;
  piece = λ x st. [];
  resolver = λ x st. tt;
  met = λ x st. st.met;
  own = λ x r pos offset. [];
  piece_fits = λ x st. ⊤;
  piece_refused = λ x st e. ⊥;
  own_fits = λ x r pos offset. ⊤;
  own_refused = λ x r pos offset e. ⊥;
  suits = λ fit keys x. ⊤;
}

-- a field before others: it lies at the next offset of its alignment
abbrev pub more_fields : {A B R Q : Type 0} → Shape → Spelling A R → FieldsSpelling B Q → FieldsSpelling (A × B) (R × Q)
more_fields s w others = record {
  shapes = more_shapes s others.shapes;
  values = λ x st. more_values (w.value x.0 st) (others.values x.1 (state_after w x.0 st));
  plain = λ x. more_values (w.plain x.0) (others.plain x.1);
  piece = λ x st. w.piece x.0 st ++ others.piece x.1 (state_after w x.0 st);
  resolver = λ x st. (w.resolver x.0 st, others.resolver x.1 (state_after w x.0 st));
  met = λ x st. others.met x.1 (state_after w x.0 st);
  own = λ x r pos offset.
      let from = align_up offset (align_of s) in
      zeros (from - offset) ++ (w.own x.0 r.0 (pos + from) ++ others.own x.1 r.1 pos (from + size_of s));
  piece_fits = λ x st. w.piece_fits x.0 st × others.piece_fits x.1 (state_after w x.0 st);
  piece_refused = λ x st e. w.piece_refused x.0 st e ⊎ others.piece_refused x.1 (state_after w x.0 st) e;
  own_fits = λ x r pos offset.
      let from = align_up offset (align_of s) in
      w.own_fits x.0 r.0 (pos + from) × others.own_fits x.1 r.1 pos (from + size_of s);
  own_refused = λ x r pos offset e.
      let from = align_up offset (align_of s) in
      w.own_refused x.0 r.0 (pos + from) e ⊎ others.own_refused x.1 r.1 pos (from + size_of s) e;
  suits = λ fit keys x. w.suits fit keys x.0 × others.suits fit keys x.1;
}

-- a struct of fields
abbrev pub struct_spelling : {A R : Type 0} → FieldsSpelling A R → Spelling A R
struct_spelling fs = record {
  value = λ x st. group (fs.values x st);
  plain = λ x. group (fs.plain x);
  piece = fs.piece;
  resolver = fs.resolver;
  met = fs.met;
  own = λ x r pos. fs.own x r pos 0 ++ zeros (size_of (tuple fs.shapes) - fields_end fs.shapes 0);
  piece_fits = fs.piece_fits;
  piece_refused = fs.piece_refused;
  own_fits = λ x r pos. fs.own_fits x r pos 0;
  own_refused = λ x r pos e. fs.own_refused x r pos 0 e;
  suits = fs.suits;
}

-- a type of one value, as the unit type and `PhantomData`
abbrev pub unit_spelling : {A : Type 0} → Spelling A (Unit {0})
unit_spelling = struct_spelling no_fields

-- ---- tuples, each seen as its fields one before the others

abbrev pub tuple1_spelling : {A R : Type 0} → Shape → Spelling A R → Spelling (record { 0 : A }) (record { 0 : R })
tuple1_spelling s₁ w₁ = kept_as (λ r. record { 0 = r.0 }) (λ r. (r.0, tt)) (seen_as (λ x. (x.0, tt)) (struct_spelling (more_fields s₁ w₁ (no_fields {A = Unit {0}}))))

abbrev pub tuple2_spelling : {A B R Q : Type 0} → Shape → Spelling A R → Shape → Spelling B Q → Spelling (A × B) (R × Q)
tuple2_spelling s₁ w₁ s₂ w₂ =
    kept_as (λ r. (r.0, r.1.0)) (λ r. (r.0, (r.1, tt))) (seen_as (λ x. (x.0, (x.1, tt))) (struct_spelling (more_fields s₁ w₁ (more_fields s₂ w₂ (no_fields {A = Unit {0}})))))

abbrev pub tuple3_spelling : {A B C R Q P : Type 0} → Shape → Spelling A R → Shape → Spelling B Q → Shape → Spelling C P → Spelling (A × B × C) (R × Q × P)
tuple3_spelling s₁ w₁ s₂ w₂ s₃ w₃ =
    kept_as (λ r. (r.0, r.1.0, r.1.1.0)) (λ r. (r.0, (r.1, (r.2, tt))))
    (seen_as (λ x. (x.0, (x.1, (x.2, tt)))) (struct_spelling (more_fields s₁ w₁ (more_fields s₂ w₂ (more_fields s₃ w₃ (no_fields {A = Unit {0}}))))))

abbrev pub tuple4_spelling : {A B C D R Q P O : Type 0} → Shape → Spelling A R → Shape → Spelling B Q → Shape → Spelling C P → Shape → Spelling D O
    → Spelling (A × B × C × D) (R × Q × P × O)
tuple4_spelling s₁ w₁ s₂ w₂ s₃ w₃ s₄ w₄ =
    kept_as (λ r. (r.0, r.1.0, r.1.1.0, r.1.1.1.0)) (λ r. (r.0, (r.1, (r.2, (r.3, tt)))))
    (seen_as (λ x. (x.0, (x.1, (x.2, (x.3, tt))))) (struct_spelling (more_fields s₁ w₁ (more_fields s₂ w₂ (more_fields s₃ w₃ (more_fields s₄ w₄ (no_fields {A = Unit {0}})))))))
