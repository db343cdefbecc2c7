-- What is read back of tuples, one field after another.
use Rattle.std.proofs.Common.{◌≡◌, ℕ, ◌+◌, ◌≤◌, arith, zero-add, List, [], ◌∷◌, refl, sym, ap, subst, ◌∙◌}
use Rattle.std.specs.Prelude.{⊤}
use Rattle.archive_shape_layout.specs.Bytes.{align_up}
use Rattle.archive_shape_layout.specs.Shape.{Shape, Shapes, size_of, align_of, fields_end}
use Rattle.archive_shape_layout.specs.Shape.Shape.{tuple}
use Rattle.archive_shape_layout.specs.Shape.Shapes.{no_shapes, more_shapes}
use Rattle.archive_shape_layout.specs.Value.{Value, Values}
use Rattle.archive_shape_layout.specs.Value.Values.{no_values}
use Rattle.archive_shape_layout.specs.Content.{Names}
use Rattle.archive_shape_layout.proofs.Framed.{le_align_up, le_fields_end}
use Rattle.archive_shape_layout.proofs.PointerSizes.{first_multiple}
use Rattle.archive_shape_canonical.specs.Sharing.{erased, all_erased}
use Rattle.archive_shape.specs.Key.{HeldAt}
use Rattle.archive_forms_laws.specs.Fields.{unit_spelling}
use Rattle.archive_forms_values.specs.Tuples.{tuple2}
use Rattle.archive_forms_values.specs.Parts.{HasValue, both}
use Rattle.archive_forms_values.specs.Fields.{Field, field, shapes_of, field_position, BeginsWith, AreFields, AreFieldsAt, IsGroupOf}
use Rattle.archive_forms_values.proofs.Held.{fields_at}
use Rattle.archive_forms.specs.Deserializing.{IsReadAt}
use Rattle.archive_forms.specs.Reading.{reads_as, reads_end, reads_field, reads_group, reads_key}
use Rattle.archive_forms.proofs.Plain.{unit_read}

-- ---- what fields have

-- the first of some values is that of a field
pub field_has : (f : Field) (bytes : List ℕ) (at pos : ℕ) (Others : Values → Type 0) (values : Values) → pos ≡ at → BeginsWith f bytes at Others values → HasValue f.shape f.knows bytes pos
field_has f bytes at pos Others vs e h = record { value = h.first; held = subst (λ n. HeldAt f.shape f.knows bytes n h.first) (sym e) h.held }

-- a tuple that has a value has those of its fields
pub tuple_has : (fs : List Field) (knows : Names → Type 0) (bytes : List ℕ) (pos : ℕ) → AreFieldsAt fs knows bytes pos → (h : HasValue (tuple (shapes_of fs)) knows bytes pos) → IsGroupOf fs bytes pos h.value
tuple_has fs knows bytes pos there h = there h.value h.held

-- ---- where fields end

-- shapes, one, and others after it
abbrev pub around : Shapes → Shape → Shapes → Shapes
around no_shapes s others = more_shapes s others
around (more_shapes t between) s others = more_shapes t (around between s others)

fields_end-around : (between : Shapes) (s : Shape) (others : Shapes) (offset : ℕ) → align_up (fields_end between offset) (align_of s) + size_of s ≤ fields_end (around between s others) offset
fields_end-around no_shapes s others offset = le_fields_end others (align_up offset (align_of s) + size_of s)
fields_end-around (more_shapes t between) s others offset = fields_end-around between s others (align_up offset (align_of t) + size_of t)

module _ (first : Shape) (others : Shapes) where
  begins : fields_end (more_shapes first others) 0 ≡ fields_end others (size_of first)
  begins = ap (λ n. fields_end others (n + size_of first)) (first_multiple (align_of first)) ∙ ap (fields_end others) (zero-add (size_of first))

  filled : fields_end others (size_of first) ≤ size_of (tuple (more_shapes first others))
  filled = let up = le_align_up (fields_end (more_shapes first others) 0) (align_of (tuple (more_shapes first others))) in omega (arith, up, begins)

  -- the first field ends where the tuple does, or before
  pub first_ends : (pos at : ℕ) → at ≡ pos → at + size_of first ≤ pos + size_of (tuple (more_shapes first others))
  first_ends pos at e = let grows = le_fields_end others (size_of first) in omega (arith, e, grows, filled)

-- and so does each other
pub field_ends :
    (first : Shape) (between : Shapes) (s : Shape) (others : Shapes) (pos at : ℕ)
    → at ≡ field_position first between s pos
    → at + size_of s ≤ pos + size_of (tuple (more_shapes first (around between s others)))
field_ends first between s others pos at e =
    let own = fields_end-around between s others (size_of first) in
    let up = filled first (around between s others) in
    omega (arith, e, own, up)

-- ---- what is read of them

-- values for which the statement about them holds are read back as these fields
abbrev pub AreRead : (Values → Type 0) → (Values → Type 0) → Type 0
AreRead Said Fields = (values : Values) → Said values → Fields (all_erased values)

-- there is no field
pub none_read : AreRead (λ values. values ≡ no_values) reads_end
none_read vs e = sym (ap all_erased e)

-- a field before others
pub field_read : {A : Type 0} (reads : Value → A → Type 0) (f : Field) (bytes : List ℕ) (at pos : ℕ) (x : A) (Others Fields : Values → Type 0)
    → pos ≡ at → IsReadAt reads f.shape f.knows bytes pos x → AreRead Others Fields → AreRead (BeginsWith f bytes at Others) (reads_field reads x Fields)
field_read reads f bytes at pos x Others Fields e one rest vs h = (
  erased h.first,
  all_erased h.others,
  sym (ap all_erased h.is),
  one h.first (subst (λ n. HeldAt f.shape f.knows bytes n h.first) (sym e) h.held),
  rest h.others h.rest,
)

-- a tuple is the group of its fields
pub tuple_read : (fs : List Field) (knows : Names → Type 0) (bytes : List ℕ) (pos : ℕ) (Fields : Values → Type 0) → AreFieldsAt fs knows bytes pos → AreRead (AreFields fs bytes pos) Fields
    → (v : Value) → HeldAt (tuple (shapes_of fs)) knows bytes pos v → reads_group Fields (erased v)
tuple_read fs knows bytes pos Fields there read v h =
    let g = there v h in
    (all_erased g.values, sym (ap erased g.is), read g.values g.each)

-- an entry whose value has no bytes is read by its key
pub key_read : {A : Type 0} (reads : Value → A → Type 0) (s : Shape) (knows : Names → Type 0) (bytes : List ℕ) (pos : ℕ) (x : A)
    → IsReadAt reads s knows bytes pos x → IsReadAt (reads_key reads) (tuple2 s (tuple no_shapes)) (both knows (λ _. ⊤)) bytes pos x
key_read reads s knows bytes pos x read =
    let fs : List Field = field s knows ∷ field (tuple no_shapes) (λ _. ⊤) ∷ [] in
    let behind = field_position s no_shapes (tuple no_shapes) pos in
    tuple_read fs (both knows (λ _. ⊤)) bytes pos _ (fields_at fs (both knows (λ _. ⊤)) (λ names known. (known.0, (known.1, tt))) bytes pos)
    (field_read reads (field s knows) bytes pos pos x _ _ refl read
    (field_read (reads_as unit_spelling) (field (tuple no_shapes) (λ _. ⊤)) bytes behind behind (tt {0}) _ _ refl (unit_read (λ _. ⊤) bytes behind)
    none_read))
