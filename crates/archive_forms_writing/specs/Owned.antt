-- How vectors and boxes, which own their elements, are archived, and texts, by their bytes.
use Rattle.std.specs.Prelude.{ℕ, List, Box, String, Vec}
use Rattle.std.specs.String.{string_bytes}
use Rattle.std.specs.Global.{Global}
use Rattle.archive_shape_layout.specs.Shape.{Shape}
use Rattle.archive_forms_laws.specs.Spelling.{Spelling}
use Rattle.archive_forms_laws.specs.Forms.{seen_as, kept_as}
use Rattle.archive_forms_laws.specs.Pointers.{slice_spelling, box_spelling}
use Rattle.archive_forms_laws.specs.Texts.{text_spelling, boxed_text_spelling}
use Rattle.archive_forms_values.specs.declared.reading.resolving.BoxResolver.{BoxResolver}
use Rattle.archive_forms_values.specs.declared.reading.resolving.VecResolver.{VecResolver}
use Rattle.archive_forms_values.specs.declared.text.resolving.StringResolver.{StringResolver}

-- a vector is archived as the list of its elements
abbrev pub vec_spelling : {A R : Type 0} → Shape → Spelling A R → Spelling (Vec A Global) VecResolver
vec_spelling s w = kept_as (λ n. record { pos = n }) (λ r. r.pos) (seen_as (λ v. v.items) (slice_spelling s w))

-- a box is archived as a pointer to its value
abbrev pub boxed_spelling : {A R : Type 0} → Shape → Spelling A R → Spelling (Box A Global) BoxResolver
boxed_spelling s w = kept_as (λ n. record { pos = n }) (λ r. r.pos) (seen_as (λ b. b.value) (box_spelling s w))

-- a slice in a box is archived as a pointer to its elements
abbrev pub boxed_slice_spelling : {A R : Type 0} → Shape → Spelling A R → Spelling (List A) BoxResolver
boxed_slice_spelling s w = kept_as (λ n. record { pos = n }) (λ r. r.pos) (slice_spelling s w)

-- a borrowed text is archived as its bytes
abbrev pub str_spelling : Spelling (List ℕ) StringResolver
str_spelling = kept_as (λ n. record { pos = n }) (λ r. r.pos) text_spelling

-- and so is one that owns them
abbrev pub string_spelling : Spelling (String Global) StringResolver
string_spelling = seen_as string_bytes str_spelling

-- a text in a box is archived as a pointer to them
abbrev pub boxed_str_spelling : Spelling (List ℕ) BoxResolver
boxed_str_spelling = kept_as (λ n. record { pos = n }) (λ r. r.pos) boxed_text_spelling
