-- How elements that are not owned by a vector are archived as one.
use Rattle.std.specs.Prelude.{List}
use Rattle.archive_shape_layout.specs.Shape.{Shape}
use Rattle.archive_forms_laws.specs.Spelling.{Spelling}
use Rattle.archive_forms_laws.specs.Forms.{kept_as}
use Rattle.archive_forms_laws.specs.Pointers.{slice_spelling}
use Rattle.archive_forms_values.specs.declared.reading.resolving.VecResolver.{VecResolver}

-- a list of elements is archived as the vector of them
abbrev pub elements_spelling : {A R : Type 0} → Shape → Spelling A R → Spelling (List A) VecResolver
elements_spelling s w = kept_as (λ n. record { pos = n }) (λ r. r.pos) (slice_spelling s w)
