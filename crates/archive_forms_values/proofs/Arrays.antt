-- The elements of an archived array, in the layout.
use Rattle.std.proofs.Common.{◌≡◌, ℕ, List, refl}
use Rattle.archive_shape_layout.specs.Shape.{Shape}
use Rattle.archive_shape_layout.specs.Shape.Shape.{array}
use Rattle.archive_shape_layout.specs.Content.{Names, content_of, elements, shape_content}
use Rattle.archive_shape_layout.specs.Content.Part.{at}
use Rattle.archive_shape_layout.specs.Content.Label.{whole}
use Rattle.archive_shape_layout.specs.Content.Content.{plain}
use Rattle.archive_shape_layout.proofs.Unique.{by_plain}
use Rattle.archive_forms_values.specs.Arrays.{IsArrayAt}
use Rattle.archive_forms_values.specs.Parts.{HasValue, HasElements}
use Rattle.archive_forms_values.proofs.Pointed.{elements_stand}

pub array_at : (n : ℕ) (s : Shape) (knows : Names → Type 0) (bytes : List ℕ) (pos : ℕ) → IsArrayAt n s knows bytes pos
unfolding shape_content
array_at n s knows bytes pos v h =
    let is : content_of h.names bytes (at pos (array n s)) ≡ plain whole (elements pos n s) = refl in
    let says = by_plain h.names bytes is h.holds in
    elements_stand h.names bytes s knows n pos h.level h.low h.inside v h.known says.all h.claimed h.own_within says.is_made

-- so there are elements where there is an array
pub array_has : (n : ℕ) (s : Shape) (knows : Names → Type 0) (bytes : List ℕ) (pos : ℕ) → HasValue (array n s) knows bytes pos → HasElements s knows bytes pos n
array_has n s knows bytes pos h = record { value = h.value; stand = array_at n s knows bytes pos h.value h.held }
