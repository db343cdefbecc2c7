-- Tuples are seen as their fields, and compared by them in order.
use Rattle.std.proofs.Common.{◌≡◌, ℕ, Bool, true, false, ◌&&◌, List, ◌∷◌, refl, ap, ◌∙◌}
use Rattle.std.specs.declared.cmp.Ordering.{Ordering}
use Rattle.std.specs.declared.cmp.Ordering.TheVariants.{Less, Equal, Greater}
use Rattle.std.specs.Ordering.{ordering_then}
use Rattle.archive_shape_layout.specs.Shape.Shape.{tuple}
use Rattle.archive_shape_layout.specs.Shape.Shapes.{no_shapes, more_shapes}
use Rattle.archive_shape_layout.specs.Content.{Names}
use Rattle.archive_forms_laws.specs.Views.{elements_of, head_of, rest_of, listed}
use Rattle.archive_forms_values.specs.Parts.{HasValue}
use Rattle.archive_forms_values.specs.Fields.{Field, shapes_of, field_position, AreFieldsAt}
use Rattle.archive_forms_comparing.specs.Compared.{HasPart}
use Rattle.archive_forms_comparing.proofs.Seen.{moved}

-- ---- fields

pub first_part : (f : Field) (fs : List Field) (knows : Names → Type 0) (bytes : List ℕ) (pos : ℕ) {part_bytes : List ℕ} {at : ℕ}
    → part_bytes ≡ bytes → at ≡ pos
    → HasValue (tuple (shapes_of (f ∷ fs))) knows bytes pos → AreFieldsAt (f ∷ fs) knows bytes pos
    → HasPart (λ v x. head_of (elements_of v) ≡ x) (tuple (shapes_of (f ∷ fs))) knows bytes pos f.shape f.knows part_bytes at
first_part f fs knows bytes pos b p there is =
    let one = (is there.value there.held).each in
    moved b p (record {
      there = record { value = one.first; held = one.held };
      each = λ v h.
          let x = is v h in
          (x.each.first, ap (λ w. head_of (elements_of w)) x.is ∙ ap (λ ws. head_of (listed ws)) x.each.is, x.each.held);
    })

pub second_part : (e f : Field) (fs : List Field) (knows : Names → Type 0) (bytes : List ℕ) (pos : ℕ) {part_bytes : List ℕ} {at : ℕ}
    → part_bytes ≡ bytes → at ≡ field_position e.shape no_shapes f.shape pos
    → HasValue (tuple (shapes_of (e ∷ f ∷ fs))) knows bytes pos → AreFieldsAt (e ∷ f ∷ fs) knows bytes pos
    → HasPart (λ v x. head_of (rest_of (elements_of v)) ≡ x) (tuple (shapes_of (e ∷ f ∷ fs))) knows bytes pos f.shape f.knows part_bytes at
second_part e f fs knows bytes pos b p there is =
    let one = (is there.value there.held).each.rest in
    moved b p (record {
      there = record { value = one.first; held = one.held };
      each = λ v h.
          let x = is v h in
          let y = x.each.rest in
          (y.first, ap (λ w. head_of (rest_of (elements_of w))) x.is ∙ ap (λ ws. head_of (rest_of (listed ws))) x.each.is ∙ ap (λ ws. head_of (listed ws)) y.is, y.held);
    })

pub third_part : (d e f : Field) (fs : List Field) (knows : Names → Type 0) (bytes : List ℕ) (pos : ℕ) {part_bytes : List ℕ} {at : ℕ}
    → part_bytes ≡ bytes → at ≡ field_position d.shape (more_shapes e.shape no_shapes) f.shape pos
    → HasValue (tuple (shapes_of (d ∷ e ∷ f ∷ fs))) knows bytes pos → AreFieldsAt (d ∷ e ∷ f ∷ fs) knows bytes pos
    → HasPart (λ v x. head_of (rest_of (rest_of (elements_of v))) ≡ x) (tuple (shapes_of (d ∷ e ∷ f ∷ fs))) knows bytes pos f.shape f.knows part_bytes at
third_part d e f fs knows bytes pos b p there is =
    let one = (is there.value there.held).each.rest.rest in
    moved b p (record {
      there = record { value = one.first; held = one.held };
      each = λ v h.
          let x = is v h in
          let y = x.each.rest in
          let z = y.rest in (
            z.first,
            ap (λ w. head_of (rest_of (rest_of (elements_of w)))) x.is ∙ ap (λ ws. head_of (rest_of (rest_of (listed ws)))) x.each.is
                ∙ ap (λ ws. head_of (rest_of (listed ws))) y.is ∙ ap (λ ws. head_of (listed ws)) z.is,
            z.held,
          );
    })

pub fourth_part : (c d e f : Field) (fs : List Field) (knows : Names → Type 0) (bytes : List ℕ) (pos : ℕ) {part_bytes : List ℕ} {at : ℕ}
    → part_bytes ≡ bytes → at ≡ field_position c.shape (more_shapes d.shape (more_shapes e.shape no_shapes)) f.shape pos
    → HasValue (tuple (shapes_of (c ∷ d ∷ e ∷ f ∷ fs))) knows bytes pos → AreFieldsAt (c ∷ d ∷ e ∷ f ∷ fs) knows bytes pos
    → HasPart (λ v x. head_of (rest_of (rest_of (rest_of (elements_of v)))) ≡ x) (tuple (shapes_of (c ∷ d ∷ e ∷ f ∷ fs))) knows bytes pos f.shape f.knows part_bytes at
fourth_part c d e f fs knows bytes pos b p there is =
    let one = (is there.value there.held).each.rest.rest.rest in
    moved b p (record {
      there = record { value = one.first; held = one.held };
      each = λ v h.
          let x = is v h in
          let y = x.each.rest in
          let z = y.rest in
          let u = z.rest in (
            u.first,
            ap (λ w. head_of (rest_of (rest_of (rest_of (elements_of w))))) x.is ∙ ap (λ ws. head_of (rest_of (rest_of (rest_of (listed ws))))) x.each.is
                ∙ ap (λ ws. head_of (rest_of (rest_of (listed ws)))) y.is ∙ ap (λ ws. head_of (rest_of (listed ws))) z.is ∙ ap (λ ws. head_of (listed ws)) u.is,
            u.held,
          );
    })

-- ---- what is found of fields in order

-- one more field is equal, with the rest
pub equal_more : (found a next rest : Bool) → next ≡ (found && a) → (next && rest) ≡ (found && (a && rest))
equal_more true a next rest e = ap (λ b. b && rest) e
equal_more false a next rest e = ap (λ b. b && rest) e

pub equal_end : (found : Bool) → found ≡ (found && true)
equal_end true = refl
equal_end false = refl

-- one more field is compared, with the rest
pub compare_more : (found a next rest : Ordering) → next ≡ ordering_then found a → ordering_then next rest ≡ ordering_then found (ordering_then a rest)
compare_more Less a next rest e = ap (λ b. ordering_then b rest) e
compare_more Equal a next rest e = ap (λ b. ordering_then b rest) e
compare_more Greater a next rest e = ap (λ b. ordering_then b rest) e

pub compare_end : (found : Ordering) → found ≡ ordering_then found Equal
compare_end Less = refl
compare_end Equal = refl
compare_end Greater = refl
