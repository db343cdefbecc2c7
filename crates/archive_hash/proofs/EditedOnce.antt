-- Numbers, truth values, chars and texts are held once.
use Rattle.std.proofs.Common.{◌≡◌, ◌∙◌, refl, ap, sym, subst}
use Rattle.archive_shape_layout.specs.Bytes.{window}
use Rattle.archive_shape_layout.specs.Shape.{Shape, size_of}
use Rattle.archive_shape_layout.specs.Shape.Shape.{text}
use Rattle.archive_shape_layout.specs.Value.Value.{string}
use Rattle.archive_shape_layout.specs.Content.{Names}
use Rattle.archive_shape_layout.specs.Numbers.{IsLeafShape}
use Rattle.archive_shape_layout.proofs.HeldNumbers.{held_reads}
use Rattle.archive_shape_layout.proofs.NumberReading.{one_reading}
use Rattle.archive_shape.proofs.Held.{claims_within}
use Rattle.archive_forms_laws.proofs.Held.{held_is_text_law}
use Rattle.archive_forms_laws.proofs.Once.{one_text_law}
use Rattle.archive_hash.specs.Edited.{HasOneValue}

pub leaf_once : (s : Shape) (knows : Names → Type 0) → IsLeafShape s → HasOneValue s knows
leaf_once s knows leaf bytes pos x y h i =
    one_reading s (window bytes pos (size_of s)) x y (held_reads s leaf (size_of s) refl h.holds) (held_reads s leaf (size_of s) refl i.holds)

pub text_once : (knows : Names → Type 0) → HasOneValue text knows
text_once knows bytes pos x y h i =
    let one = held_is_text_law h.names bytes h.level h.inside pos x h.regions h.before h.after h.own_within (claims_within h) h.holds in
    let two = held_is_text_law i.names bytes i.level i.inside pos y i.regions i.before i.after i.own_within (claims_within i) i.holds in
    one.value ∙ ap string (one_text_law bytes pos one.text two.text one.stands two.stands) ∙ sym two.value
