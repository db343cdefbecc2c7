-- There is at most one text at a position.
use Rattle.std.proofs.Common.{◌≡◌, ℕ, List, Option, Some, refl, sym, ap, ◌∙◌}
use Rattle.archive_shape_layout.specs.Bytes.{window}
use Rattle.archive_forms_laws.specs.Text.{LiesAt, OneText}
use Rattle.archive_forms_laws.specs.Text.LiesAt.{inline, out_of_line}

-- it begins at one position and has one length
pub one_place : (bytes : List ℕ) (pos start len begin size : ℕ) → LiesAt bytes pos start len → LiesAt bytes pos begin size → (start ≡ begin) × (len ≡ size)
one_place bytes pos start len begin size (inline a e) (inline b f) = (refl, e ∙ sym f)
one_place bytes pos start len begin size (inline a e) (out_of_line b f g h) = absurd (b a)
one_place bytes pos start len begin size (out_of_line a e f g) (inline b h) = absurd (a b)
one_place bytes pos start len begin size (out_of_line a e f g) (out_of_line b h i j) =
    let some : ◌≡◌ {A = Option ℕ} (Some start) (Some begin) = sym g ∙ j in
    (cc, e ∙ sym h)

pub one_text_law : OneText
one_text_law bytes pos t u h i =
    let place = one_place bytes pos h.there.start h.there.len i.there.start i.there.len h.there.stands i.there.stands in
    h.is ∙ ap (λ n. window bytes n h.there.len) place.0 ∙ ap (window bytes i.there.start) place.1 ∙ sym i.is
