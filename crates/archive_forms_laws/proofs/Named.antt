-- The content of a part whose shape is the name of a type.
use Rattle.std.proofs.Common.{◌≡◌, ℕ, ◌==◌, true, List, [], ◌∷◌, Some, refl}
use Rattle.std.proofs.lemmas.Bool.{eq-eqb}
use Rattle.archive_shape_layout.specs.Shape.{Shape, Alignment, alignment_bytes, size_of, align_of}
use Rattle.archive_shape_layout.specs.Shape.Shape.{named}
use Rattle.archive_shape_layout.specs.Content.{Names, content_of, choose, shape_content, shape_named}
use Rattle.archive_shape_layout.specs.Content.Part.{at}
use Rattle.archive_shape_layout.specs.Content.Label.{same}
use Rattle.archive_shape_layout.specs.Content.Content.{plain}

-- where a name is, there is the shape that it denotes
pub named_is :
    (s : Shape) (name size : ℕ) (align : Alignment) → size_of s ≡ size → align_of s ≡ alignment_bytes align
    → (names : Names) (bytes : List ℕ) (pos : ℕ) → shape_named names name ≡ Some s
    → content_of names bytes (at pos (named name size align)) ≡ plain same (at pos s ∷ [])
unfolding shape_content choose
named_is s name size align size_is align_is names bytes pos known =
    let same_size : (size_of s == size) ≡ true = eq-eqb (size_of s) size size_is in
    let same_align : (align_of s == alignment_bytes align) ≡ true = eq-eqb (align_of s) (alignment_bytes align) align_is in
    rw (known, same_size, same_align) refl
