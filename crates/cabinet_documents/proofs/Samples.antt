-- The bytes that small documents are written as, and that they are the images of these documents.
use Rattle.std.proofs.Common.{ℕ, ◌<◌, ◌^◌, [], ◌∷◌, IsUtf8, refl, arith}
use Rattle.std.specs.Int.{w64}
use Rattle.std.proofs.lemmas.Int.{ints}
use Rattle.archive_shape_layout.specs.Bytes.{align_up}
use Rattle.archive_shape_layout.specs.Content.{shape_content, number_value}
use Rattle.archive_shape.specs.Offsets.{FitsOffset}
use Rattle.archive_forms_laws.proofs.Gaps.{bytes_number}
use Rattle.cabinet_text_grammar.proofs.Utf8.{IsUtf8-word}
use Rattle.cabinet_text_grammar.specs.Tree as document
use Rattle.cabinet_text_grammar.specs.Tree.{Tree, list, no_trees, more_trees}
use Rattle.cabinet_text_grammar.specs.Wholes.{IsDocument}
use Rattle.cabinet_documents.specs.Laws.{bytes_five}
use Rattle.cabinet_documents.specs.SpellingLaws.{ArchiveFits, SamplesAreSpelled, SamplesAreImages, five, list_of_five_bytes, shared_twice, shared_twice_bytes, whole_twice, whole_twice_bytes, one, one_twice, nested_wholes, nested_wholes_bytes}
use Rattle.cabinet_documents.proofs.Imaged.{written_is_image_law}

pub samples_are_spelled_law : SamplesAreSpelled
unfolding align_up
samples_are_spelled_law = (refl, refl, refl, refl, refl)

abbrev list_of_five : Tree
list_of_five = list (more_trees five no_trees)

small : (n : ℕ) → n < 200 → n < 2 ^ 32
small n h = omega (arith, h)

little : (n : ℕ) → n < 200 → n < 2 ^ 64
little n h = omega (arith, h)

text : IsUtf8 (97 ∷ [])
text = IsUtf8-word (97 ∷ []) refl

five_fits : ArchiveFits five
unfolding align_up shape_content number_value
five_fits = ((tt, tt), small 0 (omega arith), (((λ names start. refl, refl, bytes_number w64 5), little 24 (omega arith)), tt))

list_fits : ArchiveFits list_of_five
unfolding align_up shape_content number_value
list_fits =
    let back : FitsOffset 28 0 = record { sfits = omega (arith, ints) } in (
      (((tt, tt), small 0 (omega arith), (((λ names start. refl, refl, bytes_number w64 5), little 24 (omega arith)), tt)), tt),
      small 24 (omega arith),
      (((back, small 1 (omega arith)), little 48 (omega arith)), tt),
    )

five_document : IsDocument five
five_document = (record { sfits = omega arith }, omega arith, omega arith)

list_document : IsDocument list_of_five
list_document = (((record { sfits = omega arith }, tt), omega arith), omega arith, omega arith)

shared_fits : ArchiveFits shared_twice
unfolding align_up
shared_fits =
    let first : FitsOffset 12 0 = record { sfits = omega (arith, ints) } in
    let second : FitsOffset 36 0 = record { sfits = omega (arith, ints) } in
    let back : FitsOffset 60 8 = record { sfits = omega (arith, ints) } in (
      (
        (
          ((tt, (text, small 0 (omega arith)), refl), (tt, tt)),
          small 8 (omega arith),
          (((first, small 1 (omega arith)), little 32 (omega arith)), (((second, small 1 (omega arith)), little 56 (omega arith)), tt)),
        ),
        tt,
      ),
      small 56 (omega arith),
      (((back, small 2 (omega arith)), little 80 (omega arith)), tt),
    )

shared_document : IsDocument shared_twice
shared_document = (((text, (text, tt)), omega arith), omega arith, omega arith)

whole_fits : ArchiveFits whole_twice
unfolding align_up shape_content number_value
whole_fits =
    let first : FitsOffset 28 0 = record { sfits = omega (arith, ints) } in
    let second : FitsOffset 52 0 = record { sfits = omega (arith, ints) } in
    let back : FitsOffset 76 24 = record { sfits = omega (arith, ints) } in (
      (
        (
          ((tt, ((tt, tt), small 0 (omega arith), (((λ names start. refl, refl, bytes_number w64 5), little 24 (omega arith)), tt)), refl), (tt, tt)),
          small 24 (omega arith),
          ((first, little 48 (omega arith)), ((second, little 72 (omega arith)), tt)),
        ),
        tt,
      ),
      small 72 (omega arith),
      (((back, small 2 (omega arith)), little 96 (omega arith)), tt),
    )

whole_document : IsDocument whole_twice
whole_document = (((record { sfits = omega arith }, (record { sfits = omega arith }, tt)), omega arith), omega arith, omega arith)

-- the list of the inner whole, in the outer one
nested_fits : ArchiveFits nested_wholes
unfolding align_up shape_content number_value
nested_fits =
    let first : FitsOffset 28 0 = record { sfits = omega (arith, ints) } in
    let second : FitsOffset 52 0 = record { sfits = omega (arith, ints) } in
    let inner : FitsOffset 76 24 = record { sfits = omega (arith, ints) } in
    let third : FitsOffset 100 72 = record { sfits = omega (arith, ints) } in
    let fourth : FitsOffset 124 0 = record { sfits = omega (arith, ints) } in
    let fifth : FitsOffset 148 72 = record { sfits = omega (arith, ints) } in
    let back : FitsOffset 172 96 = record { sfits = omega (arith, ints) } in (
      (
        (
          (
            (
              tt,
              (
                (
                  (
                    (((λ e. absurd (cc), tt), ((tt, tt), small 0 (omega arith), (((λ names start. refl, refl, bytes_number w64 1), little 24 (omega arith)), tt)), refl), (tt, tt)),
                    small 24 (omega arith),
                    ((first, little 48 (omega arith)), ((second, little 72 (omega arith)), tt)),
                  ),
                  tt,
                ),
                small 72 (omega arith),
                (((inner, small 2 (omega arith)), little 96 (omega arith)), tt),
              ),
              refl,
            ),
            (tt, (tt, tt)),
          ),
          small 96 (omega arith),
          ((third, little 120 (omega arith)), ((fourth, little 144 (omega arith)), ((fifth, little 168 (omega arith)), tt))),
        ),
        tt,
      ),
      small 168 (omega arith),
      (((back, small 3 (omega arith)), little 192 (omega arith)), tt),
    )

one_twice_legal : document.IsLegal one_twice
one_twice_legal = ((record { sfits = omega arith }, (record { sfits = omega arith }, tt)), omega arith)

nested_document : IsDocument nested_wholes
nested_document = (((one_twice_legal, (record { sfits = omega arith }, (one_twice_legal, tt))), omega arith), omega arith, omega arith)

pub samples_are_images_law : SamplesAreImages
unfolding align_up
samples_are_images_law = (
  written_is_image_law five bytes_five five_document five_fits refl,
  written_is_image_law list_of_five list_of_five_bytes list_document list_fits refl,
  written_is_image_law shared_twice shared_twice_bytes shared_document shared_fits refl,
  written_is_image_law whole_twice whole_twice_bytes whole_document whole_fits refl,
  written_is_image_law nested_wholes nested_wholes_bytes nested_document nested_fits refl,
)
