-- The documents are documents, and their texts are the stated ones.
use Rattle.std.proofs.Common.{◌≢◌, ℕ, ◌<◌, ◌^◌, pos, List, [], FitsSigned, w64, refl, arith, codes}
use Rattle.std.specs.Fmt.{digits}
use Rattle.std.proofs.lemmas.List.Elements.{All-nil, All-cons}
use Rattle.cabinet_text_grammar.specs.Tree.{IsLegal}
use Rattle.cabinet_text_grammar.specs.Wholes.{IsDocument}
use Rattle.cabinet_text_grammar.proofs.Escapes.{first_differs}
use Rattle.cabinet_text_grammar.proofs.Utf8.{IsUtf8-word}
use Rattle.cabinet_text_grammar.specs.Documents as documents
use Rattle.cabinet_text_grammar.specs.Texts.{MapOfFour, ListOfEight, WholeTwice}

fits : (n : ℕ) → n < 2 ^ 63 → FitsSigned w64 (pos n)
fits n below = record { sfits = omega (arith, below) }

map_is_document : IsDocument documents.map_of_four
map_is_document = (
  (
    (
      (IsUtf8-word (codes "bar") refl, tt),
      (
        fits 1 (omega arith),
        (
          (IsUtf8-word (codes "bat") refl, refl),
          (
            fits 2 (omega arith),
            (
              (IsUtf8-word (codes "baz") refl, refl),
              (
                fits 3 (omega arith),
                ((IsUtf8-word (codes "foo") refl, refl), (fits 4 (omega arith), tt)),
              ),
            ),
          ),
        ),
      ),
    ),
    omega arith,
  ),
  omega arith,
  omega arith,
)

kept_is_legal : IsLegal documents.kept_map
kept_is_legal =
    let others = λ (before : List ℕ). before ≢ codes "a" in (
      (
        (IsUtf8-word (codes "b") refl, All-nil (λ before. before ≢ codes "b")),
        (
          fits 1 (omega arith),
          (
            (IsUtf8-word (codes "a") refl, All-cons others (codes "b") [] (λ h. first_differs refl h) (All-nil others)),
            (IsUtf8-word (codes "hat") refl, tt),
          ),
        ),
      ),
      omega arith,
    )

list_is_document : IsDocument documents.list_of_eight
list_is_document = (
  (
    (
      tt,
      (
        fits 7 (omega arith),
        (
          IsUtf8-word (codes "a b") refl,
          (
            IsUtf8-word (codes "hat") refl,
            (
              tt,
              (
                fits 5 (omega arith),
                ((((IsUtf8-word (codes "a") refl, tt), (fits 1 (omega arith), tt)), omega arith), (kept_is_legal, tt)),
              ),
            ),
          ),
        ),
      ),
    ),
    omega arith,
  ),
  omega arith,
  omega arith,
)

pub map_of_four : MapOfFour
unfolding digits
map_of_four = record { is_document = map_is_document; is_spelled = refl }

pub list_of_eight : ListOfEight
unfolding digits
list_of_eight = record { is_document = list_is_document; is_spelled = refl }

pub whole_twice : WholeTwice
unfolding digits
whole_twice = record {
  is_document = (((fits 5 (omega arith), (fits 5 (omega arith), tt)), omega arith), omega arith, omega arith);
  is_spelled = refl;
}
