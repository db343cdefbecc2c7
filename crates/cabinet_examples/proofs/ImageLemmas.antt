-- The images are as stated: a law gives each document's, and computation its bytes and that it is within the limits.
use Rattle.std.proofs.Common.{ℕ, [], ◌^◌, ◌<◌, pos, refl, lit<, lit≤, w64, codes, FitsSigned, arith}
use Rattle.std.proofs.lemmas.Int.{ints}
use Rattle.archive_shape_layout.specs.Bytes.{align_up}
use Rattle.archive_shape_layout.specs.Content.{shape_content, choose, number_value}
use Rattle.archive_shape.specs.Offsets.{FitsOffset}
use Rattle.cabinet_text_grammar.specs.Tree.{leaf, number}
use Rattle.archive_forms_laws.proofs.Gaps.{bytes_none, bytes_more, bytes_number}
use Rattle.cabinet_text_grammar.proofs.Utf8.{IsUtf8-word}
use Rattle.cabinet_documents.proofs.Imaged.{written_is_image_law}
use Rattle.cabinet_examples.specs.Images.{FiveImage, TrueImage, WorldImage, LongTextImage, NothingImage, SomeFiveImage, SevenAndNineteenImage, EmptyListImage, ListOfAnEmptyListImage, SharedTextImage, EmptySharedTextImage, WholeImage, shared_twice, whole_twice, seven_and_nineteen, seven_and_nineteen_bytes}

small : (n : ℕ) → n < 2 ^ 63 → FitsSigned w64 (pos n)
small n h = record { sfits = h }

pub five_image : FiveImage
unfolding align_up shape_content number_value
five_image =
    written_is_image_law _ _ (small 5 (lit< tt), lit≤ tt, lit< tt)
    ((tt, tt), lit< tt, (((λ names start. refl, refl, bytes_number w64 5), lit< tt), tt))
    refl

pub true_image : TrueImage
unfolding align_up shape_content choose
true_image =
    written_is_image_law _ _ (tt, lit≤ tt, lit< tt)
    ((tt, tt), lit< tt, (((λ names start. refl, refl, bytes_more 1 [] (lit< tt) bytes_none), lit< tt), tt))
    refl

pub nothing_image : NothingImage
unfolding align_up
nothing_image = written_is_image_law _ _ (tt, lit≤ tt, lit< tt) ((tt, tt), lit< tt, ((tt, lit< tt), tt)) refl

pub world_image : WorldImage
unfolding align_up
world_image =
    let utf8 = IsUtf8-word (codes "world") refl in
    written_is_image_law _ _ (utf8, lit≤ tt, lit< tt) (((utf8, tt), tt), lit< tt, (((utf8, tt), lit< tt), tt)) refl

pub long_text_image : LongTextImage
unfolding align_up
long_text_image =
    let utf8 = IsUtf8-word (codes "hello world!") refl in
    let back : FitsOffset 20 0 = record { sfits = omega (arith, ints) } in
    written_is_image_law _ _ (utf8, lit≤ tt, lit< tt)
    (((utf8, (lit< tt, lit< tt)), tt), lit< tt, (((utf8, (lit< tt, back)), lit< tt), tt))
    refl

pub some_five_image : SomeFiveImage
unfolding align_up shape_content number_value
some_five_image =
    let back : FitsOffset 32 0 = record { sfits = omega (arith, ints) } in
    written_is_image_law _ _ (small 5 (lit< tt), lit≤ tt, lit< tt) (
      (((tt, tt), lit< tt, (((λ names start. refl, refl, bytes_number w64 5), lit< tt), tt)), tt),
      lit< tt,
      ((back, lit< tt), tt),
    )
    refl

pub seven_and_nineteen_image : SevenAndNineteenImage
unfolding align_up shape_content number_value
seven_and_nineteen_image =
    let back : FitsOffset 52 0 = record { sfits = omega (arith, ints) } in
    written_is_image_law seven_and_nineteen seven_and_nineteen_bytes
    (((small 7 (lit< tt), (small 19 (lit< tt), tt)), lit< tt), lit≤ tt, lit< tt) (
      (
        (
          (tt, (tt, tt)),
          lit< tt,
          (((λ names start. refl, refl, bytes_number w64 7), lit< tt), (((λ names start. refl, refl, bytes_number w64 19), lit< tt), tt)),
        ),
        tt,
      ),
      lit< tt,
      (((back, lit< tt), lit< tt), tt),
    )
    refl

pub empty_list_image : EmptyListImage
unfolding align_up
empty_list_image =
    let back : FitsOffset 4 0 = record { sfits = omega (arith, ints) } in
    written_is_image_law _ _ ((tt, lit< tt), lit≤ tt, lit< tt)
    (((tt, lit< tt, tt), tt), lit< tt, (((back, lit< tt), lit< tt), tt))
    refl

pub list_of_an_empty_list_image : ListOfAnEmptyListImage
unfolding align_up
list_of_an_empty_list_image =
    let near : FitsOffset 4 0 = record { sfits = omega (arith, ints) } in
    let back : FitsOffset 28 0 = record { sfits = omega (arith, ints) } in
    written_is_image_law _ _ ((((tt, lit< tt), tt), lit< tt), lit≤ tt, lit< tt) (
      ((((tt, lit< tt, tt), tt), lit< tt, (((near, lit< tt), lit< tt), tt)), tt),
      lit< tt,
      (((back, lit< tt), lit< tt), tt),
    )
    refl

pub shared_text_image : SharedTextImage
unfolding align_up
shared_text_image =
    let utf8 = IsUtf8-word (codes "hello world!") refl in
    let first : FitsOffset 20 0 = record { sfits = omega (arith, ints) } in
    let second : FitsOffset 44 0 = record { sfits = omega (arith, ints) } in
    let back : FitsOffset 68 16 = record { sfits = omega (arith, ints) } in
    written_is_image_law (shared_twice (codes "hello world!")) _
    (((utf8, (utf8, tt)), lit< tt), lit≤ tt, lit< tt) (
      (
        (
          ((tt, (utf8, lit< tt), refl), (tt, tt)),
          lit< tt,
          (((first, lit< tt), lit< tt), (((second, lit< tt), lit< tt), tt)),
        ),
        tt,
      ),
      lit< tt,
      (((back, lit< tt), lit< tt), tt),
    )
    refl

pub empty_shared_text_image : EmptySharedTextImage
unfolding align_up
empty_shared_text_image =
    let utf8 = IsUtf8-word [] refl in
    let first : FitsOffset 12 0 = record { sfits = omega (arith, ints) } in
    let second : FitsOffset 36 0 = record { sfits = omega (arith, ints) } in
    let back : FitsOffset 60 8 = record { sfits = omega (arith, ints) } in
    written_is_image_law (shared_twice []) _
    (((utf8, (utf8, tt)), lit< tt), lit≤ tt, lit< tt) (
      (
        (
          ((tt, (utf8, lit< tt), refl), (tt, tt)),
          lit< tt,
          (((first, lit< tt), lit< tt), (((second, lit< tt), lit< tt), tt)),
        ),
        tt,
      ),
      lit< tt,
      (((back, lit< tt), lit< tt), tt),
    )
    refl

pub whole_image : WholeImage
unfolding align_up shape_content number_value
whole_image =
    let first : FitsOffset 28 0 = record { sfits = omega (arith, ints) } in
    let second : FitsOffset 52 0 = record { sfits = omega (arith, ints) } in
    let back : FitsOffset 76 24 = record { sfits = omega (arith, ints) } in
    written_is_image_law (whole_twice (leaf (number (pos 5)))) _
    (((small 5 (lit< tt), (small 5 (lit< tt), tt)), lit< tt), lit≤ tt, lit< tt) (
      (
        (
          ((tt, ((tt, tt), lit< tt, (((λ names start. refl, refl, bytes_number w64 5), lit< tt), tt)), refl), (tt, tt)),
          lit< tt,
          ((first, lit< tt), ((second, lit< tt), tt)),
        ),
        tt,
      ),
      lit< tt,
      (((back, lit< tt), lit< tt), tt),
    )
    refl
