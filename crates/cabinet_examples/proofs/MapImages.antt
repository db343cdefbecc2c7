-- The images of maps are as stated: a law gives each document's, and computation its bytes and that it is within the limits.
use Rattle.std.proofs.Common.{◌≢◌, ℕ, List, [], ◌^◌, ◌<◌, pos, refl, lit<, lit≤, w64, codes, FitsSigned, arith}
use Rattle.std.proofs.lemmas.Int.{ints}
use Rattle.std.proofs.lemmas.List.Elements.{All-nil, All-cons}
use Rattle.archive_shape_layout.specs.Bytes.{align_up}
use Rattle.archive_shape_layout.specs.Content.{shape_content, number_value, keys_offset, values_offset, node_size, links_offset, link_node_align, link_node_size, control_count}
use Rattle.archive_shape_canonical.specs.Hash.{hash_word, words_from, words_of, text_hash}
use Rattle.archive_shape_canonical.specs.FirstFit.{hash_tag, written_controls}
use Rattle.archive_shape_canonical.specs.Strides.{least_power, stop, strides_from, strides, places_for}
use Rattle.archive_shape.specs.Offsets.{FitsOffset}
use Rattle.archive_forms_laws.proofs.Gaps.{bytes_number, bytes_word}
use Rattle.cabinet_text_grammar.proofs.Escapes.{first_differs}
use Rattle.cabinet_text_grammar.proofs.Utf8.{IsUtf8-word}
use Rattle.cabinet_documents.proofs.Imaged.{written_is_image_law}
use Rattle.cabinet_examples.specs.Documents.{two_ordered_bytes, one_hashed_bytes, two_kept_bytes}
use Rattle.cabinet_examples.specs.Images.{two_ordered, one_hashed, two_kept, OrderedMapImage, HashedMapImage, KeptMapImage}

small : (n : ℕ) → n < 2 ^ 63 → FitsSigned w64 (pos n)
small n h = record { sfits = h }

pub ordered_map_image : OrderedMapImage
unfolding align_up shape_content number_value keys_offset values_offset node_size links_offset link_node_align link_node_size
ordered_map_image =
    let coffee = IsUtf8-word (codes "coffee") refl in
    let tea = IsUtf8-word (codes "tea") refl in
    let back : FitsOffset 180 0 = record { sfits = omega (arith, ints) } in
    written_is_image_law two_ordered two_ordered_bytes
    ((((coffee, tt), (small 300 (lit< tt), ((tea, refl), (small 250 (lit< tt), tt)))), lit< tt), lit≤ tt, lit< tt) (
      (
        (
          tt,
          (
            (((coffee, tt), (tt, tt)), (((tea, tt), (tt, tt)), tt)),
            (lit< tt, lit< tt),
            (
              ((coffee, tt), ((tea, tt), tt)),
              ((λ names start. refl, refl, bytes_number w64 300), ((λ names start. refl, refl, bytes_number w64 250), tt)),
              tt,
            ),
          ),
        ),
        tt,
      ),
      lit< tt,
      (((back, lit< tt), lit< tt), tt),
    )
    refl

pub hashed_map_image : HashedMapImage
unfolding align_up shape_content hash_word words_from words_of text_hash hash_tag written_controls least_power stop strides_from strides places_for control_count
hashed_map_image =
    let key = IsUtf8-word (codes "a") refl in
    let value = IsUtf8-word (codes "world") refl in
    let back : FitsOffset 100 64 = record { sfits = omega (arith, ints) } in
    written_is_image_law one_hashed one_hashed_bytes
    ((((key, tt), (value, tt)), lit< tt), lit≤ tt, lit< tt) (
      (
        (
          lit< tt,
          (((key, tt), ((value, tt), tt)), tt),
          (lit< tt, lit< tt),
          ((((key, tt), ((value, tt), tt)), lit< tt), tt),
        ),
        tt,
      ),
      lit< tt,
      (((back, lit< tt), lit< tt), tt),
    )
    refl

pub kept_map_image : KeptMapImage
unfolding align_up shape_content number_value hash_word words_from words_of text_hash hash_tag written_controls least_power stop strides_from strides places_for control_count
kept_map_image =
    let first = IsUtf8-word (codes "z") refl in
    let second = IsUtf8-word (codes "a") refl in
    let others = λ (before : List ℕ). before ≢ codes "a" in
    let controls : FitsOffset 116 12 = record { sfits = omega (arith, ints) } in
    let entries : FitsOffset 128 48 = record { sfits = omega (arith, ints) } in
    written_is_image_law two_kept two_kept_bytes (
      (
        (
          (first, All-nil (λ before. before ≢ codes "z")),
          (small 1 (lit< tt), ((second, All-cons others (codes "z") [] (λ h. first_differs refl h) (All-nil others)), (small 2 (lit< tt), tt))),
        ),
        lit< tt,
      ),
      lit≤ tt,
      lit< tt,
    ) (
      (
        (
          (
            lit< tt,
            (tt, (tt, tt)),
            (lit< tt, lit< tt),
            (((λ names start. refl, refl, bytes_word 0), lit< tt), (((λ names start. refl, refl, bytes_word 1), lit< tt), tt)),
          ),
          (
            (((first, tt), (tt, tt)), (((second, tt), (tt, tt)), tt)),
            lit< tt,
            (
              (((first, tt), ((λ names start. refl, refl, bytes_number w64 1), tt)), lit< tt),
              ((((second, tt), ((λ names start. refl, refl, bytes_number w64 2), tt)), lit< tt), tt),
            ),
          ),
        ),
        tt,
      ),
      lit< tt,
      ((((controls, lit< tt), entries), lit< tt), tt),
    )
    refl
