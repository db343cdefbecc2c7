-- Each sample is written as its one archive.
use Rattle.std.proofs.Common.{◌≡◌, ℕ, ◌==◌, ◌<◌, ◌^◌, cond, Bool, true, false, codes, List, [], ◌∷◌, Option, Some, None, refl, sym, ◌∙◌, arith, eqb-true, IsUtf8}
use Rattle.std.specs.Int.{w8, w32, w64, to_le_bytes}
use Rattle.std.proofs.lemmas.Int.{ints}
use lib.Utf8.{encode}
use Rattle.archive_shape_layout.specs.Bytes.{align_up}
use Rattle.archive_shape_layout.specs.Shape.Shape.{shared, box, option, number, text}
use Rattle.archive_shape_layout.specs.Shape.Pointee.{sized}
use Rattle.archive_shape_layout.specs.Value.Value.{natural}
use Rattle.archive_shape_layout.specs.Content.{Names, shape_content, number_value}
use Rattle.archive_shape_layout.specs.Numbers.{Reads}
use Rattle.archive_shape_canonical.specs.Settled.{Fit}
use Rattle.archive_forms_laws.specs.State.{Keys, SharedValue, AreOneToOne, initial}
use Rattle.archive_forms_laws.specs.Spells.{Spells}
use Rattle.archive_forms_laws.specs.Forms.{seen_as}
use Rattle.archive_forms_laws.specs.Regions.{region_fits, region_piece, all_suit}
use Rattle.archive_forms_laws.specs.Pointers.{box_spelling}
use Rattle.archive_shape.specs.Offsets.{FitsOffset}
use Rattle.archive_forms_laws.specs.Options.{option_spelling}
use Rattle.archive_forms_laws.specs.Texts.{text_spelling}
use Rattle.archive_forms_laws.specs.Written.{IsWritten}
use Rattle.archive_forms_laws.specs.Sample.{number_shape, number_spelling, keyed_spelling, keyed_list_shape, keyed_list, two, two_bytes, optional_list_shape, optional_list, one_present, one_present_bytes, unsigned_spelling, pair_shape, pair_spelling, zero_pair_bytes, other_pair_bytes, filled_text_bytes, eight_text_bytes, nine_text_bytes}
use Rattle.archive_forms_laws.specs.SpellingLaws.{KnowsAll, KeyedListsAreWritten, OnePresentIsWritten, OptionalListsAreWritten, PairsAreWritten, TextsAreWritten, TwoSharedIsWritten}
use Rattle.archive_forms_laws.proofs.Gaps.{bytes_number, bytes_word}
use Rattle.archive_forms_laws.proofs.Leaves.{leaf_spells}
use Rattle.archive_forms_laws.proofs.Views.{seen_spells}
use Rattle.archive_forms_laws.proofs.Pointers.{slice_spells, box_spells}
use Rattle.archive_forms_laws.proofs.Options.{option_spells}
use Rattle.archive_forms_laws.proofs.Fields.{tuple2_spells}
use Rattle.archive_forms_laws.proofs.Texts.{text_spells}
use Rattle.archive_forms_laws.proofs.Shared.{shared_value_spells}
use Rattle.archive_forms_laws.proofs.Written.{is_written}

pub number_spells : (fit : Fit) → Spells fit number_shape KnowsAll number_spelling
number_spells fit = leaf_spells fit number_shape KnowsAll (to_le_bytes w32) natural tt

-- ---- lists of shared numbers

pub keyed_spells : (fit : Fit) → Spells fit (shared false (sized number_shape)) KnowsAll keyed_spelling
keyed_spells fit =
    shared_value_spells fit false number_shape KnowsAll (seen_as (λ x. x.1) number_spelling) (λ x. x.0)
    (seen_spells fit number_shape KnowsAll (λ x. x.1) number_spelling (number_spells fit))

pub keyed_list_spells : (fit : Fit) → Spells fit keyed_list_shape KnowsAll keyed_list
keyed_list_spells fit = slice_spells fit (shared false (sized number_shape)) KnowsAll keyed_spelling (keyed_spells fit)

pub keyed_lists_are_written_law : KeyedListsAreWritten
keyed_lists_are_written_law fit names keys xs bytes keyed one f e =
    is_written fit keyed_list_shape KnowsAll keyed_list xs names keys bytes (keyed_list_spells fit) tt keyed one f e

-- ---- lists of boxes that may be absent

pub optional_list_spells : (fit : Fit) → Spells fit optional_list_shape KnowsAll optional_list
optional_list_spells fit =
    slice_spells fit (option (box (sized number_shape))) KnowsAll (option_spelling (box (sized number_shape)) (box_spelling number_shape number_spelling))
    (option_spells fit (box (sized number_shape)) KnowsAll (box_spelling number_shape number_spelling) (box_spells fit number_shape KnowsAll number_spelling (number_spells fit)))

abbrev no_keys : Keys
no_keys k = None

pub none_to_none : AreOneToOne no_keys
none_to_none k l a b e f same_type same = absurd (cc)

-- no shared value is in them
all_absent : (fit : Fit) (xs : List (Option ℕ)) → all_suit (option_spelling (box (sized number_shape)) (box_spelling number_shape number_spelling)) fit no_keys xs
all_absent fit [] = tt
all_absent fit (None ∷ xs) = (tt, all_absent fit xs)
all_absent fit (Some n ∷ xs) = (tt, all_absent fit xs)

pub optional_lists_are_written_law : OptionalListsAreWritten
optional_lists_are_written_law fit names xs bytes f e =
    is_written fit optional_list_shape KnowsAll optional_list xs names no_keys bytes (optional_list_spells fit) tt (all_absent fit xs) none_to_none f e

-- ---- two numbers that are one shared value

abbrev keys_of_two : Keys
keys_of_two k = cond (k == 7) (Some (record { pointee = sized number_shape; len = 1; value = natural 5 })) None

is_seven : (k : ℕ) (a : SharedValue) → keys_of_two k ≡ Some a → k ≡ 7
is_seven k a e = tested (k == 7) refl e
  where
    tested : (b : Bool) → (k == 7) ≡ b → cond b (Some (record { pointee = sized number_shape; len = 1; value = natural 5 })) None ≡ Some a → k ≡ 7
    tested true t f = eqb-true k 7 t
    tested false t f = absurd (cc)

one_to_one : AreOneToOne keys_of_two
one_to_one k l a b e f same_type same = is_seven k a e ∙ sym (is_seven l b f)

two_fit : region_fits keyed_list keyed_list_shape (two ∷ []) initial
unfolding align_up shape_content number_value
two_fit =
    let small : (n : ℕ) → n < 20 → n < 2 ^ 32 = λ n h. omega arith in
    let little : (n : ℕ) → n < 40 → n < 2 ^ 64 = λ n h. omega arith in
    let from_first : FitsOffset 4 0 = record { sfits = omega (arith, ints) } in
    let from_second : FitsOffset 8 0 = record { sfits = omega (arith, ints) } in
    let from_root : FitsOffset 12 4 = record { sfits = omega (arith, ints) } in (
      (
        (
          ((tt, ((tt, tt), small 0 (omega arith), (((λ names pos. refl, refl, bytes_word 5), little 4 (omega arith)), tt)), refl), (tt, tt)),
          small 4 (omega arith),
          ((from_first, little 8 (omega arith)), ((from_second, little 12 (omega arith)), tt)),
        ),
        tt,
      ),
      small 12 (omega arith),
      (((from_root, small 2 (omega arith)), little 20 (omega arith)), tt),
    )

pub two_shared_is_written_law : TwoSharedIsWritten
unfolding align_up
two_shared_is_written_law fit names = keyed_lists_are_written_law fit names keys_of_two two two_bytes ((refl, tt), ((refl, tt), tt)) one_to_one two_fit refl

-- ---- a number in a box, and an absent one

one_fits : region_fits optional_list optional_list_shape (one_present ∷ []) initial
unfolding align_up shape_content number_value
one_fits =
    let small : (n : ℕ) → n < 40 → n < 2 ^ 32 = λ n h. omega arith in
    let little : (n : ℕ) → n < 40 → n < 2 ^ 64 = λ n h. omega arith in
    let from_box : FitsOffset 8 0 = record { sfits = omega (arith, ints) } in
    let from_root : FitsOffset 20 4 = record { sfits = omega (arith, ints) } in (
      (
        (
          (((tt, tt), small 0 (omega arith), (((λ names pos. refl, refl, bytes_word 5), little 4 (omega arith)), tt)), (tt, tt)),
          small 4 (omega arith),
          ((from_box, little 12 (omega arith)), ((tt, little 20 (omega arith)), tt)),
        ),
        tt,
      ),
      small 20 (omega arith),
      (((from_root, small 2 (omega arith)), little 28 (omega arith)), tt),
    )

pub one_present_is_written_law : OnePresentIsWritten
unfolding align_up
one_present_is_written_law fit names = optional_lists_are_written_law fit names one_present one_present_bytes one_fits refl

-- ---- pairs

pub pair_spells : (fit : Fit) → Spells fit pair_shape KnowsAll pair_spelling
pair_spells fit =
    tuple2_spells fit KnowsAll (number w8 false) (unsigned_spelling w8) (number w64 false) (unsigned_spelling w64)
    (leaf_spells fit (number w8 false) KnowsAll (to_le_bytes w8) natural tt) (leaf_spells fit (number w64 false) KnowsAll (to_le_bytes w64) natural tt)

pair_fits : (a b : ℕ) → Reads (number w8 false) (to_le_bytes w8 a) (natural a) → Reads (number w64 false) (to_le_bytes w64 b) (natural b)
    → region_fits pair_spelling pair_shape ((a, b) ∷ []) initial
unfolding align_up
pair_fits a b h k =
    let small : 0 < 2 ^ 32 = omega arith in
    let little : 16 < 2 ^ 64 = omega arith in
    (((tt, (tt, tt)), tt), small, ((((h, refl, bytes_number w8 a), ((k, refl, bytes_number w64 b), tt)), little), tt))

pair_is_written : (fit : Fit) (names : Names) (a b : ℕ) (bytes : List ℕ) → Reads (number w8 false) (to_le_bytes w8 a) (natural a) → Reads (number w64 false) (to_le_bytes w64 b) (natural b)
    → bytes ≡ region_piece pair_spelling pair_shape ((a, b) ∷ []) initial → IsWritten pair_shape pair_spelling (a, b) fit names bytes
pair_is_written fit names a b bytes h k e = is_written fit pair_shape KnowsAll pair_spelling (a, b) names no_keys bytes (pair_spells fit) tt (tt, (tt, tt)) none_to_none (pair_fits a b h k) e

pub pairs_are_written_law : PairsAreWritten
unfolding align_up shape_content number_value
pairs_are_written_law fit names = (
  pair_is_written fit names 0 0 zero_pair_bytes (λ n pos. refl) (λ n pos. refl) refl,
  pair_is_written fit names 7 5 other_pair_bytes (λ n pos. refl) (λ n pos. refl) refl,
)

-- ---- texts

text_is_written : (fit : Fit) (names : Names) (t bytes : List ℕ) → IsUtf8 t → region_fits text_spelling text (t ∷ []) initial
    → bytes ≡ region_piece text_spelling text (t ∷ []) initial → IsWritten text text_spelling t fit names bytes
text_is_written fit names t bytes u f e = is_written fit text KnowsAll text_spelling t names no_keys bytes (text_spells fit KnowsAll) tt tt none_to_none f e

pub texts_are_written_law : TextsAreWritten
unfolding align_up encode
texts_are_written_law fit names =
    let small : (n : ℕ) → n < 20 → n < 2 ^ 32 = λ n h. omega arith in
    let little : (n : ℕ) → n < 40 → n < 2 ^ 64 = λ n h. omega arith in
    let most : 9 < 2 ^ 30 = omega arith in
    let near : FitsOffset 12 0 = record { sfits = omega (arith, ints) } in
    let three : IsUtf8 (codes "abc") = (codes "abc", (refl, refl)) in
    let eight : IsUtf8 (codes "abcdefgh") = (codes "abcdefgh", (refl, refl)) in
    let nine : IsUtf8 (codes "abcdefghi") = (codes "abcdefghi", (refl, refl)) in (
      text_is_written fit names _ filled_text_bytes three (((three, tt), tt), small 0 (omega arith), (((three, tt), little 8 (omega arith)), tt)) refl,
      text_is_written fit names _ eight_text_bytes eight (((eight, tt), tt), small 0 (omega arith), (((eight, tt), little 8 (omega arith)), tt)) refl,
      text_is_written fit names _ nine_text_bytes nine (((nine, (most, small 0 (omega arith))), tt), small 12 (omega arith), (((nine, (most, near)), little 20 (omega arith)), tt)) refl,
    )
