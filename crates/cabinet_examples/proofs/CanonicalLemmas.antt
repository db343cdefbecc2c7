-- The archives of the worked documents are canonical, and hashes of texts are as stated: by computation.
use Rattle.std.proofs.Common.{[], ◌∷◌, refl}
use Rattle.archive_shape_canonical.specs.FirstFit.{first_fit}
use Rattle.archive_shape_canonical.proofs.Evaluate.{run_canonical, archive_found}
use Rattle.archive_shape_canonical.specs.Hash.{hash_word, words_from, words_of, text_hash}
use Rattle.cabinet_examples.specs.Node.{node_shape, node_names}
use Rattle.cabinet_examples.specs.Pieces.{item_of, region}
use Rattle.cabinet_examples.specs.Documents.{number_value, truth_value, text_value, shared_value, no_value, some_value, list_value, ordered_value, hashed_value, kept_value, whole_value, number_bytes, truth_bytes, nothing_bytes, some_number_bytes, empty_list_bytes, long_text_bytes, shared_text_bytes, empty_shared_text_bytes, whole_bytes, two_ordered_bytes, six_ordered_bytes, one_hashed_bytes, nested_bytes, two_kept_bytes, empty_kept_bytes}
use Rattle.cabinet_examples.specs.Canonical.{text_visit, node_visit, short_text_bytes, five_ordered_bytes, five_ordered_value, six_ordered_value, empty_ordered_bytes, two_hashed_bytes, HashOfA, HashOfNothing, CanonicalNumber, CanonicalTruth, CanonicalNothing, CanonicalSomeNumber, CanonicalEmptyList, CanonicalLongText, CanonicalShortText, CanonicalSharedText, CanonicalEmptySharedText, CanonicalWhole, CanonicalOrderedMap, CanonicalLeafOfFive, CanonicalTreeOfSix, CanonicalEmptyOrderedMap, CanonicalHashedMap, CanonicalTakenPlace, CanonicalNestedMaps, CanonicalKeptMap, CanonicalEmptyKeptMap}

pub hash_of_a : HashOfA
unfolding hash_word words_from words_of text_hash
hash_of_a = refl

pub hash_of_nothing : HashOfNothing
unfolding hash_word words_from words_of text_hash
hash_of_nothing = refl

pub canonical_number : CanonicalNumber
unfolding run_canonical hash_word words_from words_of text_hash
canonical_number =
    archive_found (first_fit text_hash) node_names number_bytes 90 0 0 node_shape
    (number_value 5) (region 0 24 8 0 ∷ []) []
    refl

pub canonical_truth : CanonicalTruth
unfolding run_canonical hash_word words_from words_of text_hash
canonical_truth =
    archive_found (first_fit text_hash) node_names truth_bytes 90 0 0 node_shape
    truth_value (region 0 24 8 0 ∷ []) []
    refl

pub canonical_nothing : CanonicalNothing
unfolding run_canonical hash_word words_from words_of text_hash
canonical_nothing =
    archive_found (first_fit text_hash) node_names nothing_bytes 90 0 0 node_shape
    no_value (region 0 24 8 0 ∷ []) []
    refl

pub canonical_some_number : CanonicalSomeNumber
unfolding run_canonical hash_word words_from words_of text_hash
canonical_some_number =
    archive_found (first_fit text_hash) node_names some_number_bytes 90 0 24 node_shape
    (some_value (number_value 5)) (region 0 24 8 1 ∷ region 24 24 8 0 ∷ []) []
    refl

pub canonical_empty_list : CanonicalEmptyList
unfolding run_canonical hash_word words_from words_of text_hash
canonical_empty_list =
    archive_found (first_fit text_hash) node_names empty_list_bytes 90 0 0 node_shape
    (list_value []) (region 0 0 8 1 ∷ region 0 24 8 0 ∷ []) []
    refl

pub canonical_long_text : CanonicalLongText
unfolding run_canonical hash_word words_from words_of text_hash
canonical_long_text =
    archive_found (first_fit text_hash) node_names long_text_bytes 90 0 16 node_shape
    (text_value "hello world!") (region 0 12 1 1 ∷ region 16 24 8 0 ∷ []) []
    refl

pub canonical_short_text : CanonicalShortText
unfolding run_canonical hash_word words_from words_of text_hash
canonical_short_text =
    archive_found (first_fit text_hash) node_names short_text_bytes 90 0 0 node_shape
    (text_value "world") (region 0 24 8 0 ∷ []) []
    refl

pub canonical_shared_text : CanonicalSharedText
unfolding run_canonical hash_word words_from words_of text_hash
canonical_shared_text =
    archive_found (first_fit text_hash) node_names shared_text_bytes 90 0 64 node_shape
    (list_value (shared_value 0 "hello world!" ∷ shared_value 0 "hello world!" ∷ [])) (region 0 12 1 2 ∷ region 16 48 8 1 ∷ region 64 24 8 0 ∷ []) (text_visit 0 12 "hello world!" ∷ [])
    refl

pub canonical_empty_shared_text : CanonicalEmptySharedText
unfolding run_canonical hash_word words_from words_of text_hash
canonical_empty_shared_text =
    archive_found (first_fit text_hash) node_names empty_shared_text_bytes 90 0 56 node_shape
    (list_value (shared_value 0 "" ∷ shared_value 0 "" ∷ [])) (region 0 0 1 2 ∷ region 8 48 8 1 ∷ region 56 24 8 0 ∷ []) (text_visit 0 0 "" ∷ [])
    refl

pub canonical_whole : CanonicalWhole
unfolding run_canonical hash_word words_from words_of text_hash
canonical_whole =
    archive_found (first_fit text_hash) node_names whole_bytes 90 0 72 node_shape
    (list_value (whole_value 0 (number_value 5) ∷ whole_value 0 (number_value 5) ∷ [])) (region 0 24 8 2 ∷ region 24 48 8 1 ∷ region 72 24 8 0 ∷ []) (node_visit 0 (number_value 5) ∷ [])
    refl

pub canonical_ordered_map : CanonicalOrderedMap
unfolding run_canonical hash_word words_from words_of text_hash
canonical_ordered_map =
    archive_found (first_fit text_hash) node_names two_ordered_bytes 90 0 176 node_shape
    (ordered_value (item_of "coffee" (number_value 300) ∷ item_of "tea" (number_value 250) ∷ [])) (region 0 176 8 1 ∷ region 176 24 8 0 ∷ []) []
    refl

pub canonical_leaf_of_five : CanonicalLeafOfFive
unfolding run_canonical hash_word words_from words_of text_hash
canonical_leaf_of_five =
    archive_found (first_fit text_hash) node_names five_ordered_bytes 90 0 176 node_shape
    five_ordered_value (region 0 176 8 1 ∷ region 176 24 8 0 ∷ []) []
    refl

pub canonical_tree_of_six : CanonicalTreeOfSix
unfolding run_canonical hash_word words_from words_of text_hash
canonical_tree_of_six =
    archive_found (first_fit text_hash) node_names six_ordered_bytes 90 0 368 node_shape
    six_ordered_value (region 0 176 8 2 ∷ region 176 192 8 1 ∷ region 368 24 8 0 ∷ []) []
    refl

pub canonical_empty_ordered_map : CanonicalEmptyOrderedMap
unfolding run_canonical hash_word words_from words_of text_hash
canonical_empty_ordered_map =
    archive_found (first_fit text_hash) node_names empty_ordered_bytes 90 0 0 node_shape
    (ordered_value []) (region 0 24 8 0 ∷ []) []
    refl

pub canonical_hashed_map : CanonicalHashedMap
unfolding run_canonical hash_word words_from words_of text_hash
canonical_hashed_map =
    archive_found (first_fit text_hash) node_names one_hashed_bytes 90 0 96 node_shape
    (hashed_value (item_of "a" (text_value "world") ∷ [])) (region 0 95 8 1 ∷ region 96 24 8 0 ∷ []) []
    refl

pub canonical_taken_place : CanonicalTakenPlace
unfolding run_canonical hash_word words_from words_of text_hash
canonical_taken_place =
    archive_found (first_fit text_hash) node_names two_hashed_bytes 90 0 128 node_shape
    (hashed_value (item_of "d" (number_value 2) ∷ item_of "a" (number_value 1) ∷ [])) (region 0 127 8 1 ∷ region 128 24 8 0 ∷ []) []
    refl

pub canonical_nested_maps : CanonicalNestedMaps
unfolding run_canonical hash_word words_from words_of text_hash
canonical_nested_maps =
    archive_found (first_fit text_hash) node_names nested_bytes 90 0 320 node_shape
    (ordered_value (item_of "eu" (hashed_value (item_of "vat" (list_value (number_value 7 ∷ number_value 19 ∷ [])) ∷ [])) ∷ [])) (region 0 48 8 3 ∷ region 48 95 8 2 ∷ region 144 176 8 1 ∷ region 320 24 8 0 ∷ []) []
    refl

pub canonical_kept_map : CanonicalKeptMap
unfolding run_canonical hash_word words_from words_of text_hash
canonical_kept_map =
    archive_found (first_fit text_hash) node_names two_kept_bytes 90 0 112 node_shape
    (kept_value (item_of "z" (number_value 1) ∷ item_of "a" (number_value 2) ∷ [])) (region 0 43 4 1 ∷ region 48 64 8 1 ∷ region 112 24 8 0 ∷ []) []
    refl

pub canonical_empty_kept_map : CanonicalEmptyKeptMap
unfolding run_canonical hash_word words_from words_of text_hash
canonical_empty_kept_map =
    archive_found (first_fit text_hash) node_names empty_kept_bytes 90 0 0 node_shape
    (kept_value []) (region 0 24 8 0 ∷ []) []
    refl
