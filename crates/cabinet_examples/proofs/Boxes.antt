-- Archives of other types, by computation.
use Rattle.std.proofs.Common.{[], refl}
use Rattle.archive_shape_layout.proofs.Evaluate.{run}
use Rattle.archive_shape_layout.proofs.Evaluated.{root_found, root_refused}
use Rattle.cabinet_examples.specs.Boxes.{BoxedBytesInAnOption, BoxesThatLeadBeforeTheBuffer, BoxesThatOverlap, BoxesInACircle, OnePositionWithTwoLengths, MapOfANonzeroNumber, LeafShorterThanItsMap, MapWithAKeyOfZero}

pub boxed_bytes_in_an_option : BoxedBytesInAnOption
unfolding run
boxed_bytes_in_an_option = record { has_size = refl; has_position = refl; visits = []; has_root = root_found _ _ 90 _ _ _ _ _ refl }

pub boxes_that_lead_before_the_buffer : BoxesThatLeadBeforeTheBuffer
unfolding run
boxes_that_lead_before_the_buffer = record { has_size = refl; has_position = refl; has_no_root = root_refused _ _ 90 _ _ refl }

pub boxes_that_overlap : BoxesThatOverlap
unfolding run
boxes_that_overlap = record { has_size = refl; has_position = refl; has_no_root = root_refused _ _ 90 _ _ refl }

pub boxes_in_a_circle : BoxesInACircle
unfolding run
boxes_in_a_circle = record { has_size = refl; has_position = refl; has_no_root = root_refused _ _ 90 _ _ refl }

pub one_position_with_two_lengths : OnePositionWithTwoLengths
unfolding run
one_position_with_two_lengths = record { has_size = refl; has_position = refl; has_no_root = root_refused _ _ 90 _ _ refl }

pub map_of_a_nonzero_number : MapOfANonzeroNumber
unfolding run
map_of_a_nonzero_number = record { has_size = refl; has_position = refl; visits = []; has_root = root_found _ _ 90 _ _ _ _ _ refl }

pub leaf_shorter_than_its_map : LeafShorterThanItsMap
unfolding run
leaf_shorter_than_its_map = record { has_size = refl; has_position = refl; has_no_root = root_refused _ _ 90 _ _ refl }

pub map_with_a_key_of_zero : MapWithAKeyOfZero
unfolding run
map_with_a_key_of_zero = record { has_size = refl; has_position = refl; has_no_root = root_refused _ _ 90 _ _ refl }
