-- What each rule refuses, by computation.
use Rattle.std.proofs.Common.{[], ◌∷◌, ◌++◌, refl}
use Rattle.archive_shape_layout.specs.Shape.Shape.{tree}
use Rattle.cabinet_examples.specs.Pieces.{group_of, region}
use Rattle.archive_shape_layout.specs.Shape.Pointee.{sized}
use Rattle.archive_shape_layout.specs.Value.Value.{back}
use Rattle.archive_shape_layout.proofs.Evaluate.{run}
use Rattle.archive_shape_layout.proofs.Evaluated.{root_found, root_refused}
use Rattle.cabinet_examples.specs.Refused.{BoxThatIsNotAligned, UnknownTag, UnknownTagOfAnOption, TruthValueOfTwo, SurrogateChar, BrokenInlineText, BrokenLongText, LongTextOfEight, TableWithoutRoom, ControlThatDoesNotRepeat, EmptyControlThatDoesNotRepeat, TagBeyondTwiceTheCapacity, MoreTagsThanItems, PlaceOutsideTheMap, LeafOfSix, UnknownKindOfNode, ThirtyTwoLevels, ThirtyThreeLevels, OnePositionWithTwoShapes, LoopOfAFlavorWithCycles, LoopOfAFlavorWithoutCycles, ring, levels_bytes, unit, unit_entries, level_regions}

pub box_that_is_not_aligned : BoxThatIsNotAligned
unfolding run
box_that_is_not_aligned = record { has_size = refl; has_position = refl; has_no_root = root_refused _ _ 90 _ _ refl }

pub unknown_tag : UnknownTag
unfolding run
unknown_tag = record { has_size = refl; has_position = refl; has_no_root = root_refused _ _ 90 _ _ refl }

pub unknown_tag_of_an_option : UnknownTagOfAnOption
unfolding run
unknown_tag_of_an_option = record { has_size = refl; has_position = refl; has_no_root = root_refused _ _ 90 _ _ refl }

pub truth_value_of_two : TruthValueOfTwo
unfolding run
truth_value_of_two = record { has_size = refl; has_position = refl; has_no_root = root_refused _ _ 90 _ _ refl }

pub surrogate_char : SurrogateChar
unfolding run
surrogate_char = record { has_size = refl; has_position = refl; has_no_root = root_refused _ _ 90 _ _ refl }

pub broken_inline_text : BrokenInlineText
unfolding run
broken_inline_text = record { has_size = refl; has_position = refl; has_no_root = root_refused _ _ 90 _ _ refl }

pub broken_long_text : BrokenLongText
unfolding run
broken_long_text = record { has_size = refl; has_position = refl; has_no_root = root_refused _ _ 90 _ _ refl }

pub long_text_of_eight : LongTextOfEight
unfolding run
long_text_of_eight = record { has_size = refl; has_position = refl; has_no_root = root_refused _ _ 90 _ _ refl }

pub table_without_room : TableWithoutRoom
unfolding run
table_without_room = record { has_size = refl; has_position = refl; has_no_root = root_refused _ _ 90 _ _ refl }

pub control_that_does_not_repeat : ControlThatDoesNotRepeat
unfolding run
control_that_does_not_repeat = record { has_size = refl; has_position = refl; has_no_root = root_refused _ _ 90 _ _ refl }

pub empty_control_that_does_not_repeat : EmptyControlThatDoesNotRepeat
unfolding run
empty_control_that_does_not_repeat = record { has_size = refl; has_position = refl; has_no_root = root_refused _ _ 90 _ _ refl }

pub tag_beyond_twice_the_capacity : TagBeyondTwiceTheCapacity
unfolding run
tag_beyond_twice_the_capacity = record { has_size = refl; has_position = refl; has_no_root = root_refused _ _ 90 _ _ refl }

pub more_tags_than_items : MoreTagsThanItems
unfolding run
more_tags_than_items = record { has_size = refl; has_position = refl; has_no_root = root_refused _ _ 90 _ _ refl }

pub place_outside_the_map : PlaceOutsideTheMap
unfolding run
place_outside_the_map = record { has_size = refl; has_position = refl; has_no_root = root_refused _ _ 90 _ _ refl }

pub leaf_of_six : LeafOfSix
unfolding run
leaf_of_six = record { has_size = refl; has_position = refl; has_no_root = root_refused _ _ 90 _ _ refl }

pub unknown_kind_of_node : UnknownKindOfNode
unfolding run
unknown_kind_of_node = record { has_size = refl; has_position = refl; has_no_root = root_refused _ _ 90 _ _ refl }

pub thirty_two_levels : ThirtyTwoLevels
unfolding run
thirty_two_levels = record { has_size = refl; has_position = refl; visits = []; has_root = root_found [] (levels_bytes 30) 200 380 (tree 1 unit unit) (group_of (unit_entries 31)) (region 0 8 4 32 ∷ (level_regions 31 8 ++ region 380 8 4 0 ∷ [])) [] refl }

pub thirty_three_levels : ThirtyThreeLevels
unfolding run
thirty_three_levels = record { has_size = refl; has_position = refl; has_no_root = root_refused _ _ 200 _ _ refl }

pub one_position_with_two_shapes : OnePositionWithTwoShapes
unfolding run
one_position_with_two_shapes = record { has_size = refl; has_position = refl; has_no_root = root_refused _ _ 90 _ _ refl }

pub loop_of_a_flavor_with_cycles : LoopOfAFlavorWithCycles
unfolding run
loop_of_a_flavor_with_cycles = record { has_size = refl; has_position = refl; visits = record { pos = 0; pointee = sized ring; len = 1; value = back 0 } ∷ []; has_root = root_found _ _ 90 _ _ _ _ _ refl }

pub loop_of_a_flavor_without_cycles : LoopOfAFlavorWithoutCycles
unfolding run
loop_of_a_flavor_without_cycles = record { has_size = refl; has_position = refl; has_no_root = root_refused _ _ 90 _ _ refl }
