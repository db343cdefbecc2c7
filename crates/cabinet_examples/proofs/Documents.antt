-- The documents hold what is stated: by computation.
use Rattle.std.proofs.Common.{[], ◌∷◌, refl, codes}
use Rattle.archive_shape_layout.specs.Shape.Pointee.{sized, str}
use Rattle.archive_shape_layout.specs.Value.Value.{string}
use Rattle.archive_shape_layout.proofs.Evaluate.{run}
use Rattle.archive_shape_layout.proofs.Evaluated.{root_found}
use Rattle.cabinet_examples.specs.Sizes.{NodeSizes}
use Rattle.cabinet_examples.specs.Node.{node_names, node_shape}
use Rattle.cabinet_examples.specs.Documents.{NumberAtTheRoot, TruthAtTheRoot, LongTextAtTheRoot, NothingAtTheRoot, SomeNumber, SixtyFourOptions, EmptyList, SharedTextTwice, EmptySharedTextTwice, WholeTwice, OrderedMapOfTwo, OrderedMapOfSix, OrderedMapWithAnEmptyLeaf, HashedMapOfOne, ListInAMapInAMap, KeptMapOfTwo, EmptyKeptMap, options, options_value, options_regions, number_value}

pub node_sizes : NodeSizes
unfolding run
node_sizes = record { node_size = refl; node_align = refl; item_size = refl; leaf_size = refl; inner_size = refl }

pub number_at_the_root : NumberAtTheRoot
unfolding run
number_at_the_root = record { has_size = refl; has_position = refl; visits = []; has_root = root_found _ _ 90 _ _ _ _ _ refl }

pub truth_at_the_root : TruthAtTheRoot
unfolding run
truth_at_the_root = record { has_size = refl; has_position = refl; visits = []; has_root = root_found _ _ 90 _ _ _ _ _ refl }

pub long_text_at_the_root : LongTextAtTheRoot
unfolding run
long_text_at_the_root = record { has_size = refl; has_position = refl; visits = []; has_root = root_found _ _ 90 _ _ _ _ _ refl }

pub nothing_at_the_root : NothingAtTheRoot
unfolding run
nothing_at_the_root = record { has_size = refl; has_position = refl; visits = []; has_root = root_found _ _ 90 _ _ _ _ _ refl }

pub some_number : SomeNumber
unfolding run
some_number = record { has_size = refl; has_position = refl; visits = []; has_root = root_found _ _ 90 _ _ _ _ _ refl }

pub sixty_four_options : SixtyFourOptions
unfolding run
sixty_four_options = record { has_size = refl; has_position = refl; visits = []; has_root = root_found node_names (options 64) 420 1536 node_shape (options_value 64) (options_regions 0 64) [] refl }

pub empty_list : EmptyList
unfolding run
empty_list = record { has_size = refl; has_position = refl; visits = []; has_root = root_found _ _ 90 _ _ _ _ _ refl }

pub shared_text_twice : SharedTextTwice
unfolding run
shared_text_twice = record { has_size = refl; has_position = refl; visits = record { pos = 0; pointee = str; len = 12; value = string (codes "hello world!") } ∷ []; has_root = root_found _ _ 90 _ _ _ _ _ refl }

pub empty_shared_text_twice : EmptySharedTextTwice
unfolding run
empty_shared_text_twice = record { has_size = refl; has_position = refl; visits = record { pos = 0; pointee = str; len = 0; value = string (codes "") } ∷ []; has_root = root_found _ _ 90 _ _ _ _ _ refl }

pub whole_twice : WholeTwice
unfolding run
whole_twice = record { has_size = refl; has_position = refl; visits = record { pos = 0; pointee = sized node_shape; len = 1; value = number_value 5 } ∷ []; has_root = root_found _ _ 90 _ _ _ _ _ refl }

pub ordered_map_of_two : OrderedMapOfTwo
unfolding run
ordered_map_of_two = record { has_size = refl; has_position = refl; visits = []; has_root = root_found _ _ 90 _ _ _ _ _ refl }

pub ordered_map_of_six : OrderedMapOfSix
unfolding run
ordered_map_of_six = record { has_size = refl; has_position = refl; visits = []; has_root = root_found _ _ 90 _ _ _ _ _ refl }

pub ordered_map_with_an_empty_leaf : OrderedMapWithAnEmptyLeaf
unfolding run
ordered_map_with_an_empty_leaf = record { has_size = refl; has_position = refl; visits = []; has_root = root_found _ _ 90 _ _ _ _ _ refl }

pub hashed_map_of_one : HashedMapOfOne
unfolding run
hashed_map_of_one = record { has_size = refl; has_position = refl; visits = []; has_root = root_found _ _ 90 _ _ _ _ _ refl }

pub list_in_a_map_in_a_map : ListInAMapInAMap
unfolding run
list_in_a_map_in_a_map = record { has_size = refl; has_position = refl; visits = []; has_root = root_found _ _ 90 _ _ _ _ _ refl }

pub kept_map_of_two : KeptMapOfTwo
unfolding run
kept_map_of_two = record { has_size = refl; has_position = refl; visits = []; has_root = root_found _ _ 90 _ _ _ _ _ refl }

pub empty_kept_map : EmptyKeptMap
unfolding run
empty_kept_map = record { has_size = refl; has_position = refl; visits = []; has_root = root_found _ _ 90 _ _ _ _ _ refl }
