-- What the layout allows, and what it refuses, by computation.
use Rattle.std.proofs.Common.{[], refl}
use Rattle.archive_shape_layout.proofs.Evaluate.{run}
use Rattle.archive_shape_layout.proofs.Evaluated.{root_found, root_refused}
use Rattle.cabinet_examples.specs.Doubtful.{OrderedMapWithARepeatedKey, HashedMapWithARepeatedKey, HashedMapWithAnotherTag, OrderedMapWithPadding, EmptyBuffer}

pub ordered_map_with_a_repeated_key : OrderedMapWithARepeatedKey
unfolding run
ordered_map_with_a_repeated_key = record { has_size = refl; has_position = refl; visits = []; has_root = root_found _ _ 90 _ _ _ _ _ refl }

pub hashed_map_with_a_repeated_key : HashedMapWithARepeatedKey
unfolding run
hashed_map_with_a_repeated_key = record { has_size = refl; has_position = refl; visits = []; has_root = root_found _ _ 90 _ _ _ _ _ refl }

pub hashed_map_with_another_tag : HashedMapWithAnotherTag
unfolding run
hashed_map_with_another_tag = record { has_size = refl; has_position = refl; visits = []; has_root = root_found _ _ 90 _ _ _ _ _ refl }

pub ordered_map_with_padding : OrderedMapWithPadding
unfolding run
ordered_map_with_padding = record { has_size = refl; has_position = refl; visits = []; has_root = root_found _ _ 90 _ _ _ _ _ refl }

pub empty_buffer : EmptyBuffer
unfolding run
empty_buffer = record { has_size = refl; has_position = refl; has_no_root = root_refused _ _ 90 _ _ refl }
