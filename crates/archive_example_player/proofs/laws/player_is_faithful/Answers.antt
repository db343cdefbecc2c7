use Rattle.archive_shape_layout.specs.Shape.Shape.{text, vector}
use Rattle.archive_forms_writing.specs.Owned.{string_spelling, vec_spelling}
use Rattle.archive_forms.proofs.Faithful.{option_faithful, vector_faithful, tuple3_faithful}
use Rattle.archive_example_player.specs.Player.{level_shape, score_shape, scores_shape, player_fields, level_spelling, score_spelling, scores_spelling}
use Rattle.archive_example_player.proofs.laws.player_is_faithful.Goals as goal

pub returns : goal.returns
returns c v p h =
    tuple3_faithful level_shape text level_spelling string_spelling _ _ (λ u x e. e) (λ u x e. e)
    scores_shape scores_spelling _ (option_faithful (vec_spelling score_shape score_spelling) _ (vector_faithful score_spelling _ (λ u x e. e) score_shape) (vector score_shape))
    v (player_fields p) h
