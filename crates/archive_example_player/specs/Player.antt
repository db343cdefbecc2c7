-- A player: its layout, and how it is archived, which is as the tuple of its fields.
use Rattle.std.specs.Prelude.{ℕ, ℤ, List, [], ◌∷◌, false, true, ⊤, Option, String, Vec}
use Rattle.std.specs.Int.{w8, w32, to_le_bytes, cast_unsigned}
use Rattle.std.specs.Global.{Global}
use Rattle.archive_shape_layout.specs.Shape.{Shape}
use Rattle.archive_shape_layout.specs.Shape.Shape.{number, text, option, vector}
use Rattle.archive_shape_layout.specs.Value.Value.{natural, integer}
use Rattle.archive_shape_layout.specs.Content.{Names}
use Rattle.archive_forms_values.specs.Tuples.{tuple3}
use Rattle.archive_forms_laws.specs.Spelling.{Spelling}
use Rattle.archive_forms_laws.specs.Forms.{leaf_spelling, seen_as}
use Rattle.archive_forms_laws.specs.Options.{option_spelling}
use Rattle.archive_forms_laws.specs.Fields.{tuple3_spelling}
use Rattle.archive_forms_values.specs.declared.reading.resolving.VecResolver.{VecResolver}
use Rattle.archive_forms_values.specs.declared.text.resolving.StringResolver.{StringResolver}
use Rattle.archive_forms_values.specs.Fields.{Field, field}
use Rattle.archive_forms_writing.specs.Owned.{string_spelling, vec_spelling}
use Rattle.archive_example_player.specs.declared.player.Player.{Player}

-- ---- layout

-- a byte
abbrev pub level_shape : Shape
level_shape = number w8 false

-- a number of 32 bits with a sign
abbrev pub score_shape : Shape
score_shape = number w32 true

abbrev pub scores_shape : Shape
scores_shape = option (vector score_shape)

abbrev pub player_shape : Shape
player_shape = tuple3 level_shape text scores_shape

-- no type of a field has a name
abbrev pub KnowsPlayer : Names → Type 0
KnowsPlayer _ = ⊤ × ⊤ × ⊤

-- the fields of which it is made, for what is read of them
abbrev pub player_parts : List Field
player_parts = field level_shape (λ _. ⊤) ∷ field text (λ _. ⊤) ∷ field scores_shape (λ _. ⊤) ∷ []

-- ---- how it is archived

abbrev pub level_spelling : Spelling ℕ (Unit {0})
level_spelling = leaf_spelling level_shape (λ b. b ∷ []) natural

abbrev pub score_spelling : Spelling ℤ (Unit {0})
score_spelling = leaf_spelling score_shape (λ n. to_le_bytes w32 (cast_unsigned w32 n)) integer

abbrev pub scores_spelling : Spelling (Option (Vec ℤ Global)) (Option VecResolver)
scores_spelling = option_spelling (vector score_shape) (vec_spelling score_shape score_spelling)

abbrev pub fields_spelling : Spelling (ℕ × String Global × Option (Vec ℤ Global)) (Unit {0} × StringResolver × Option VecResolver)
fields_spelling = tuple3_spelling level_shape level_spelling text string_spelling scores_shape scores_spelling

abbrev pub player_fields : Player → ℕ × String Global × Option (Vec ℤ Global)
player_fields p = (p.level, p.name, p.scores)

abbrev pub player_spelling : Spelling Player (Unit {0} × StringResolver × Option VecResolver)
player_spelling = seen_as player_fields fields_spelling
