-- The own bytes of a player, field by field.
use Rattle.std.proofs.Common.{ℕ, ◌+◌, List, Option, Ok, Err, ap}
use Rattle.archive_shape_layout.specs.Shape.Shape.{tuple, text}
use Rattle.archive_shape_layout.specs.declared.error.Error.{Error}
use Rattle.archive_forms_laws.specs.Fields.{struct_spelling, no_fields}
use Rattle.archive_forms_laws.specs.Serializing.{CanResolve, Resolves}
use Rattle.archive_forms_values.specs.declared.reading.resolving.VecResolver.{VecResolver}
use Rattle.archive_forms_values.specs.declared.text.resolving.StringResolver.{StringResolver}
use Rattle.archive_forms_writing.specs.Fields.{field_at, ResolvesField}
use Rattle.archive_forms_writing.specs.Owned.{string_spelling}
use Rattle.archive_forms_writing.proofs.Structs.{Placed, placed_none, placed_can, placed_next, placed_stopped, placed_all}
use Rattle.archive_example_player.specs.declared.player.Player.{Player}
use Rattle.archive_example_player.specs.Player.{level_shape, scores_shape, player_shape, level_spelling, scores_spelling, player_spelling}
use Rattle.archive_example_player.proofs.Fields.{from_scores, from_name, all, fields_of, split, level_spells, name_spells, scores_spells}

module _ (p : Player) (r : Unit {0} × StringResolver × Option VecResolver) (bytes : List ℕ) (start pos : ℕ) (asked : CanResolve player_spelling player_shape p r bytes start pos) where
  can : CanResolve (struct_spelling all) (tuple all.shapes) (fields_of p) (split r) bytes start pos
  can = record { room = asked.room; stands = asked.stands; blank = asked.blank; made = (asked.made.0, ap split asked.made.1) }

  none : Placed all (fields_of p) (split r) bytes start pos all (fields_of p) (split r) 0 bytes
  none = placed_none all (fields_of p) (split r) bytes start pos can

  pub level_can : CanResolve level_spelling level_shape p.level r.0 bytes (start + field_at level_shape 0) (pos + field_at level_shape 0)
  level_can = placed_can all (fields_of p) (split r) bytes start pos can level_shape level_spelling from_name (fields_of p) (split r) 0 bytes none

  pub level_refused : (new : List ℕ) (e : Error) → ResolvesField level_spelling level_shape p.level r.0 pos start 0 bytes new (Err e) → Resolves player_spelling player_shape p r pos start bytes new (Err e)
  level_refused new e h = placed_stopped all (fields_of p) (split r) bytes start pos can level_shape level_spelling from_name (fields_of p) (split r) 0 bytes none e h

  module _ (with_level : List ℕ) (level_end : ℕ) (level : ResolvesField level_spelling level_shape p.level r.0 pos start 0 bytes with_level (Ok level_end)) where
    one : Placed all (fields_of p) (split r) bytes start pos from_name (fields_of p).1 (split r).1 level_end with_level
    one =
        placed_next all (fields_of p) (split r) bytes start pos can level_shape level_spelling from_name (fields_of p) (split r) 0 bytes none with_level level_end
        ((level_spells p.level).sized r.0 (pos + field_at level_shape 0) level.1) level

    pub name_can : CanResolve string_spelling text p.name r.1 with_level (start + field_at text level_end) (pos + field_at text level_end)
    name_can = placed_can all (fields_of p) (split r) bytes start pos can text string_spelling from_scores (fields_of p).1 (split r).1 level_end with_level one

    pub name_refused : (new : List ℕ) (e : Error) → ResolvesField string_spelling text p.name r.1 pos start level_end with_level new (Err e) → Resolves player_spelling player_shape p r pos start bytes new (Err e)
    name_refused new e h = placed_stopped all (fields_of p) (split r) bytes start pos can text string_spelling from_scores (fields_of p).1 (split r).1 level_end with_level one e h

    module _ (with_name : List ℕ) (name_end : ℕ) (name : ResolvesField string_spelling text p.name r.1 pos start level_end with_level with_name (Ok name_end)) where
      two : Placed all (fields_of p) (split r) bytes start pos from_scores (fields_of p).1.1 (split r).1.1 name_end with_name
      two =
          placed_next all (fields_of p) (split r) bytes start pos can text string_spelling from_scores (fields_of p).1 (split r).1 level_end with_level one with_name name_end
          ((name_spells p.name).sized r.1 (pos + field_at text level_end) name.1) name

      pub scores_can : CanResolve scores_spelling scores_shape p.scores r.2 with_name (start + field_at scores_shape name_end) (pos + field_at scores_shape name_end)
      scores_can = placed_can all (fields_of p) (split r) bytes start pos can scores_shape scores_spelling no_fields (fields_of p).1.1 (split r).1.1 name_end with_name two

      pub scores_refused : (new : List ℕ) (e : Error) → ResolvesField scores_spelling scores_shape p.scores r.2 pos start name_end with_name new (Err e) → Resolves player_spelling player_shape p r pos start bytes new (Err e)
      scores_refused new e h = placed_stopped all (fields_of p) (split r) bytes start pos can scores_shape scores_spelling no_fields (fields_of p).1.1 (split r).1.1 name_end with_name two e h

      pub player_resolved : (new : List ℕ) (end : ℕ) → ResolvesField scores_spelling scores_shape p.scores r.2 pos start name_end with_name new (Ok end) → Resolves player_spelling player_shape p r pos start bytes new (Ok tt)
      player_resolved new end scores =
          placed_all all (fields_of p) (split r) bytes start pos can tt end new
          (placed_next all (fields_of p) (split r) bytes start pos can scores_shape scores_spelling no_fields (fields_of p).1.1 (split r).1.1 name_end with_name two new end
          ((scores_spells p.scores).sized r.2 (pos + field_at scores_shape name_end) scores.1) scores)
