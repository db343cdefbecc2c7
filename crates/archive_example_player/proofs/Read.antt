-- The values at the positions of the fields of an archived player.
use Rattle.std.specs.Prelude.{⊤}
use Rattle.std.proofs.Common.{ℕ, ◌+◌, List}
use Rattle.archive_shape_layout.specs.Bytes.{align_up}
use Rattle.archive_shape.proofs.Held.{claims_within}
use Rattle.archive_forms_laws.specs.Text.{HasText}
use Rattle.archive_forms_laws.proofs.Held.{held_is_text_law}
use Rattle.archive_forms_values.specs.Parts.{HasValue}
use Rattle.archive_forms_values.specs.Fields.{IsGroupOf, AreFieldsAt}
use Rattle.archive_forms_values.proofs.Held.{fields_at}
use Rattle.archive_example_player.specs.Player.{level_shape, scores_shape, player_shape, player_parts, KnowsPlayer}

-- each value that a player has is that of its fields
pub fields_there : (bytes : List ℕ) (pos : ℕ) → AreFieldsAt player_parts KnowsPlayer bytes pos
fields_there bytes pos = fields_at player_parts KnowsPlayer (λ _ known. (known.0, (known.1, (known.2, tt)))) bytes pos

module _ (bytes : List ℕ) (pos : ℕ) (h : HasValue player_shape KnowsPlayer bytes pos) where
  fields : IsGroupOf player_parts bytes pos h.value
  fields = fields_there bytes pos h.value h.held

  pub level_there : HasValue level_shape (λ _. ⊤) bytes pos
  level_there = record { value = fields.each.first; held = fields.each.held }

  pub name_there : HasText bytes (pos + 4)
  unfolding align_up
  name_there =
      let held = fields.each.rest.held in
      (held_is_text_law held.names bytes held.level held.inside (pos + 4) _ held.regions held.before held.after held.own_within (claims_within held) held.holds).stands.there

  pub scores_there : HasValue scores_shape (λ _. ⊤) bytes (pos + 12)
  unfolding align_up
  scores_there = record { value = fields.each.rest.rest.first; held = fields.each.rest.rest.held }
