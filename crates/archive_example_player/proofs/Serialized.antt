-- The data of a player, field by field.
use Rattle.std.proofs.Common.{◌≡◌, Option, Ok, Err, ap}
use Rattle.archive_shape_layout.specs.Shape.Shape.{text}
use Rattle.archive_shape_layout.specs.Writing.{WriterMembers}
use Rattle.archive_shape_layout.specs.declared.error.Error.{Error}
use Rattle.archive_forms_laws.specs.State.{State}
use Rattle.archive_forms_laws.specs.Spelling.{state_after}
use Rattle.archive_forms_laws.specs.Fields.{no_fields}
use Rattle.archive_forms_laws.specs.Serializing.{IsAt, HasState, Serializes}
use Rattle.archive_forms_values.specs.declared.reading.resolving.VecResolver.{VecResolver}
use Rattle.archive_forms_values.specs.declared.text.resolving.StringResolver.{StringResolver}
use Rattle.archive_forms_writing.specs.Owned.{string_spelling}
use Rattle.archive_forms_writing.proofs.Structs.{Reached, reached_none, reached_next, reached_stopped, reached_all}
use Rattle.archive_example_player.specs.declared.player.Player.{Player}
use Rattle.archive_example_player.specs.Player.{level_shape, scores_shape, level_spelling, scores_spelling, player_spelling}
use Rattle.archive_example_player.proofs.Fields.{from_scores, from_name, all, fields_of, joined}

module _ {W : Type 0} (m : WriterMembers W) (p : Player) (old : W) where
  none : (st : State) → IsAt m.pos m.known old st → Reached m all (fields_of p) old st all (fields_of p) (λ k. k) st old
  none st at = reached_none m all (fields_of p) old st at

  pub level_stops : (new : W) (e : Error) → Serializes level_spelling m p.level old new (Err e) → Serializes player_spelling m p old new (Err e)
  level_stops new e h st at = reached_stopped m all (fields_of p) old st level_shape level_spelling from_name (fields_of p) _ st old (none st at) new e (h st at)

  module _ (one : W) (k : Unit {0}) (level : Serializes level_spelling m p.level old one (Ok k)) where
    abbrev after_level : State → State
    after_level st = state_after level_spelling p.level st

    behind_level : (st : State) → IsAt m.pos m.known old st → Reached m all (fields_of p) old st from_name (fields_of p).1 (λ r. (k, r)) (after_level st) one
    behind_level st at =
        let by = level st at in
        reached_next m all (fields_of p) old st level_shape level_spelling from_name (fields_of p) _ st old (none st at) one k by.0 by.1.0 by.1.1 by.1.2

    pub level_leaves : HasState m.pos m.known old → HasState m.pos m.known one
    level_leaves has = record { state = after_level has.state; is_at = (behind_level has.state has.is_at).is_at }

    pub level_is_quiet : HasState m.pos m.known old → m.failures one ≡ m.failures old
    level_is_quiet has = (behind_level has.state has.is_at).wrote.is_quiet

    pub name_stops : (new : W) (e : Error) → Serializes string_spelling m p.name one new (Err e) → Serializes player_spelling m p old new (Err e)
    name_stops new e h st at =
        let one_at = behind_level st at in
        reached_stopped m all (fields_of p) old st text string_spelling from_scores (fields_of p).1 _ (after_level st) one one_at new e (h (after_level st) one_at.is_at)

    module _ (two : W) (l : StringResolver) (name : Serializes string_spelling m p.name one two (Ok l)) where
      abbrev after_name : State → State
      after_name st = state_after string_spelling p.name (after_level st)

      behind_name : (st : State) → IsAt m.pos m.known old st → Reached m all (fields_of p) old st from_scores (fields_of p).1.1 (λ r. (k, (l, r))) (after_name st) two
      behind_name st at =
          let one_at = behind_level st at in
          let by = name (after_level st) one_at.is_at in
          reached_next m all (fields_of p) old st text string_spelling from_scores (fields_of p).1 _ (after_level st) one one_at two l by.0 by.1.0 by.1.1 by.1.2

      pub name_leaves : HasState m.pos m.known old → HasState m.pos m.known two
      name_leaves has = record { state = after_name has.state; is_at = (behind_name has.state has.is_at).is_at }

      pub name_is_quiet : HasState m.pos m.known old → m.failures two ≡ m.failures old
      name_is_quiet has = (behind_name has.state has.is_at).wrote.is_quiet

      pub scores_stop : (new : W) (e : Error) → Serializes scores_spelling m p.scores two new (Err e) → Serializes player_spelling m p old new (Err e)
      scores_stop new e h st at =
          let two_at = behind_name st at in
          reached_stopped m all (fields_of p) old st scores_shape scores_spelling no_fields (fields_of p).1.1 _ (after_name st) two two_at new e (h (after_name st) two_at.is_at)

      pub player_serialized : (new : W) (n : Option VecResolver) → Serializes scores_spelling m p.scores two new (Ok n) → Serializes player_spelling m p old new (Ok (k, l, n))
      player_serialized new n scores st at =
          let two_at = behind_name st at in
          let by = scores (after_name st) two_at.is_at in
          let three = reached_next m all (fields_of p) old st scores_shape scores_spelling no_fields (fields_of p).1.1 _ (after_name st) two two_at new n by.0 by.1.0 by.1.1 by.1.2 in
          let done = reached_all m all (fields_of p) old st tt _ _ new three in
          (done.0, (ap joined done.1.0, done.1.1, done.1.2))
