-- The number five is accepted: 24 bytes.
use Rattle.std.proofs.Common.{ℕ, zero, suc, true, List, [], ◌∷◌, refl, subst, arith, pos}
use Rattle.std.specs.List.{Contains}
use Rattle.archive_shape_layout.specs.Bytes.{align_up, word_at, target_from}
use Rattle.archive_shape_layout.specs.Content.{choose, made, fields, elements, text_length, following, number_value, text_content, shared_content, table_parts, shape_content, pointee_content}
use Rattle.std.specs.Int.{w64}
use Rattle.archive_shape_layout.specs.Value.{Value}
use Rattle.archive_shape_layout.specs.Value.Value.{integer, chosen}
use Rattle.archive_shape_layout.specs.Value.Values.{no_values, more_values}
use Rattle.archive_shape_layout.specs.Shape.Shape.{number, choice}
use Rattle.archive_shape_layout.specs.Shape.Pointee.{sized}
use Rattle.archive_shape_layout.specs.Content.{Part}
use Rattle.archive_shape_layout.specs.Content.Part.{at, behind}
use Rattle.cabinet_documents.specs.Node.{node_shape, payloads}
use Rattle.archive_shape_layout.specs.Holds.{Ascends, root_position}
use Rattle.archive_shape_layout.specs.Holds.Holds.{holds_plain, holds_claimed}
use Rattle.archive_shape_layout.specs.Holds.HoldAll.{holds_none, holds_more}
use Rattle.cabinet_documents.specs.Denotes.Denotes.{denotes_number}
use Rattle.cabinet_documents.specs.Walk.{Stop}
use Rattle.cabinet_documents.specs.Walk.Walks.{walks}
use Rattle.cabinet_documents.specs.Walk.WalkAll.{walk_none, walk_more}
use Rattle.cabinet_documents.specs.Audit.{IsSound}
use Rattle.cabinet_documents.specs.Laws.{FiveIsAccepted, bytes_five}

abbrev five : Value
five = chosen 1 (more_values (integer (pos 5)) no_values)

abbrev stop : Part → Value → Stop
stop p v = record { depth = 0; part = p; value = v }

abbrev stop_one : Stop
stop_one = stop (behind 0 (sized node_shape) 1) five

abbrev stop_two : Stop
stop_two = stop (at 0 node_shape) five

abbrev stop_three : Stop
stop_three = stop (at 0 (choice payloads)) five

abbrev stop_four : Stop
stop_four = stop (at 8 (number w64 true)) (integer (pos 5))

sound_of_none : (bytes : List ℕ) (s : Stop) → Contains [] s → IsSound bytes s
sound_of_none bytes s c = let a = c.1 in absurd (omega (arith, a))

sound_of_more : (bytes : List ℕ) (x : Stop) (xs : List Stop) → IsSound bytes x → ((s : Stop) → Contains xs s → IsSound bytes s) → (s : Stop) → Contains (x ∷ xs) s → IsSound bytes s
sound_of_more bytes x xs h k s (zero, a, e) = subst (IsSound bytes) e h
sound_of_more bytes x xs h k s (suc n, a, e) = k s (n, omega (arith, a), e)

pub five_is_accepted : FiveIsAccepted
unfolding made fields elements choose following number_value text_length text_content shared_content table_parts shape_content pointee_content word_at target_from Ascends align_up root_position
five_is_accepted = record {
  value = five;
  regions = record { start = 0; size = 24; align = 8; level = 0 } ∷ [];
  visits = [];
  walk = stop_one ∷ (stop_two ∷ (stop_three ∷ (stop_four ∷ [])));
  root = record { holds = holds_claimed refl tt (holds_more (holds_plain refl tt (holds_more (holds_plain refl tt (holds_more (holds_plain refl tt (holds_none refl refl refl) refl) (holds_none refl refl refl) refl refl) refl) (holds_none refl refl refl) refl refl) refl) (holds_none refl refl refl) refl refl) refl refl; ascends = (record { after = omega arith; aligned = refl; inside = omega arith }, tt) };
  denotes = denotes_number {n = pos 5} refl refl;
  document = (record { sfits = omega arith }, omega arith, omega arith);
  walked = walks (walk_more (walks (walk_more (walks (walk_more (walks (walk_none refl refl) refl refl) (walk_none refl refl) refl refl) refl refl) (walk_none refl refl) refl refl) refl refl) (walk_none refl refl) refl refl) refl refl;
  sound = sound_of_more bytes_five stop_one (stop_two ∷ (stop_three ∷ (stop_four ∷ []))) (λ e. omega arith, tt)
      (sound_of_more bytes_five stop_two (stop_three ∷ (stop_four ∷ [])) (λ e. omega arith, tt)
      (sound_of_more bytes_five stop_three (stop_four ∷ []) (λ e. omega arith, tt)
      (sound_of_more bytes_five stop_four [] (λ e. omega arith, tt) (sound_of_none bytes_five))));
}
