use Rattle.std.proofs.Common.{ℤ, Bool, true, false, ◌&&◌, nat_eq, IsTrue, Vec}
use Rattle.std.specs.Cmp.Lexicographic.{pointwise}
use Rattle.std.specs.Global.{Global}
use Rattle.std.specs.Option.{option_eq}
use Rattle.std.specs.Ordering.{int_eq}
use Rattle.std.specs.String.{string_eq}
use Rattle.archive_example_player.specs.Player.{player_fields}
use Rattle.archive_example_player.proofs.round_trip.alike_players_are_equal.Goals as goal

regrouped : (a b c : Bool) → IsTrue ((a && b) && c) → IsTrue (a && (b && c))
regrouped true b c h = h
regrouped false b c h = h

pub one_is_equal-requires : goal.one_is_equal-requires
one_is_equal-requires c = c.alike_leaves_are_one.ensures.unsigned_8

pub one_is_equal-requires-2 : goal.one_is_equal-requires-2
one_is_equal-requires-2 c = c.alike_leaves_are_one.ensures.signed_32

pub alike_forms_are_equal-requires : goal.alike_forms_are_equal-requires
alike_forms_are_equal-requires c = record { first = c.one_is_equal-2.ensures; second = c.one_is_equal-2.ensures }

pub alike_forms_are_equal-requires-2 : goal.alike_forms_are_equal-requires-2
alike_forms_are_equal-requires-2 c = record { first = c.alike_forms_are_equal.ensures.vectors; second = c.one_is_equal-2.ensures }

pub alike_tuples_are_equal-requires : goal.alike_tuples_are_equal-requires
alike_tuples_are_equal-requires c = record {
  first = c.one_is_equal.ensures;
  second = c.alike_texts_are_equal.ensures.texts;
  third = c.alike_forms_are_equal-2.ensures.options;
  fourth = c.one_is_equal.ensures;
}

pub returns : goal.returns
returns c = λ x y alike.
    let same_scores : Bool = option_eq (λ (v w : Vec ℤ Global). pointwise int_eq v.items w.items) x.scores y.scores in
    regrouped (nat_eq x.level y.level) (string_eq x.name y.name) same_scores (c.alike_tuples_are_equal.ensures.of_three (player_fields x) (player_fields y) alike)
