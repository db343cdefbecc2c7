-- The answers are the stated ones: by computation.
use Rattle.std.proofs.Common.{refl}
use Rattle.std.specs.Fmt.{digits}
use Rattle.cabinet_text_grammar.specs.Answers.{RangeInTheMiddle, RangeBetweenKeys, EmptyRange, ReversedRange, KeysOfTheKinds, HeadsOfTheKinds, MissingNodes, Edits, EditedText, AnswersInWholes}

pub range_in_the_middle : RangeInTheMiddle
unfolding digits
range_in_the_middle = record { is_spelled = refl; is_answered = refl }

pub range_between_keys : RangeBetweenKeys
unfolding digits
range_between_keys = record { is_spelled = refl; is_answered = refl }

pub empty_range : EmptyRange
unfolding digits
empty_range = record { is_spelled = refl; is_answered = refl }

pub reversed_range : ReversedRange
unfolding digits
reversed_range = record { is_spelled = refl; is_answered = refl }

pub keys_of_the_kinds : KeysOfTheKinds
unfolding digits
keys_of_the_kinds = record {
  of_ordered = record { is_spelled = refl; is_answered = refl };
  of_kept = record { is_spelled = refl; is_answered = refl };
  of_hashed = record { is_spelled = refl; is_answered = refl };
  of_list = record { is_spelled = refl; is_answered = refl };
  range_of_kept = record { is_spelled = refl; is_answered = refl };
  range_of_hashed = record { is_spelled = refl; is_answered = refl };
}

pub heads_of_the_kinds : HeadsOfTheKinds
unfolding digits
heads_of_the_kinds = record {
  of_list = record { is_spelled = refl; is_answered = refl };
  of_truth = record { is_spelled = refl; is_answered = refl };
  of_number = record { is_spelled = refl; is_answered = refl };
  of_text = record { is_spelled = refl; is_answered = refl };
  of_shared = record { is_spelled = refl; is_answered = refl };
  of_none = record { is_spelled = refl; is_answered = refl };
  of_some = record { is_spelled = refl; is_answered = refl };
  into_some = record { is_spelled = refl; is_answered = refl };
  of_hashed = record { is_spelled = refl; is_answered = refl };
  of_kept = record { is_spelled = refl; is_answered = refl };
  by_key = record { is_spelled = refl; is_answered = refl };
}

pub missing_nodes : MissingNodes
unfolding digits
missing_nodes = record {
  past_the_end = record { is_spelled = refl; is_answered = refl };
  into_none = record { is_spelled = refl; is_answered = refl };
  key_of_a_list = record { is_spelled = refl; is_answered = refl };
  another_key = record { is_spelled = refl; is_answered = refl };
  inside_a_shared_text = record { is_spelled = refl; is_answered = refl };
  before_wrong = record { is_spelled = refl; is_answered = refl };
  before_refused = record { is_spelled = refl; is_answered = refl };
}

pub edits : Edits
unfolding digits
edits = record {
  of_a_number = record { is_spelled = refl; is_answered = refl };
  of_a_text = record { is_spelled = refl; is_answered = refl };
  into_some = record { is_spelled = refl; is_answered = refl };
  of_a_longer_text = record { is_spelled = refl; is_answered = refl };
  of_another_kind = record { is_spelled = refl; is_answered = refl };
  of_a_shared_text = record { is_spelled = refl; is_answered = refl };
  of_a_map = record { is_spelled = refl; is_answered = refl };
}

pub edited_text : EditedText
unfolding digits
edited_text = refl

pub answers_in_wholes : AnswersInWholes
unfolding digits
answers_in_wholes = record {
  of_a_whole = record { is_spelled = refl; is_answered = refl };
  into_a_whole = record { is_spelled = refl; is_answered = refl };
  edit_in_a_whole = record { is_spelled = refl; is_answered = refl };
  edit_of_a_whole = record { is_spelled = refl; is_answered = refl };
  by_a_key = record { is_spelled = refl; is_answered = refl };
  edit_past_the_end = record { is_spelled = refl; is_answered = refl };
}
