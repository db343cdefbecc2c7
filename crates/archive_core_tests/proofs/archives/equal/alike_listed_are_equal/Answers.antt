use Rattle.archive_core_tests.proofs.archives.equal.alike_listed_are_equal.Goals as goal

pub one_is_equal-requires : goal.one_is_equal-requires
one_is_equal-requires c = c.alike_leaves_are_one.ensures.unsigned_32

pub one_is_equal-requires-2 : goal.one_is_equal-requires-2
one_is_equal-requires-2 c = c.alike_leaves_are_one.ensures.units

pub alike_forms_are_equal-requires : goal.alike_forms_are_equal-requires
alike_forms_are_equal-requires c = record { first = c.alike_texts_are_equal.ensures.texts; second = c.one_is_equal-2.ensures }

pub alike_tuples_are_equal-requires : goal.alike_tuples_are_equal-requires
alike_tuples_are_equal-requires c = record {
  first = c.one_is_equal.ensures;
  second = c.alike_forms_are_equal.ensures.vectors;
  third = c.one_is_equal-2.ensures;
  fourth = c.one_is_equal-2.ensures;
}

pub alike_forms_are_equal-requires-2 : goal.alike_forms_are_equal-requires-2
alike_forms_are_equal-requires-2 c = record { first = c.alike_tuples_are_equal.ensures.of_two; second = c.one_is_equal-2.ensures }

pub returns : goal.returns
returns c = c.alike_forms_are_equal-2.ensures.options
