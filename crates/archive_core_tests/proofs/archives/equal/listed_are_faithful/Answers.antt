use Rattle.archive_core_tests.proofs.archives.equal.listed_are_faithful.Goals as goal

pub forms_are_faithful-requires : goal.forms_are_faithful-requires
forms_are_faithful-requires c = record { first = c.texts_are_faithful.ensures.texts; second = c.leaves_are_faithful.ensures.units }

pub tuples_are_faithful-requires : goal.tuples_are_faithful-requires
tuples_are_faithful-requires c = record {
  first = c.leaves_are_faithful.ensures.numbers;
  second = c.forms_are_faithful.ensures.vectors;
  third = c.leaves_are_faithful.ensures.units;
  fourth = c.leaves_are_faithful.ensures.units;
}

pub forms_are_faithful-requires-2 : goal.forms_are_faithful-requires-2
forms_are_faithful-requires-2 c = record { first = c.tuples_are_faithful.ensures.of_two; second = c.leaves_are_faithful.ensures.units }

pub returns : goal.returns
returns c = c.forms_are_faithful-2.ensures.options
