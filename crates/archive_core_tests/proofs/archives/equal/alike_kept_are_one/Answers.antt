use Rattle.archive_core_tests.proofs.archives.equal.alike_kept_are_one.Goals as goal

pub alike_forms_are_one-requires : goal.alike_forms_are_one-requires
alike_forms_are_one-requires c = let units = c.alike_leaves_are_one.ensures.units in record { first = c.alike_leaves_are_one.ensures.chars; second = units; third = units; fourth = units }

pub alike_forms_are_one-requires-2 : goal.alike_forms_are_one-requires-2
alike_forms_are_one-requires-2 c =
    let units = c.alike_leaves_are_one.ensures.units in
    record { first = c.alike_nonzero_numbers_are_one.ensures.unsigned_16; second = c.alike_forms_are_one.ensures.arrays; third = units; fourth = units }

pub alike_forms_are_one-requires-3 : goal.alike_forms_are_one-requires-3
alike_forms_are_one-requires-3 c =
    let units = c.alike_leaves_are_one.ensures.units in
    record { first = c.alike_forms_are_one-2.ensures.of_two; second = c.alike_leaves_are_one.ensures.truths; third = units; fourth = units }

pub returns : goal.returns
returns c = c.alike_forms_are_one-3.ensures.results
