use Rattle.cabinet_tests.proofs.laws.asked_for.Goals as goal

pub returns-in-Ok : goal.returns-in-Ok
returns-in-Ok c = c.archive_answers_its_pairs.ensures _ _ _ c.in-Ok.ensures.asked
