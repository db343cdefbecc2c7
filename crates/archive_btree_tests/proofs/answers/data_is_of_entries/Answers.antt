use Rattle.archive_btree_tests.proofs.answers.data_is_of_entries.Goals as goal

pub returns-clause-maps : goal.returns-clause-maps
returns-clause-maps g c map st = c.spelled_as_entries.ensures.maps.piece map st

pub returns-clause-sets : goal.returns-clause-sets
returns-clause-sets g c set st = c.spelled_as_entries.ensures.sets.piece set st
