use Rattle.archive_hash_tests.proofs.index_maps.are_equal_in_order.Goals as goal

pub returns : goal.returns
returns g c = c.eq.ensures
