use Rattle.archive_hash_tests.proofs.index_lending.visited.Goals as goal

pub visit_full_seal_with-full-requires-clause-visitable : goal.visit_full_seal_with-full-requires-clause-visitable
visit_full_seal_with-full-requires-clause-visitable c at has key value there lent = lent.own_value.len

pub visit_key_value_seal_with-pair-requires-clause-visitable : goal.visit_key_value_seal_with-pair-requires-clause-visitable
visit_key_value_seal_with-pair-requires-clause-visitable c at has key value there lent = lent.own_value.len
