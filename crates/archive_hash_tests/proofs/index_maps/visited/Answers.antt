use Rattle.archive_hash_tests.proofs.index_maps.visited.Goals as goal

pub visit_full_seal-full-requires-clause-callable : goal.visit_full_seal-full-requires-clause-callable
visit_full_seal-full-requires-clause-callable c at has key value there lent = lent.own_value.len

pub visit_key_value_seal-pair-requires-clause-callable : goal.visit_key_value_seal-pair-requires-clause-callable
visit_key_value_seal-pair-requires-clause-callable c at has key value there lent = lent.own_value.len
