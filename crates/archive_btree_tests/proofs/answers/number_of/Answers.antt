use Rattle.archive_forms_laws.specs.Sample.{number_shape, number_spelling}
use Rattle.archive_btree.specs.Answering.{HasEntry}
use Rattle.archive_btree_tests.specs.Answers.{any}
use Rattle.archive_btree_tests.proofs.Told.{number_told, value_found, value_missing}
use Rattle.archive_btree_tests.proofs.answers.number_of.Goals as goal

pub returns-in-Some : goal.returns-in-Some
returns-in-Some c es answers =
    let looked = c.in-Some.ensures.looks_up answers.search_tree answers.map in
    value_found _ (HasEntry 5 number_shape number_shape any any number_spelling number_spelling c.args.map.bytes.now) (λ e. e.1) _ looked.0 c.in-Some.number c.native_of.result looked.2 (answers.found c.args.key looked.0 looked.1)
    (λ p e same h. number_told _ c.in-Some.number same c.native_of.result e.1 c.native_of.ensures h.value_held)

pub returns-in-None : goal.returns-in-None
returns-in-None c es answers =
    let looked = c.in-None.ensures.looks_up answers.search_tree answers.map in
    value_missing _ (HasEntry 5 number_shape number_shape any any number_spelling number_spelling c.args.map.bytes.now) (λ e. e.1) _ looked.0 looked.2 (answers.found c.args.key looked.0 looked.1)
