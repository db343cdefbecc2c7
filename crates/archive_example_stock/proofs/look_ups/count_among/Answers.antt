use Rattle.archive_hash.specs.Answering.{HasEntry}
use Rattle.archive_hash_maps.specs.Maps.{value_at}
use Rattle.archive_example_stock.specs.Stock.{number_shape, number_spelling, any}
use Rattle.archive_example_stock.proofs.Found.{value_found, value_missing, number_told}
use Rattle.archive_example_stock.proofs.look_ups.count_among.Goals as goal

pub returns-in-Some : goal.returns-in-Some
returns-in-Some c es answers =
    let looked = c.in-Some.ensures.answers answers.buckets answers.map in
    value_found (value_at c.args.counts.bytes number_shape number_shape) (HasEntry number_shape number_shape any any number_spelling number_spelling c.args.counts.bytes.now) (λ e. e.1) _
    looked.answers.position c.in-Some.count c.native_of.result looked.answers.is
    (answers.finds c.args.shelf looked.hash looked.strides looked.answers.position looked.is_hash looked.answers.looks_up)
    (λ at e same h. number_told _ c.in-Some.count same c.native_of.result e.1 c.native_of.ensures h.value_held)

pub returns-in-None : goal.returns-in-None
returns-in-None c es answers =
    let looked = c.in-None.ensures.answers answers.buckets answers.map in
    value_missing (value_at c.args.counts.bytes number_shape number_shape) (HasEntry number_shape number_shape any any number_spelling number_spelling c.args.counts.bytes.now) (λ e. e.1) _
    looked.answers.position looked.answers.is
    (answers.finds c.args.shelf looked.hash looked.strides looked.answers.position looked.is_hash looked.answers.looks_up)
