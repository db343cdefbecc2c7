use Rattle.std.proofs.Common.{sym, []}
use Rattle.std.specs.List.{filter}
use Rattle.std.proofs.lemmas.Result.{err_from_is_err_and}
use Rattle.cabinet_text_grammar.specs.Answering.{keys_in, lies_within}
use Rattle.cabinet_text_nodes.specs.View.{node_pairs}
use Rattle.cabinet_text_nodes.proofs.Pieces.{keys_appended, keys_head_failed, keys_failed}
use Rattle.cabinet_text.proofs.answering.keys.write_keys_within.Goals as goal

pub returns-in_err-write_keys_head : goal.returns-in_err-write_keys_head
returns-in_err-write_keys_head g c =
    let p = err_from_is_err_and c.from_residual.result c.from_residual.ensures.1 in
    rw (p.1, p.2) (keys_head_failed c.count_within.result (filter (lies_within c.args.low.now c.args.high.now) (keys_in (node_pairs [] c.args.map.now.entries))) (sym c.count_within.ensures) c.in_err-write_keys_head.ensures)

pub returns-in_err-write_each_within : goal.returns-in_err-write_each_within
returns-in_err-write_each_within g c =
    let p = err_from_is_err_and c.from_residual-in_err-write_each_within.result c.from_residual-in_err-write_each_within.ensures.1 in
    rw (p.1, p.2) (keys_failed c.count_within.result (filter (lies_within c.args.low.now c.args.high.now) (keys_in (node_pairs [] c.args.map.now.entries))) (sym c.count_within.ensures) c.in_ok-write_keys_head.ensures c.in_err-write_each_within.ensures)

pub returns : goal.returns
returns g c = keys_appended c.write.new.self c.count_within.result (filter (lies_within c.args.low.now c.args.high.now) (keys_in (node_pairs [] c.args.map.now.entries))) c.write.result (sym c.count_within.ensures) c.in_ok-write_keys_head.ensures c.in_ok-write_each_within.ensures c.write.ensures
