use Rattle.std.proofs.Common.{length, []}
use Rattle.std.proofs.lemmas.Result.{err_from_is_err_and}
use Rattle.cabinet_text_grammar.specs.Answering.{keys_in}
use Rattle.cabinet_text_nodes.specs.View.{node_pairs}
use Rattle.cabinet_text.proofs.Pieces.{keys_counted}
use Rattle.cabinet_text_nodes.proofs.Pieces.{keys_appended, keys_head_failed, keys_failed}
use Rattle.cabinet_text.proofs.answering.keys.write_kept_keys.Goals as goal

pub returns-in_err-write_keys_head : goal.returns-in_err-write_keys_head
returns-in_err-write_keys_head g c =
    let p = err_from_is_err_and c.from_residual.result c.from_residual.ensures.1 in
    rw (p.1, p.2) (keys_head_failed (length c.args.pairs.now) (keys_in (node_pairs [] c.args.pairs.now)) (keys_counted c.args.pairs.now) c.in_err-write_keys_head.ensures)

pub returns-in_err-write_each_kept : goal.returns-in_err-write_each_kept
returns-in_err-write_each_kept g c =
    let p = err_from_is_err_and c.from_residual-in_err-write_each_kept.result c.from_residual-in_err-write_each_kept.ensures.1 in
    rw (p.1, p.2) (keys_failed (length c.args.pairs.now) (keys_in (node_pairs [] c.args.pairs.now)) (keys_counted c.args.pairs.now) c.in_ok-write_keys_head.ensures c.in_err-write_each_kept.ensures)

pub returns : goal.returns
returns g c = keys_appended c.write.new.self (length c.args.pairs.now) (keys_in (node_pairs [] c.args.pairs.now)) c.write.result (keys_counted c.args.pairs.now) c.in_ok-write_keys_head.ensures c.in_ok-write_each_kept.ensures c.write.ensures
