use Rattle.std.proofs.lemmas.Result.{err_from_is_err_and}
use Rattle.cabinet_text.proofs.Pieces.{key_piece, keys_pieces}
use Rattle.cabinet_text_nodes.proofs.Pieces.{one_more, one_failed, all_written}
use Rattle.cabinet_text.proofs.answering.keys.write_each.Goals as goal

pub returns-in_err-write_key : goal.returns-in_err-write_key
returns-in_err-write_key g c =
    let p = err_from_is_err_and c.from_residual.result c.from_residual.ensures.1 in
    let failed = rw c.as_str.ensures.value at c.in_err-write_key.ensures in
    rw (p.1, p.2) (one_failed key_piece (c.in-Some.key.now, _) c.next.new.self (keys_pieces c.args.map.now.entries) c.in-Some.ensures.steps c.loop-key.invariant.2 failed)

pub loop-key-preserved : goal.loop-key-preserved
loop-key-preserved g c =
    let written = rw c.as_str.ensures.value at c.in_ok-write_key.ensures in
    (tt, tt, one_more key_piece (c.in-Some.key.now, _) c.next.new.self c.in-Some.ensures.steps c.loop-key.invariant.2 written)

pub returns : goal.returns
returns g c = all_written key_piece (keys_pieces c.args.map.now.entries) c.in-None.ensures.steps.0 c.loop-key.invariant.2
