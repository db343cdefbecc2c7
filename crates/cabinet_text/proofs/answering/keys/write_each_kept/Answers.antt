use Rattle.std.proofs.lemmas.List.{take_all}
use Rattle.std.proofs.lemmas.Result.{err_from_is_err_and}
use Rattle.cabinet_text.proofs.Pieces.{key_piece, keys_pieces}
use Rattle.cabinet_text_nodes.proofs.Pieces.{failed_at}
use Rattle.cabinet_text.proofs.answering.keys.write_each_kept.Goals as goal

pub returns-in_err-write_key : goal.returns-in_err-write_key
returns-in_err-write_key g c =
    let p = err_from_is_err_and c.from_residual.result c.from_residual.ensures.1 in
    let failed = rw c.as_str.ensures.value at c.in_err-write_key.ensures in
    rw (p.1, p.2) (failed_at key_piece c.args.pairs.now c.loop-key.key-index c.loop-key-item.result (keys_pieces c.args.pairs.now) c.loop-key-test.true c.loop-key-item.is c.loop-key.invariant failed)

pub returns : goal.returns
returns g c =
    rw (← keys_pieces c.args.pairs.now, ← take_all c.loop-key.key-index c.args.pairs.now c.loop-key-test.false) c.loop-key.invariant
