use Rattle.std.proofs.lemmas.Result.{err_from_is_err_and}
use Rattle.cabinet_text_nodes.proofs.Pieces.{keys_appended, keys_head_failed, keys_failed}
use Rattle.cabinet_archives.proofs.asking.keys.write_keys.Goals as goal

pub returns-in_err-write_keys_head-clause-written : goal.returns-in_err-write_keys_head-clause-written
returns-in_err-write_keys_head-clause-written g c =
    let y = c.requires.yields in
    let p = err_from_is_err_and c.from_residual.result c.from_residual.ensures.1 in
    (y.0, y.1, rw (p.1, p.2) (keys_head_failed c.args.count y.0 (c.requires.counted y.0 y.1) c.in_err-write_keys_head.ensures))

pub returns-in_err-write_each-clause-written : goal.returns-in_err-write_each-clause-written
returns-in_err-write_each-clause-written g c =
    let w = c.in_err-write_each.ensures.written in
    let p = err_from_is_err_and c.from_residual-in_err-write_each.result c.from_residual-in_err-write_each.ensures.1 in
    (w.0, w.1, rw (p.1, p.2) (keys_failed c.args.count w.0 (c.requires.counted w.0 w.1) c.in_ok-write_keys_head.ensures w.2))

pub returns-clause-written : goal.returns-clause-written
returns-clause-written g c =
    let w = c.in_ok-write_each.ensures.written in
    (w.0, w.1, keys_appended c.write.new.self c.args.count w.0 c.write.result (c.requires.counted w.0 w.1) c.in_ok-write_keys_head.ensures w.2 c.write.ensures)
