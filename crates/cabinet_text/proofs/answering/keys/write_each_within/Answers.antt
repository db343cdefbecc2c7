use Rattle.std.proofs.Common.{sym}
use Rattle.std.proofs.lemmas.Result.{err_from_is_err_and}
use Rattle.cabinet_text.proofs.Pieces.{piece_within, within_pieces, one_outside, one_inside, inside_failed}
use Rattle.cabinet_text_nodes.proofs.Pieces.{one_failed, all_written}
use Rattle.cabinet_text.proofs.answering.keys.write_each_within.Goals as goal

pub returns-in_err-write_key : goal.returns-in_err-write_key
returns-in_err-write_key g c =
    let p = err_from_is_err_and c.from_residual.result c.from_residual.ensures.1 in
    let inside = rw c.as_str.ensures.value at (sym c.if-is_within.ensures) in
    let failed = rw c.as_str-then-is_within.ensures.value at c.in_err-write_key.ensures in
    rw (p.1, p.2) (one_failed (piece_within c.args.low.now c.args.high.now) (c.in-Some.key.now, c.in-Some.field-0-1.now) c.next.new.self (within_pieces c.args.low.now c.args.high.now c.args.map.now.entries) c.in-Some.ensures.steps c.loop-key.invariant.2
    (inside_failed c.args.low.now c.args.high.now (c.in-Some.key.now, c.in-Some.field-0-1.now) inside failed))

pub loop-key-preserved : goal.loop-key-preserved
loop-key-preserved g c =
    let outside = rw c.as_str.ensures.value at (sym c.if-is_within.ensures) in
    (tt, tt, one_outside c.args.low.now c.args.high.now (c.in-Some.key.now, c.in-Some.field-0-1.now) c.next.new.self outside c.in-Some.ensures.steps c.loop-key.invariant.2)

pub loop-key-preserved-in-Continue-1 : goal.loop-key-preserved-in-Continue-1
loop-key-preserved-in-Continue-1 g c =
    let inside = rw c.as_str.ensures.value at (sym c.if-is_within.ensures) in
    let written = rw c.as_str-then-is_within.ensures.value at c.in_ok-write_key.ensures in
    (tt, tt, one_inside c.args.low.now c.args.high.now (c.in-Some.key.now, c.in-Some.field-0-1.now) c.next.new.self inside c.in-Some.ensures.steps c.loop-key.invariant.2 written)

pub returns : goal.returns
returns g c = all_written (piece_within c.args.low.now c.args.high.now) (within_pieces c.args.low.now c.args.high.now c.args.map.now.entries) c.in-None.ensures.steps.0 c.loop-key.invariant.2
