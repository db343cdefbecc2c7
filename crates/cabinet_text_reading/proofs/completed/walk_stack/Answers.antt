use Rattle.std.proofs.Common.{◌+◌, drop}
use Rattle.std.proofs.lemmas.List.{drop_all}
use Rattle.cabinet_text_reading.proofs.Roots.{frames_from, stack_before_more, stack_before_stopped, stack_before_none}
use Rattle.cabinet_text_reading.proofs.completed.walk_stack.Goals as goal

pub loop-frame-preserved : goal.loop-frame-preserved
loop-frame-preserved c =
    let fs = c.args.stack.now in
    let i = c.loop-frame.frame-index in
    stack_before_more c.args.wholes.now fs c.frame-item.result (drop (i + 1) fs) (drop i fs) c.loop-frame.next c.in_ok-next.next (frames_from fs i c.frame-item.result c.loop-frame-test.true c.frame-item.is) c.loop-frame.invariant c.in_ok-next.ensures

pub returns-in_err-next : goal.returns-in_err-next
returns-in_err-next c =
    let fs = c.args.stack.now in
    let i = c.loop-frame.frame-index in
    rw c.from_residual.ensures (stack_before_stopped c.args.wholes.now fs c.frame-item.result (drop (i + 1) fs) (drop i fs) c.loop-frame.next (frames_from fs i c.frame-item.result c.loop-frame-test.true c.frame-item.is) c.loop-frame.invariant c.in_err-next.ensures)

pub returns : goal.returns
returns c =
    let fs = c.args.stack.now in
    let i = c.loop-frame.frame-index in
    stack_before_none c.args.wholes.now fs (drop i fs) c.loop-frame.next (drop_all i fs c.loop-frame-test.false) c.loop-frame.invariant
