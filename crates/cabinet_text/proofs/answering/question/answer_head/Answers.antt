use Rattle.std.proofs.lemmas.Result.{err_from_is_err_and}
use Rattle.cabinet_text.proofs.answering.question.answer_head.Goals as goal

pub returns-in_err-write_head-clause-written : goal.returns-in_err-write_head-clause-written
returns-in_err-write_head-clause-written g c table =
    let p = err_from_is_err_and c.from_residual.result c.from_residual.ensures.1 in
    rw (p.1, p.2, ← c.head.ensures table) c.in_err-write_head.ensures

pub returns-clause-written : goal.returns-clause-written
returns-clause-written g c table = rw (← c.head.ensures table) c.in_ok-write_head.ensures
