use Rattle.std.proofs.lemmas.Result.{err_from_is_err_and}
use Rattle.cabinet_text_reading.proofs.text.take_line.Goals as goal

pub returns-in-Head-clause-taken : goal.returns-in-Head-clause-taken
returns-in-Head-clause-taken c = rw c.in-Head.is c.take_head_line.ensures.taken

pub returns-in-Head-clause-fault : goal.returns-in-Head-clause-fault
returns-in-Head-clause-fault c = rw c.in-Head.is c.take_head_line.ensures.fault

pub returns-in_err-take_key_line-in-Key-clause-fault : goal.returns-in_err-take_key_line-in-Key-clause-fault
returns-in_err-take_key_line-in-Key-clause-fault c at =
    let p = err_from_is_err_and c.from_residual.result c.from_residual.ensures.1 in
    rw (p.1, p.2, c.in-Key.is) c.in_err-take_key_line-in-Key.ensures.fault

pub returns-in_ok-take_key_line-in-Key-clause-taken : goal.returns-in_ok-take_key_line-in-Key-clause-taken
returns-in_ok-take_key_line-in-Key-clause-taken c at = rw c.in-Key.is c.in_ok-take_key_line-in-Key.ensures.taken
