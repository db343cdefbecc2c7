use Rattle.cabinet_text_reading.proofs.line.Lines.next_line.Goals as goal

pub returns-in-Err-Some-clause-fault : goal.returns-in-Err-Some-clause-fault
returns-in-Err-Some-clause-fault c due more =
    let end = rw c.in-Err-Some.field-0-is at c.in-Err-Some.ensures.end in
    end due
