use Rattle.cabinet.proofs.fault.fault_line.Goals as goal

pub returns-in-Usage : goal.returns-in-Usage
returns-in-Usage g c = rw c.in-Usage.is c.write.ensures

pub returns-in-CannotRead : goal.returns-in-CannotRead
returns-in-CannotRead g c = rw c.in-CannotRead.is (simp c.as_bytes.ensures.value at c.write_three_pieces.ensures)

pub returns-in-CannotWrite : goal.returns-in-CannotWrite
returns-in-CannotWrite g c = rw c.in-CannotWrite.is (simp c.as_bytes-in-CannotWrite.ensures.value at c.write_three_pieces-in-CannotWrite.ensures)

pub returns-in-Text : goal.returns-in-Text
returns-in-Text g c =
    rw c.in-Text.is
    (simp (c.as_slice.ensures, c.as_bytes-in-Text.ensures, c.unsigned-line.ensures, c.as_slice-in-Text.ensures, c.name_of_cause-cause.ensures, c.as_slice-in-Text-2.ensures) at c.write_all_pieces.ensures)
