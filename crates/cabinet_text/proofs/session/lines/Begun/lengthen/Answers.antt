use Rattle.std.proofs.Common.{arith}
use Rattle.std.proofs.lemmas.Bool.Decides.{nat_tests}
use Rattle.cabinet_text.proofs.LinesRead as read
use Rattle.cabinet_text.proofs.session.lines.Begun.lengthen.Goals as goal

pub returns-then-bytes-len-clause-fault : goal.returns-then-bytes-len-clause-fault
returns-then-bytes-len-clause-fault c = λ h input left more lines p.
    read.line_too_long input lines _ _ c.args.bytes.now more p h (omega (arith, c.args.self.now.line.ok.0)) (omega arith)

pub returns-in-Err-clause-fault : goal.returns-in-Err-clause-fault
returns-in-Err-clause-fault c = λ h input left more lines p. read.line_left input lines _ _ c.args.bytes.now more p h (grind (arith, nat_tests))
