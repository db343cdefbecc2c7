use Rattle.std.proofs.Common.{[], ◌∷◌, ◌<◌, length, append_assoc, arith}
use Rattle.std.proofs.lemmas.Bool.Decides.{nat_tests}
use Rattle.cabinet_text.proofs.LinesRead as read
use Rattle.cabinet_text.proofs.session.lines.Begun.end_line.Goals as goal

pub returns-then-rest-len-clause-fault : goal.returns-then-rest-len-clause-fault
returns-then-rest-len-clause-fault c = λ h input left more lines q.
    let p = read.same_left input lines _ _ _ _ (append_assoc c.args.rest.now (10 ∷ []) more) q in
    read.line_too_long input lines _ _ c.args.rest.now _ p h (omega (arith, c.args.self.now.line.ok.0)) (omega arith)

pub returns-in-Err-clause-fault : goal.returns-in-Err-clause-fault
returns-in-Err-clause-fault c = λ h input left more lines q.
    let p = read.same_left input lines _ _ _ _ (append_assoc c.args.rest.now (10 ∷ []) more) q in
    let some : 0 < length c.args.self.now.line.items = grind (arith, nat_tests, c.args.self.now.line.ok.0) in
    read.line_left input lines _ _ c.args.rest.now _ p h (omega (arith, some))
