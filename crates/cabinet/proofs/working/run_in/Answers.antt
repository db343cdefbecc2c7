use Rattle.std.proofs.Common.{arith}
use Rattle.cabinet.proofs.WorkedAnswers.{accepted-along}
use Rattle.cabinet.proofs.working.run_in.Goals as goal

-- The bytes that the loan leaves are those that the lines left, which are an archive.
pub returns-clause-kept : goal.returns-clause-kept
returns-clause-kept g c = accepted-along _ _ (grind (arith, c.new-opened.ensures, c.run.ensures)) c.run.new.opened.accepted
