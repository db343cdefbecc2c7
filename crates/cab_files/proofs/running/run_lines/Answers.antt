use Rattle.std.proofs.Common.{arith, true}
use Rattle.cabinet.proofs.Sessions.{none_edited}
use Rattle.cab_files.proofs.Endings.{flushed_edits, one_failure, unedited}
use Rattle.cab_files.proofs.running.run_lines.Goals as goal

pub returns-in_default-clause-edited : goal.returns-in_default-clause-edited
returns-in_default-clause-edited g c = none_edited c.args.archive.now

pub returns-clause-edited : goal.returns-clause-edited
returns-clause-edited g c = flushed_edits _ _ _ _ _ c.run_in-outcome.ensures.edits c.flushed.ensures

pub returns-clause-unedited : goal.returns-clause-unedited
returns-clause-unedited g c = unedited _ _ _ c.requires (flushed_edits _ _ _ _ _ c.run_in-outcome.ensures.edits c.flushed.ensures)

pub flush-requires : goal.flush-requires
flush-requires g c =
    let few = one_failure true c.run_in-outcome.result _ _ c.run_in-outcome.ensures.writer_fails in
    omega (arith, few, c.new-answers.ensures.failures)
