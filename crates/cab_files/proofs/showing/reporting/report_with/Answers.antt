use Rattle.cab_files.proofs.showing.reporting.report_with.Goals as goal

pub returns-in-Usage : goal.returns-in-Usage
returns-in-Usage g c = rw c.in-Usage.is c.write.ensures
