use Rattle.cab_files.proofs.Endings.{ends_run}
use Rattle.cab_files.proofs.running.run_archive.Goals as goal

pub returns-in-Ok : goal.returns-in-Ok
returns-in-Ok g c = ends_run _ _ _ _ c.edit_archive.ensures
