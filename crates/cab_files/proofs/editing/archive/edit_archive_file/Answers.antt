use Rattle.cab_files.proofs.Sessions.{ends_edit}
use Rattle.cab_files.proofs.editing.archive.edit_archive_file.Goals as goal

pub returns-in-Ok : goal.returns-in-Ok
returns-in-Ok g c = ends_edit _ _ _ c.edit_file.ensures
