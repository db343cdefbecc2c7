use Rattle.std.proofs.Common.{subst}
use Rattle.cab_files.specs.Editing.{EditsFile}
use Rattle.cab_files.proofs.Sessions.{none_read, edits_file}
use Rattle.cab_files.proofs.editing.session.edit_file.Goals as goal

pub returns : goal.returns
returns g c =
    subst (λ new. EditsFile c.args.archive.now new c.args.path c.first_fault.result) (none_read c.args.read c.is_none.result c.is_none.ensures)
    (edits_file _ _ _ _ _ _ _ c.in-Ok.ensures.edits c.is_due-is_due.ensures c.first_fault.ensures)
