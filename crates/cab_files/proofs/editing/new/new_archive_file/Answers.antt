use Rattle.std.proofs.Common.{sym, subst}
use Rattle.cabinet_documents.specs.Image.{Image}
use Rattle.cab_files.specs.Editing.{root_tree}
use Rattle.cab_files.proofs.Sessions.{ends_new}
use Rattle.cab_files.proofs.editing.new.new_archive_file.Goals as goal

pub returns-in-Ok : goal.returns-in-Ok
returns-in-Ok g c = ends_new _ _ _ _ (subst (Image (root_tree c.args.root)) (sym c.as_slice.ensures.value) c.in-Ok.ensures.image) c.edit_file.ensures
