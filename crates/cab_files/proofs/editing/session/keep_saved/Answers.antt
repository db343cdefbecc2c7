use Rattle.std.proofs.Common.{subst, sym}
use Rattle.std.specs.Prelude.{IfOk}
use Rattle.cab_files.specs.Ending.{IsArchive}
use Rattle.cab_files.proofs.editing.session.keep_saved.Goals as goal

pub keep-requires : goal.keep-requires
keep-requires g c =
    let archive = subst (λ r. IfOk r (λ a. IsArchive a.items)) c.in-Ok.is c.requires in
    subst IsArchive (sym c.as_slice.ensures.value) archive
