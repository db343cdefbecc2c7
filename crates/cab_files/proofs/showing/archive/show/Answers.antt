use Rattle.cab_files.proofs.Showings.{ends_show}
use Rattle.cab_files.proofs.showing.archive.show.Goals as goal

pub returns : goal.returns
returns g c = ends_show _ _ _ _ _ c.print_view.ensures
