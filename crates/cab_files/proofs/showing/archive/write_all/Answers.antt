use Rattle.std.proofs.Common.{refl, arith}
use Rattle.cab_files.proofs.Showings.{unfailing}
use Rattle.cab_files.proofs.showing.archive.write_all.Goals as goal

pub flush-requires : goal.flush-requires
flush-requires g c =
    let quiet = unfailing _ _ _ _ _ c.in_ok-write_view.field-0 c.in-Ok.field-0 refl c.in-Ok.is c.in_ok-write_view.ensures.written in
    omega (arith, quiet, c.requires)
