use Rattle.std.proofs.Common.{refl}
use Rattle.cabinet_archives.proofs.mapping.tally.Tally.count_row.Goals as goal

pub returns : goal.returns
returns c = rw (c.raise.ensures, c.saturating_add-self.ensures) refl
