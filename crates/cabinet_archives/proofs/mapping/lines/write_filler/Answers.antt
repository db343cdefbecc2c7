use Rattle.cabinet_archives.proofs.SpelledPaths.{spaces_taken}
use Rattle.cabinet_archives.proofs.mapping.lines.write_filler.Goals as goal

pub returns : goal.returns
returns g c = rw (← spaces_taken c.saturating_sub.result c.args.width c.args.len c.saturating_sub.ensures c.requires.low) c.write.ensures
