use Rattle.archive_shape.proofs.Leaves.{unit_checked}
use Rattle.archive_shape.proofs.checking.check.without_bytes.UnitCheckBytes.check.Goals as goal

pub returns-clause-exact : goal.returns-clause-exact
returns-clause-exact g c = λ names known. unit_checked names c.args._bytes.now c.args._pos (g.C.ArchiveContext.kept c.args._context.now)
