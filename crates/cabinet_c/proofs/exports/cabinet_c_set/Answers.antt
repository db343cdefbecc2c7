use Rattle.cabinet.proofs.CallsLines.{sets_keeps}
use Rattle.cabinet_c.proofs.exports.cabinet_c_set.Goals as goal

pub returns-clause-kept : goal.returns-clause-kept
returns-clause-kept c = sets_keeps _ _ _ _ c.set.ensures c.requires
