use Rattle.std.proofs.Common.{sym, subst}
use Rattle.archive_hash.specs.Edited.{HasOneValue}
use Rattle.archive_hash.proofs.EditedOnce.{leaf_once, text_once}
use Rattle.archive_hash.proofs.laws.held_once.Goals as goal

pub returns-clause-leaves : goal.returns-clause-leaves
returns-clause-leaves g c leaf = leaf_once g.T.Portable.shape g.T.Portable.knows leaf

pub returns-clause-texts : goal.returns-clause-texts
returns-clause-texts g c is = subst (λ s. HasOneValue s g.T.Portable.knows) (sym is) (text_once g.T.Portable.knows)
