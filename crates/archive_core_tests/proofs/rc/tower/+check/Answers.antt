use Rattle.archive_core_tests.proofs.Named.{tower_checked}
use Rattle.archive_core_tests.proofs.rc.tower.+check.Goals as goal

pub check_tower-returns-clause-exact : goal.check_tower-returns-clause-exact
check_tower-returns-clause-exact g t c = λ names known.
    tower_checked names c.args.bytes.now c.args.pos _ _ _ known (c.check_vec_each.ensures.exact names known)
