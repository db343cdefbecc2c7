use Rattle.archive_core_tests.proofs.Named.{loop_checked}
use Rattle.archive_core_tests.proofs.rc.cyclic.+cyclic.Goals as goal

pub returns-clause-exact : goal.returns-clause-exact
returns-clause-exact g t c = λ names known.
    loop_checked g.L.Flavor.ALLOW_CYCLES names c.args.bytes.now c.args.pos _ _ _ known (c.check_rc_each.ensures.exact names known)
