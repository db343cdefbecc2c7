use Rattle.std.proofs.Common.{arith}
use Rattle.archive_forms_laws.proofs.Levels.{option_box_sized}
use Rattle.archive_forms_tests.specs.Recursive.{list_shape}
use Rattle.archive_forms_tests.proofs.Named.{list_checked}
use Rattle.archive_forms_tests.proofs.recursive.list.+list.Goals as goal

pub check_option_each-requires-clause-fits :
    goal.check_option_each-requires-clause-fits
check_option_each-requires-clause-fits g t c = omega (arith, option_box_sized list_shape, c.requires.fits)

pub returns-clause-exact : goal.returns-clause-exact
returns-clause-exact g t c = λ names known.
    list_checked names c.args.bytes.now c.args.pos _ _ _ known (c.check_option_each.ensures.exact names known)
