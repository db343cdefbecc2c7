use Rattle.std.proofs.Common.{arith}
use Rattle.archive_btree_tests.proofs.answers.each_is_a_byte.Goals as goal

pub returns : goal.returns
returns c i = omega (arith, c.type_inv.bytes i)
