use Rattle.std.proofs.Common.{ap, length, arith}
use Rattle.archive_hash_tests.proofs.lending.write_over.Goals as goal

-- the number that is there ends within the bytes
pub write-requires : goal.write-requires
write-requires c =
    let sealed = c.in-Some.ensures in
    let number = sealed.3 c.requires.value c.requires.held in
    let within = number.held.own_within in
    omega (arith, within, sealed.2, ap length sealed.1)
