use Rattle.std.proofs.Common.{arith}
use Rattle.archive_hash_maps.proofs.NumberChecks.{number_accepted, number_refused}
use Rattle.archive_hash_maps.proofs.checking.places.check_number.Goals as goal

pub returns-then-number-limit : goal.returns-then-number-limit
returns-then-number-limit c names kept = number_refused names c.args.bytes.now c.args.pos c.args.limit kept (omega (arith, c.read_word-number.ensures, c.if-number-limit.true))

pub returns : goal.returns
returns c names kept = number_accepted names c.args.bytes.now c.args.pos c.args.limit kept (omega (arith, c.read_word-number.ensures, c.if-number-limit.false))
