use Rattle.std.proofs.Common.{◌+◌, rules, arith}
use Rattle.archive_index.proofs.Range.{range_more}
use Rattle.archive_index.proofs.writing.numbers.numbers_below.Goals as goal

pub loop-number-preserved : goal.loop-number-preserved
loop-number-preserved c =
    let more = range_more 0 c.loop-number.number (c.loop-number.number + 1) (omega arith) in
    search (rules, more)
