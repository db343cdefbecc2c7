use Rattle.std.proofs.Common.{arith}
use Rattle.archive_example_stock.proofs.Read.{counts_there, whole_within}
use Rattle.archive_example_stock.proofs.archived.ArchivedStock.counts_seal.Goals as goal

pub overflow_add-pos : goal.overflow_add-pos
overflow_add-pos c =
    let within = whole_within c.args.this.bytes.now c.args.this.pos c.requires in
    omega (arith, within)

pub returns-clause-there : goal.returns-clause-there
returns-clause-there c = rw (c.new.ensures.bytes, c.new.ensures.pos) (counts_there c.args.this.bytes.now c.args.this.pos c.requires)
