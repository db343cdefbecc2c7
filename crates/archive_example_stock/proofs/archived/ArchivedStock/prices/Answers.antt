use Rattle.archive_example_stock.proofs.Read.{prices_there, fields_there}
use Rattle.archive_example_stock.proofs.archived.ArchivedStock.prices.Goals as goal

pub returns-clause-there : goal.returns-clause-there
returns-clause-there c = rw (c.first.ensures.bytes, c.new.ensures.bytes, c.first.ensures.pos, c.new.ensures.pos) (prices_there c.args.this.bytes.now c.args.this.pos c.requires)

pub returns-clause-value : goal.returns-clause-value
returns-clause-value c = fields_there c.args.this.bytes.now c.args.this.pos
