use Rattle.std.proofs.Common.{◌+◌, ◌∙◌, ap}
use Rattle.archive_shape_layout.specs.Bytes.{align_up}
use Rattle.archive_example_stock.proofs.Read.{labels_there, fields_there}
use Rattle.archive_example_stock.proofs.archived.ArchivedStock.labels.Goals as goal

pub returns-clause-pos : goal.returns-clause-pos
unfolding align_up
returns-clause-pos c = c.fourth.ensures.pos ∙ ap (λ n. n + 32) c.new.ensures.pos

pub returns-clause-there : goal.returns-clause-there
unfolding align_up
returns-clause-there c = rw (c.fourth.ensures.bytes, c.new.ensures.bytes, c.fourth.ensures.pos, c.new.ensures.pos) (labels_there c.args.this.bytes.now c.args.this.pos c.requires)

pub returns-clause-value : goal.returns-clause-value
returns-clause-value c = fields_there c.args.this.bytes.now c.args.this.pos
