use Rattle.archive_example_stock.proofs.archived.ArchivedStockDeserializeStock.deserialize.Goals as goal

pub returns-clause-value : goal.returns-clause-value
returns-clause-value c v held = c.in_ok-prices.ensures.value v (rw (c.new-fields.ensures.bytes, c.new-fields.ensures.pos) held)
