use Rattle.std.proofs.Common.{refl}
use Rattle.archive_shape_layout.specs.Bytes.{align_up}
use Rattle.archive_example_stock.proofs.archived.ArchivedStockPortable.SIZE.Goals as goal

pub returns : goal.returns
unfolding align_up
returns c = refl
