use Rattle.archive_shape_canonical.proofs.Orders.{tables_of_one_map_law}
use Rattle.archive_shape_canonical.proofs.laws.tables_of_one_map.Goals as goal

pub returns : goal.returns
returns c = tables_of_one_map_law
