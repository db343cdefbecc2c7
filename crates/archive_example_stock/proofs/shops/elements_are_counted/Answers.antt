use Rattle.archive_example_stock.proofs.Elements.{counted}
use Rattle.archive_example_stock.proofs.shops.elements_are_counted.Goals as goal

pub returns : goal.returns
returns g c = counted g.T.Archive.spelling
