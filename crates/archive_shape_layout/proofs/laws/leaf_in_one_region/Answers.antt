use Rattle.archive_shape_layout.proofs.LeafRegions.{leaf_in_one_region_law}
use Rattle.archive_shape_layout.proofs.laws.leaf_in_one_region.Goals as goal

pub returns : goal.returns
returns c = leaf_in_one_region_law
