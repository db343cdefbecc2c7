use Rattle.cabinet_archives.proofs.ListedRegions as regions
use Rattle.cabinet_archives.proofs.mapping.laws.map_lists_regions.Goals as goal

pub returns : goal.returns
returns c = regions.map_lists_regions
