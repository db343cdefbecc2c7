use Rattle.cabinet_archives.proofs.ListedRegions.{map_lists_regions}
use Rattle.cab_files.proofs.mapping.write_checked_map.Goals as goal

-- the list of an archive's regions
pub returns-in-Ok : goal.returns-in-Ok
returns-in-Ok g c =
    let a = c.in-Ok.ensures.accepted in
    let r = map_lists_regions c.args.archive.now a.1.value a.1.regions a.1.visits a.1.root in
    (a, (r.listed, r.maps, c.write_map.ensures r.listed r.maps))
