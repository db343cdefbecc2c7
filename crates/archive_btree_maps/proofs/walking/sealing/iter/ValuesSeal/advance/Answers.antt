use Rattle.std.proofs.Common.{refl}
use Rattle.archive_btree_maps.specs.SearchingNodes.{place_of}
use Rattle.archive_btree_maps.proofs.walking.sealing.iter.ValuesSeal.advance.Goals as goal

pub returns-in-Some-clause-steps : goal.returns-in-Some-clause-steps
returns-in-Some-clause-steps g c most m es h written =
    let s = c.in-Some.ensures.steps most m es h written in
    (place_of c.in-Some.entry, s.0, s.1, refl, s.2)
