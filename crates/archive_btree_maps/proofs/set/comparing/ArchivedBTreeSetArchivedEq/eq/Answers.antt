use Rattle.std.proofs.Common.{◌∙◌}
use Rattle.archive_btree_maps.proofs.Keyed.{equal_as_maps}
use Rattle.archive_btree_maps.proofs.set.comparing.ArchivedBTreeSetArchivedEq.eq.Goals as goal

pub returns : goal.returns
returns g c v w h i =
    let equal = simp (c.as_map.ensures, c.as_map-2.ensures) at c.eq_map.ensures in
    equal v w h i ∙ equal_as_maps g.K.ArchivedEq.equal v w
