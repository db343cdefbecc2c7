use Rattle.archive_btree_maps.proofs.walking.sealing.iter.ValuesSeal.next.Goals as goal

pub returns-in-Some-clause-lends : goal.returns-in-Some-clause-lends
returns-in-Some-clause-lends g c most m es h written =
    let s = c.in-Some.ensures.lends most m es h written in
    (s.0, s.1, s.2, s.3.own_value)
