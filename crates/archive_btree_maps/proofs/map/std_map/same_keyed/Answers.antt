use Rattle.archive_btree_maps.specs.StdMaps.{IsSamePair, IsPairSame}
use Rattle.archive_btree_maps.proofs.Same.{Compares, decided, called_same, called_other, one_other}
use Rattle.archive_btree_maps.proofs.map.std_map.same_keyed.Goals as goal

pub same_entries-requires : goal.same_entries-requires
same_entries-requires g c =
    record {
      there = c.requires;
      callable = λ k d below i p less lent told. let held = (c.requires k d below).1 in g.met.V.ArchivedKey.held_is_key _ _ held.value held.held;
    }

pub returns : goal.returns
returns g c =
    decided (IsPairSame {K = g.row.K.Denot} g.K.ArchivedKey.key_of g.K.ArchivedKey.order (Compares g.V.ArchivedKey.key_of g.V.ArchivedKey.order))
    (IsSamePair g.K.ArchivedKey.key_of g.K.ArchivedKey.order g.V.ArchivedKey.key_of g.V.ArchivedKey.order)
    (λ e pair h. (h.0, called_same g.V.ArchivedKey.key_of g.V.ArchivedKey.order g.met.V.ArchivedKey.one_key e.1 pair.1 h.1))
    (λ e pair h. one_other h (called_other g.V.ArchivedKey.key_of g.V.ArchivedKey.order g.met.V.ArchivedKey.one_key e.1 pair.1))
    c.same_entries.result c.args.these c.args.others.now.entries c.same_entries.ensures
