use Rattle.std.proofs.Common.{sym, subst}
use Rattle.std.specs.List.{AllZip}
use Rattle.archive_btree_layout.specs.Tree.{items}
use Rattle.archive_btree_maps.specs.Refs.{entry_at}
use Rattle.archive_btree_maps.specs.StdMaps.{IsSamePair}
use Rattle.archive_btree_maps.proofs.Runs.{all_there}
use Rattle.archive_btree_maps.proofs.Same.{all_of_made, all_made}
use Rattle.archive_btree_maps.proofs.map.std_map.eq_btree_map.Goals as goal

pub same_keyed-requires : goal.same_keyed-requires
same_keyed-requires g c =
    all_there g.row.K.Denot g.row.V.Denot g.K.Portable.shape g.V.Portable.shape g.K.Portable.knows g.V.Portable.knows c.args.this.now.bytes g.row.E c.args.this.now.pos c.requires c.iter.result c.iter.ensures

pub returns : goal.returns
returns g c t h = (
  λ y.
      all_of_made (IsSamePair g.K.ArchivedKey.key_of g.K.ArchivedKey.order g.V.ArchivedKey.key_of g.V.ArchivedKey.order) (entry_at c.args.this.now.bytes {K = g.row.K.Denot} {V = g.row.V.Denot}) (items t) c.args.other.now.entries
      (subst (λ es. AllZip (IsSamePair g.K.ArchivedKey.key_of g.K.ArchivedKey.order g.V.ArchivedKey.key_of g.V.ArchivedKey.order) es c.args.other.now.entries) (c.iter.ensures t h) (c.same_keyed.ensures.0 y)),
  λ s.
      c.same_keyed.ensures.1
      (subst (λ es. AllZip (IsSamePair g.K.ArchivedKey.key_of g.K.ArchivedKey.order g.V.ArchivedKey.key_of g.V.ArchivedKey.order) es c.args.other.now.entries) (sym (c.iter.ensures t h))
      (all_made (IsSamePair g.K.ArchivedKey.key_of g.K.ArchivedKey.order g.V.ArchivedKey.key_of g.V.ArchivedKey.order) (entry_at c.args.this.now.bytes {K = g.row.K.Denot} {V = g.row.V.Denot}) (items t) c.args.other.now.entries s)),
)
