use Rattle.std.proofs.Common.{◌≡◌, All, length}
use Rattle.archive_btree_maps.specs.Refs.{IsThere}
use Rattle.archive_btree_maps.specs.StdMaps.{IsPairSame, MayCallValue}
use Rattle.archive_btree_maps.proofs.Same.{Left}
use Rattle.archive_btree_maps.proofs.map.std_map.same_entries.Given as goal

abbrev pub invariant-loop-this : goal.invariant-loop-this
invariant-loop-this g l = record {
  -- the entries and pairs that are left decide
  rest : Left (IsPairSame g.K.ArchivedKey.key_of g.K.ArchivedKey.order (goal.F-post g l.fn.equal)) l.this-iterator.a l.this-iterator.b l.fn.these l.fn.others.entries;
  there : All (IsThere g.K.Portable.shape g.V.Portable.shape g.K.Portable.knows g.V.Portable.knows) l.this-iterator.a;
  callable : All (λ e. MayCallValue (goal.F-pre g l.fn.equal) l.this-iterator.b e.1) l.this-iterator.a;
  as_many : length l.this-iterator.a ≡ length l.this-iterator.b;
}
