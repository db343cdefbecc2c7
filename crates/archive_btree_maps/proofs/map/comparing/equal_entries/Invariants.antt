use Rattle.std.proofs.Common.{◌≡◌, length}
use Rattle.archive_btree_maps.proofs.Compared.{AreLeft}
use Rattle.archive_btree_maps.proofs.map.comparing.equal_entries.Given as goal

abbrev pub invariant-loop-this : goal.invariant-loop-this
invariant-loop-this g l = record {
  -- the entries that are left decide
  rest : AreLeft g.K.Portable.shape g.V.Portable.shape g.K.Portable.knows g.V.Portable.knows g.K.ArchivedEq.equal g.V.ArchivedEq.equal l.fn.these l.fn.others l.this-iterator.a l.this-iterator.b;
  as_many : length l.this-iterator.a ≡ length l.this-iterator.b;
}
