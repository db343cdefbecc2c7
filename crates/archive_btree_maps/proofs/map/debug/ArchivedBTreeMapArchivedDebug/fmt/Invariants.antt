use Rattle.std.proofs.Common.{All}
use Rattle.archive_btree_maps.specs.Refs.{IsThere}
use Rattle.archive_btree_maps.proofs.map.debug.ArchivedBTreeMapArchivedDebug.fmt.Given as goal

-- values lie at the entries that are left
abbrev pub invariant-loop-key : goal.invariant-loop-key
invariant-loop-key g l = All (IsThere g.K.Portable.shape g.V.Portable.shape g.K.Portable.knows g.V.Portable.knows) l.key-iterator
