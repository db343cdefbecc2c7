use Rattle.std.proofs.Common.{All, sym, subst}
use Rattle.std.proofs.lemmas.List.Elements.{All-head, All-tail}
use Rattle.archive_btree_maps.specs.Refs.{IsThere}
use Rattle.archive_btree_maps.proofs.Runs.{all_there}
use Rattle.archive_btree_maps.proofs.map.debug.ArchivedBTreeMapArchivedDebug.fmt.Goals as goal

pub loop-key-init : goal.loop-key-init
loop-key-init g c =
    subst (All (IsThere g.K.Portable.shape g.V.Portable.shape g.K.Portable.knows g.V.Portable.knows)) (sym c.into_iter-key-iterator.ensures.into_iter_gives)
    (all_there g.row.K.Denot g.row.V.Denot g.K.Portable.shape g.V.Portable.shape g.K.Portable.knows g.V.Portable.knows c.args.this.now.bytes g.row.E c.args.this.now.pos c.requires
    c.iter-key-items.result c.iter-key-items.ensures)

pub fmt-requires : goal.fmt-requires
fmt-requires g c =
    (All-head (IsThere g.K.Portable.shape g.V.Portable.shape g.K.Portable.knows g.V.Portable.knows) (c.in-Some.key, c.in-Some.value) c.next.new.self
    (subst (All (IsThere g.K.Portable.shape g.V.Portable.shape g.K.Portable.knows g.V.Portable.knows)) c.in-Some.ensures.steps c.loop-key.invariant)).0

pub fmt-requires-in-loop-key : goal.fmt-requires-in-loop-key
fmt-requires-in-loop-key g c =
    (All-head (IsThere g.K.Portable.shape g.V.Portable.shape g.K.Portable.knows g.V.Portable.knows) (c.in-Some.key, c.in-Some.value) c.next.new.self
    (subst (All (IsThere g.K.Portable.shape g.V.Portable.shape g.K.Portable.knows g.V.Portable.knows)) c.in-Some.ensures.steps c.loop-key.invariant)).1

pub loop-key-preserved : goal.loop-key-preserved
loop-key-preserved g c =
    All-tail (IsThere g.K.Portable.shape g.V.Portable.shape g.K.Portable.knows g.V.Portable.knows) (c.in-Some.key, c.in-Some.value) c.next.new.self
    (subst (All (IsThere g.K.Portable.shape g.V.Portable.shape g.K.Portable.knows g.V.Portable.knows)) c.in-Some.ensures.steps c.loop-key.invariant)
