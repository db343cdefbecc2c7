use Rattle.std.proofs.Common.{All, sym, subst}
use Rattle.std.proofs.lemmas.List.Elements.{All-head, All-tail}
use Rattle.archive_forms_values.specs.Parts.{HasValue}
use Rattle.archive_index.proofs.map.debug.ArchivedIndexMapArchivedDebug.fmt.Goals as goal

pub loop-key-init : goal.loop-key-init
loop-key-init g c = subst (All (λ e. HasValue g.K.Portable.shape g.K.Portable.knows e.0.bytes.now e.0.pos × HasValue g.V.Portable.shape g.V.Portable.knows e.1.bytes.now e.1.pos)) (sym c.into_iter-key-iterator.ensures.into_iter_gives) c.iter-key-items.ensures.there

pub fmt-requires : goal.fmt-requires
fmt-requires g c =
    (All-head (λ e. HasValue g.K.Portable.shape g.K.Portable.knows e.0.bytes.now e.0.pos × HasValue g.V.Portable.shape g.V.Portable.knows e.1.bytes.now e.1.pos) (c.in-Some.key, c.in-Some.value) c.next.new.self
    (subst (All (λ e. HasValue g.K.Portable.shape g.K.Portable.knows e.0.bytes.now e.0.pos × HasValue g.V.Portable.shape g.V.Portable.knows e.1.bytes.now e.1.pos)) c.in-Some.ensures.steps c.loop-key.invariant)).0

pub fmt-requires-in-loop-key : goal.fmt-requires-in-loop-key
fmt-requires-in-loop-key g c =
    (All-head (λ e. HasValue g.K.Portable.shape g.K.Portable.knows e.0.bytes.now e.0.pos × HasValue g.V.Portable.shape g.V.Portable.knows e.1.bytes.now e.1.pos) (c.in-Some.key, c.in-Some.value) c.next.new.self
    (subst (All (λ e. HasValue g.K.Portable.shape g.K.Portable.knows e.0.bytes.now e.0.pos × HasValue g.V.Portable.shape g.V.Portable.knows e.1.bytes.now e.1.pos)) c.in-Some.ensures.steps c.loop-key.invariant)).1

pub loop-key-preserved : goal.loop-key-preserved
loop-key-preserved g c =
    All-tail (λ e. HasValue g.K.Portable.shape g.K.Portable.knows e.0.bytes.now e.0.pos × HasValue g.V.Portable.shape g.V.Portable.knows e.1.bytes.now e.1.pos) (c.in-Some.key, c.in-Some.value) c.next.new.self
    (subst (All (λ e. HasValue g.K.Portable.shape g.K.Portable.knows e.0.bytes.now e.0.pos × HasValue g.V.Portable.shape g.V.Portable.knows e.1.bytes.now e.1.pos)) c.in-Some.ensures.steps c.loop-key.invariant)
