use Rattle.std.proofs.Common.{All, sym, subst}
use Rattle.std.proofs.lemmas.List.Elements.{All-head, All-tail}
use Rattle.archive_forms_values.specs.Parts.{HasValue}
use Rattle.archive_index.proofs.set.debug.fmt_keys.Goals as goal

pub loop-key-init : goal.loop-key-init
loop-key-init g c =
    subst (All (λ r. HasValue g.K.Portable.shape g.K.Portable.knows r.bytes.now r.pos)) (sym c.into_iter-key-iterator.ensures.into_iter_gives) c.requires

pub fmt-requires : goal.fmt-requires
fmt-requires g c =
    All-head (λ r. HasValue g.K.Portable.shape g.K.Portable.knows r.bytes.now r.pos) c.in-Some.key _
    (subst (All (λ r. HasValue g.K.Portable.shape g.K.Portable.knows r.bytes.now r.pos)) c.in-Some.ensures.steps c.loop-key.invariant)

pub loop-key-preserved : goal.loop-key-preserved
loop-key-preserved g c =
    All-tail (λ r. HasValue g.K.Portable.shape g.K.Portable.knows r.bytes.now r.pos) c.in-Some.key _
    (subst (All (λ r. HasValue g.K.Portable.shape g.K.Portable.knows r.bytes.now r.pos)) c.in-Some.ensures.steps c.loop-key.invariant)
