use Rattle.std.proofs.Common.{sym, subst}
use Rattle.archive_btree_maps.specs.Walks.{IsWritten}
use Rattle.archive_btree_tests.proofs.cursors.lent_between.Goals as goal

pub loop-step-init : goal.loop-step-init
loop-step-init g c =
    let r = c.requires in
    record { begun = r.0; left = r.1; has = r.2; written = r.3 }

pub advance-requires : goal.advance-requires
advance-requires g c = let i = c.loop-step.invariant in (g.row.E, i.begun, i.left, i.has, i.written)

pub loop-step-preserved : goal.loop-step-preserved
loop-step-preserved g c =
    let i = c.loop-step.invariant in
    let s = c.in-Some.ensures.steps g.row.E i.begun i.left i.has i.written in
    record { begun = i.begun; left = s.0; has = s.2; written = subst (IsWritten i.begun) (sym c.in-Some.ensures.bytes) i.written }

pub next-requires : goal.next-requires
next-requires g c = let i = c.loop-step.invariant in (g.row.E, i.begun, i.left, i.has, i.written)
