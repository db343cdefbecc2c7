use Rattle.std.proofs.Common.{◌+◌, ◌≤◌, length, refl, ap, sym, subst, arith}
use Rattle.archive_shape_layout.specs.Shape.{size_of}
use Rattle.archive_forms_values.specs.Loans.{IsOwn}
use Rattle.archive_forms_values.proofs.Lent.{own_from}
use Rattle.archive_btree_maps.specs.Cursors.{HasEntries}
use Rattle.archive_btree_maps.specs.Walks.{IsWritten}
use Rattle.archive_btree_maps.proofs.Sealed.{visited_written}
use Rattle.archive_btree_maps.proofs.walking.sealing.iter.ValuesSeal.visit_next.Goals as goal

pub visit_own-requires-clause-within : goal.visit_own-requires-clause-within
visit_own-requires-clause-within g c = omega (arith, c.in-Some.ensures.there, ap length c.in-Some.ensures.bytes)

pub visit_own-requires-clause-callable : goal.visit_own-requires-clause-callable
visit_own-requires-clause-callable g c value lent =
    let r = c.requires.has in
    let s = c.in-Some.ensures.steps r.0 r.1 r.2 r.3 r.4 in
    let size = g.V.Portable.SIZE in
    let here = subst (λ b. IsOwn size b c.in-Some.at value.now) c.in-Some.ensures.bytes lent in
    c.requires.callable r.0 r.1 s.0 s.1 value (subst (HasEntries r.1 c.args.self.now.entries) s.2 r.3) r.4 (subst (λ p. IsOwn size c.args.self.now.entries.bytes.now p value.now) (sym s.3) here)

pub returns-in_default-clause-visits : goal.returns-in_default-clause-visits
returns-in_default-clause-visits g c most m es h written =
    let s = c.in_default.ensures.steps most m es h written in
    (s.0, (refl, c.in_default.ensures.bytes), (s.1, subst (IsWritten m) (sym c.in_default.ensures.bytes) written))

pub returns-clause-visits : goal.returns-clause-visits
returns-clause-visits g c most m es h written =
    let s = c.in-Some.ensures.steps most m es h written in
    let bytes = c.args.self.now.entries.bytes.now in
    let size = g.V.Portable.SIZE in
    let small : size ≤ size_of g.V.Portable.shape = omega (arith, g.met.V.Portable.sized) in
    let here = own_from c.in-Some.ensures.bytes (sym s.3) c.visit_own.ensures in
    (s.0, s.1, s.2, here, (record { goes = s.4.goes; count = s.4.count }, visited_written m s.0 es s.1 s.2 h.goes.among bytes _ size small (subst (λ p. p + size ≤ length bytes) (sym s.3) c.in-Some.ensures.there) here written))
