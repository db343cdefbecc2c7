use Rattle.std.proofs.Common.{◌≤◌, length, refl, ap, sym, subst, arith}
use Rattle.archive_shape_layout.specs.Shape.{size_of}
use Rattle.archive_forms_values.specs.Loans.{IsLent}
use Rattle.archive_forms_values.proofs.Lent.{lent_there, lent_from}
use Rattle.archive_btree_maps.specs.SearchingNodes.{place_of}
use Rattle.archive_forms_values.specs.Parts.{HasValue}
use Rattle.archive_btree_maps.specs.Cursors.{HasEntries}
use Rattle.archive_btree_maps.specs.Walks.{IsWritten}
use Rattle.archive_btree_maps.proofs.Sealed.{visited_written}
use Rattle.archive_btree_maps.proofs.walking.sealing.iter.IterSeal.visit_next.Goals as goal

pub visit_entry-requires-clause-within : goal.visit_entry-requires-clause-within
visit_entry-requires-clause-within g c = omega (arith, c.in-Some.ensures.there.1, ap length c.in-Some.ensures.bytes)

pub visit_entry-requires-clause-callable : goal.visit_entry-requires-clause-callable
visit_entry-requires-clause-callable g c key value lent =
    let r = c.requires.has in
    let s = c.in-Some.ensures.steps r.0 r.1 r.2 r.3 r.4 in
    let e = place_of c.in-Some.entry in
    let size = g.V.Portable.SIZE in
    let here = subst (λ b. IsLent size b e.key e.value key value.now) c.in-Some.ensures.bytes lent in
    let there = lent_there (HasValue g.K.Portable.shape g.K.Portable.knows) size c.args.self.now.bytes.now e.key e.value key value.now here c.in-Some.ensures.there.0 in
    c.requires.callable r.0 r.1 e s.0 (subst (HasEntries r.1 c.args.self.now) s.1 r.3) r.4 key value there here

pub returns-in_default-clause-visits : goal.returns-in_default-clause-visits
returns-in_default-clause-visits g c most m es h written =
    let s = c.in_default.ensures.steps most m es h written in
    (s.0, (refl, c.in_default.ensures.bytes), (s.1, subst (IsWritten m) (sym c.in_default.ensures.bytes) written))

pub returns-clause-visits : goal.returns-clause-visits
returns-clause-visits g c most m es h written =
    let s = c.in-Some.ensures.steps most m es h written in
    let e = place_of c.in-Some.entry in
    let size = g.V.Portable.SIZE in
    let small : size ≤ size_of g.V.Portable.shape = omega (arith, g.met.V.Portable.sized) in
    let leaves = lent_from c.in-Some.ensures.bytes refl c.visit_entry.ensures in
    (e, s.0, s.1, leaves, (record { goes = s.2.goes; count = s.2.count }, visited_written m e es s.0 s.1 h.goes.among c.args.self.now.bytes.now _ size small c.in-Some.ensures.there.1 leaves written))
