use Rattle.std.proofs.Common.{◌∙◌, length, ap, arith, sym, subst}
use Rattle.archive_btree_maps.specs.Walks.{IsWritten}
use Rattle.archive_btree_maps.proofs.walking.sealing.iter.IterSeal.advance.Goals as goal

pub pass_entry-passed-requires : goal.pass_entry-passed-requires
pass_entry-passed-requires g c =
    let r = c.requires in
    (r.0, r.1, r.2, r.3.goes, subst (λ b. IsWritten r.1 b.now) (sym c.take-bytes.ensures.value) r.4)

pub overflow_sub-self : goal.overflow_sub-self
overflow_sub-self g c =
    let r = c.requires in
    let s = c.in-Some.ensures.steps r.0 r.1 r.2 r.3.goes (subst (λ b. IsWritten r.1 b.now) (sym c.take-bytes.ensures.value) r.4) in
    omega (arith, r.3.count, ap length s.1)

pub returns-clause-steps : goal.returns-clause-steps
returns-clause-steps g c most m es h written =
    let s = c.in-Some.ensures.steps most m es h.goes (subst (λ b. IsWritten m b.now) (sym c.take-bytes.ensures.value) written) in
    (s.0, s.1, record { goes = s.2; count = omega (arith, h.count, ap length s.1) })

pub returns-in_default-clause-steps : goal.returns-in_default-clause-steps
returns-in_default-clause-steps g c most m es h written =
    let s = c.in_default.ensures.steps most m es h.goes (subst (λ b. IsWritten m b.now) (sym c.take-bytes.ensures.value) written) in
    (s.0, record { goes = s.1; count = h.count ∙ ap length s.0 })
