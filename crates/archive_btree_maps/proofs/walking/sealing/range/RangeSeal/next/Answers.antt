use Rattle.std.proofs.Common.{subst}
use Rattle.archive_btree_maps.specs.SearchingNodes.{place_of}
use Rattle.archive_forms_values.specs.Loans.{IsLent}
use Rattle.archive_btree_maps.proofs.walking.sealing.range.RangeSeal.next.Goals as goal

pub returns-in_default-clause-lends : goal.returns-in_default-clause-lends
returns-in_default-clause-lends g c most m es h written = (c.in_default.ensures.steps most m es h written).0

pub returns-clause-lends : goal.returns-clause-lends
returns-clause-lends g c most m es h written =
    let s = c.in-Some.ensures.steps most m es h written in
    let e = place_of c.in-Some.entry in
    (e, s.0, s.1, subst (λ b. IsLent g.V.Portable.SIZE b e.key e.value c.lend_entry.result.0 c.lend_entry.result.1) c.in-Some.ensures.bytes c.lend_entry.ensures)
