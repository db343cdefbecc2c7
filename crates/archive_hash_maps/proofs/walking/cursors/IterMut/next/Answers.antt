use Rattle.std.proofs.Common.{subst}
use Rattle.archive_forms_values.specs.Loans.{IsLent}
use Rattle.archive_hash_maps.proofs.walking.cursors.IterMut.next.Goals as goal

pub returns-in_default-clause-lends : goal.returns-in_default-clause-lends
returns-in_default-clause-lends g c m ps h written = (c.in_default.ensures.steps m ps h written).0

pub returns-clause-lends : goal.returns-clause-lends
returns-clause-lends g c m ps h written =
    let s = c.in-Some.ensures.steps m ps h written in
    let key = c.in-Some.entry.key in
    let own = subst (λ b. IsLent g.V.Portable.SIZE b key c.in-Some.entry.value c.lend_entry.result.0 c.lend_entry.result.1) c.in-Some.ensures.bytes c.lend_entry.ensures in
    (key, s.0, s.1, subst (λ p. IsLent g.V.Portable.SIZE c.args.self.now.bytes.now key p c.lend_entry.result.0 c.lend_entry.result.1) s.2 own)
