use Rattle.std.proofs.Common.{subst}
use Rattle.archive_forms_values.specs.Loans.{IsOwn}
use Rattle.archive_hash_maps.proofs.walking.raw_cursor.RawIterSeal.next.Goals as goal

pub returns-in_default-clause-lends : goal.returns-in_default-clause-lends
returns-in_default-clause-lends g c m ps h written = (c.in_default.ensures.steps m ps h written).0

pub returns-clause-lends : goal.returns-clause-lends
returns-clause-lends g c m ps h written =
    let s = c.in-Some.ensures.steps m ps h written in
    (c.in-Some.at, s.0, s.1, subst (λ b. IsOwn g.T.Portable.SIZE b c.in-Some.at c.lend_own.result) c.in-Some.ensures.bytes c.lend_own.ensures)
