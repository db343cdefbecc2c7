use Rattle.std.proofs.Common.{◌∙◌, ◌+◌, ◌≤◌, length, refl, ap, sym, subst, arith}
use Rattle.archive_shape_layout.specs.Shape.{size_of}
use Rattle.archive_forms_values.specs.Loans.{IsOwn}
use Rattle.archive_forms_values.proofs.Lent.{own_from}
use Rattle.archive_hash_maps.specs.Walks.{GoesOn, IsWritten}
use Rattle.archive_hash_maps.proofs.Passed.{item_visited}
use Rattle.archive_hash_maps.proofs.walking.raw_cursor.RawIterSeal.visit_next.Goals as goal

pub visit_own-requires-clause-within : goal.visit_own-requires-clause-within
visit_own-requires-clause-within g c = omega (arith, c.in-Some.ensures.there, ap length c.in-Some.ensures.bytes)

pub visit_own-requires-clause-callable : goal.visit_own-requires-clause-callable
visit_own-requires-clause-callable g c item lent =
    let r = c.requires.has in
    let s = c.in-Some.ensures.steps r.0 r.1 r.2 r.3 in
    c.requires.callable r.0 c.in-Some.at s.0 item (subst (GoesOn r.0 c.args.self.now.walk) s.1 r.2) r.3 (subst (λ b. IsOwn g.T.Portable.SIZE b c.in-Some.at item.now) c.in-Some.ensures.bytes lent)

pub returns-in_default-clause-visits : goal.returns-in_default-clause-visits
returns-in_default-clause-visits g c m ps h written =
    let s = c.in_default.ensures.steps m ps h written in
    (s.0, (refl, c.in_default.ensures.bytes), (s.1, subst (IsWritten m) (sym c.in_default.ensures.bytes) written))

pub returns-clause-visits : goal.returns-clause-visits
returns-clause-visits g c m ps h written =
    let s = c.in-Some.ensures.steps m ps h written in
    let bytes = c.args.self.now.bytes.now in
    let size = g.T.Portable.SIZE in
    let small : size ≤ size_of g.T.Portable.shape = omega (arith, g.met.T.Portable.sized) in
    let leaves = own_from c.in-Some.ensures.bytes refl c.visit_own.ensures in (
      c.in-Some.at,
      s.0,
      s.1,
      leaves,
      (s.2, item_visited m bytes _ size c.args.self.now.walk ps s.0 c.in-Some.at h s.1 small c.in-Some.ensures.there leaves written),
    )
