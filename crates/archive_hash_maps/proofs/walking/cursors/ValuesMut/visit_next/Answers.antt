use Rattle.std.proofs.Common.{◌∙◌, ◌+◌, ◌≤◌, length, refl, ap, sym, subst, arith}
use Rattle.archive_shape_layout.specs.Shape.{size_of}
use Rattle.archive_forms_values.specs.Loans.{IsOwn}
use Rattle.archive_forms_values.proofs.Lent.{own_from}
use Rattle.archive_hash_maps.specs.Walks.{GoesOn, HasValuesWritten}
use Rattle.archive_hash_maps.proofs.Passed.{value_visited}
use Rattle.archive_hash_maps.proofs.walking.cursors.ValuesMut.visit_next.Goals as goal

pub visit_own-requires-clause-within : goal.visit_own-requires-clause-within
visit_own-requires-clause-within g c = omega (arith, c.in-Some.ensures.there, ap length c.in-Some.ensures.bytes)

pub visit_own-requires-clause-callable : goal.visit_own-requires-clause-callable
visit_own-requires-clause-callable g c value lent =
    let r = c.requires.has in
    let s = c.in-Some.ensures.steps r.0 r.1 r.2 r.3 in
    let size = g.V.Portable.SIZE in
    let here = subst (λ b. IsOwn size b c.in-Some.at value.now) c.in-Some.ensures.bytes lent in
    c.requires.callable r.0 s.0 s.1 value (subst (GoesOn r.0 c.args.self.now.entries.walk) s.2 r.2) r.3 (subst (λ p. IsOwn size c.args.self.now.entries.bytes.now p value.now) s.3 here)

pub returns-in_default-clause-visits : goal.returns-in_default-clause-visits
returns-in_default-clause-visits g c m ps h written =
    let s = c.in_default.ensures.steps m ps h written in
    (s.0, (refl, c.in_default.ensures.bytes), (s.1, subst (HasValuesWritten m) (sym c.in_default.ensures.bytes) written))

pub returns-clause-visits : goal.returns-clause-visits
returns-clause-visits g c m ps h written =
    let s = c.in-Some.ensures.steps m ps h written in
    let bytes = c.args.self.now.entries.bytes.now in
    let size = g.V.Portable.SIZE in
    let small : size ≤ size_of g.V.Portable.shape = omega (arith, g.met.V.Portable.sized) in
    let leaves = own_from c.in-Some.ensures.bytes refl c.visit_own.ensures in (
      s.0,
      s.1,
      s.2,
      own_from refl s.3 leaves,
      (s.4, value_visited m bytes _ size c.args.self.now.entries.walk ps s.1 s.0 c.in-Some.at h s.2 s.3 small c.in-Some.ensures.there leaves written),
    )
