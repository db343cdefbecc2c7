use Rattle.std.proofs.Common.{◌∙◌, ◌+◌, ◌≤◌, ◌∷◌, List, ℕ, length, take, refl, ap, sym, subst, arith}
use Rattle.archive_shape_layout.specs.Shape.{size_of}
use Rattle.archive_shape_layout.specs.Shape.Shapes.{no_shapes}
use Rattle.archive_forms_values.specs.Loans.{IsLent}
use Rattle.archive_forms_values.proofs.Lent.{lent_there, lent_from}
use Rattle.archive_forms_values.specs.Fields.{field_position}
use Rattle.archive_forms_values.specs.Parts.{HasValue}
use Rattle.archive_hash_maps.specs.Walks.{GoesOn, HasValuesWritten}
use Rattle.archive_hash_maps.proofs.Passed.{value_visited}
use Rattle.archive_hash_maps.proofs.walking.cursors.IterMut.visit_next.Goals as goal

pub visit_entry-requires-clause-within : goal.visit_entry-requires-clause-within
visit_entry-requires-clause-within g c = omega (arith, c.in-Some.ensures.there.1, ap length c.in-Some.ensures.bytes)

pub visit_entry-requires-clause-callable : goal.visit_entry-requires-clause-callable
visit_entry-requires-clause-callable g c key value lent =
    let r = c.requires.has in
    let s = c.in-Some.ensures.steps r.0 r.1 r.2 r.3 in
    let at = c.in-Some.entry.key in
    let place = field_position g.K.Portable.shape no_shapes g.V.Portable.shape at in
    let bytes = c.args.self.now.bytes.now in
    let size = g.V.Portable.SIZE in
    let lent_here = subst (λ b. IsLent size b at c.in-Some.entry.value key value.now) c.in-Some.ensures.bytes lent in
    let there = lent_there (HasValue g.K.Portable.shape g.K.Portable.knows) size bytes at c.in-Some.entry.value key value.now lent_here c.in-Some.ensures.there.0 in
    c.requires.callable r.0 at s.0 (subst (GoesOn r.0 c.args.self.now.walk) s.1 r.2) r.3 key value there (subst (λ p. IsLent size bytes at p key value.now) s.2 lent_here)

pub returns-in_default-clause-visits : goal.returns-in_default-clause-visits
returns-in_default-clause-visits g c m ps h written =
    let s = c.in_default.ensures.steps m ps h written in
    (s.0, (refl, c.in_default.ensures.bytes), (s.1, subst (HasValuesWritten m) (sym c.in_default.ensures.bytes) written))

pub returns-clause-visits : goal.returns-clause-visits
returns-clause-visits g c m ps h written =
    let s = c.in-Some.ensures.steps m ps h written in
    let at = c.in-Some.entry.key in
    let bytes = c.args.self.now.bytes.now in
    let size = g.V.Portable.SIZE in
    let small : size ≤ size_of g.V.Portable.shape = omega (arith, g.met.V.Portable.sized) in
    let leaves = lent_from c.in-Some.ensures.bytes refl c.visit_entry.ensures in (
      at,
      s.0,
      s.1,
      lent_from refl s.2 leaves,
      (s.4, value_visited m bytes _ size c.args.self.now.walk ps s.0 at c.in-Some.entry.value h s.1 s.2 small c.in-Some.ensures.there.1 leaves written),
    )
