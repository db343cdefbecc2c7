use Rattle.std.proofs.Common.{refl, subst, arith}
use Rattle.archive_shape_layout.specs.Shape.Shapes.{no_shapes}
use Rattle.archive_forms_values.specs.Fields.{field_position}
use Rattle.archive_forms_values.specs.Loans.{IsLent}
use Rattle.archive_forms_values.specs.Parts.{HasValue}
use Rattle.archive_forms_values.proofs.Lent.{lent_there, lent_from}
use Rattle.archive_hash_maps.proofs.Before.{value_within, key_before}
use Rattle.archive_index.proofs.Visited.{left_at}
use Rattle.archive_index.proofs.map.visit.visit_found.Goals as goal

pub visit_entry-requires-clause-within : goal.visit_entry-requires-clause-within
visit_entry-requires-clause-within g c =
    let within = value_within g.K.Portable.shape g.V.Portable.shape g.K.Portable.knows g.V.Portable.knows c.args.bytes.now c.entry_at-at.result c.entry_at-at.ensures.there in
    omega (arith, within, c.value_position-value.ensures, g.met.V.Portable.sized)

pub visit_entry-requires-clause-callable : goal.visit_entry-requires-clause-callable
visit_entry-requires-clause-callable g c key value lent =
    let k = g.K.Portable.shape in
    let v = g.V.Portable.shape in
    let bytes = c.args.bytes.now in
    let at = c.entry_at-at.result in
    let here = subst (λ p. IsLent g.V.Portable.SIZE bytes at p key value.now) c.value_position-value.ensures lent in
    let there = lent_there (HasValue k g.K.Portable.knows) g.V.Portable.SIZE bytes at (field_position k no_shapes v at) key value.now here (key_before k v g.K.Portable.knows g.V.Portable.knows bytes at c.entry_at-at.ensures.there) in
    c.requires.callable at c.entry_at-at.ensures.there key value there here

pub returns-in-Some : goal.returns-in-Some
returns-in-Some g c m is =
    let left = left_at g.K.Portable.shape g.V.Portable.shape (c.entry_at-at.ensures.stands m is) (lent_from refl c.value_position-value.ensures c.visit_entry.ensures) in
    (c.in-Some.index, c.in-Some.is, (refl, left))

pub returns-in-None : goal.returns-in-None
returns-in-None g c m is = (c.in-None.is, (refl, refl))
