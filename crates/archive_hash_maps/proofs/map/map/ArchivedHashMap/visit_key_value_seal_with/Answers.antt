use denote.MutBor.{as_bor}
use Rattle.std.proofs.Common.{Some, None, refl, subst, arith}
use Rattle.archive_shape_layout.specs.Shape.Shapes.{no_shapes}
use Rattle.archive_forms_values.specs.Loans.{IsLent}
use Rattle.archive_forms_values.proofs.Lent.{lent_there, lent_from}
use Rattle.archive_forms_values.specs.Parts.{HasValue}
use Rattle.archive_forms_values.specs.Fields.{field_position}
use Rattle.archive_hash_maps.proofs.Before.{value_within, key_before}
use Rattle.archive_hash_maps.proofs.map.map.ArchivedHashMap.visit_key_value_seal_with.Goals as goal

pub search_with-requires-clause-callable : goal.search_with-requires-clause-callable
search_with-requires-clause-callable g c at key = c.requires.callable (as_bor c.args.this.bytes) at refl key

pub visit_entry-requires-clause-within : goal.visit_entry-requires-clause-within
visit_entry-requires-clause-within g c =
    let within = value_within g.K.Portable.shape g.V.Portable.shape g.K.Portable.knows g.V.Portable.knows c.args.this.bytes.now c.in-Some.at c.in-Some.ensures.there in
    omega (arith, within, c.value_position-value.ensures, g.met.V.Portable.sized)

pub visit_entry-requires-clause-callable : goal.visit_entry-requires-clause-callable
visit_entry-requires-clause-callable g c key value lent =
    let k = g.K.Portable.shape in
    let v = g.V.Portable.shape in
    let bytes = c.args.this.bytes.now in
    let at = c.in-Some.at in
    let here = subst (λ p. IsLent g.V.Portable.SIZE bytes at p key value.now) c.value_position-value.ensures lent in
    let there = lent_there (HasValue k g.K.Portable.knows) g.V.Portable.SIZE bytes at (field_position k no_shapes v at) key value.now here (key_before k v g.K.Portable.knows g.V.Portable.knows bytes at c.in-Some.ensures.there) in
    c.requires.visitable at c.in-Some.ensures.there key value there here

pub returns : goal.returns
returns g c b is =
    (as_bor c.args.this.bytes, Some c.in-Some.at, refl, c.in-Some.ensures.answers b is, (c.in-Some.at, refl, lent_from refl c.value_position-value.ensures c.visit_entry.ensures))

pub returns-in_default : goal.returns-in_default
returns-in_default g c b is = (as_bor c.args.this.bytes, None, refl, c.in_default.ensures.answers b is, (refl, (refl, refl)))
