use denote.MutBor.{as_bor}
use Rattle.std.proofs.Common.{Some, None, refl, subst, arith}
use Rattle.archive_shape_layout.specs.Shape.Shapes.{no_shapes}
use Rattle.archive_forms_values.specs.Fields.{field_position}
use Rattle.archive_forms_values.specs.Loans.{IsLent}
use Rattle.archive_forms_values.proofs.Lent.{lent_there}
use Rattle.archive_forms_values.specs.Parts.{HasValue}
use Rattle.archive_hash_maps.proofs.Before.{value_within, key_before}
use Rattle.archive_hash_maps.proofs.map.map.ArchivedHashMap.get_key_value_seal_with.Goals as goal

pub search_with-requires-clause-callable : goal.search_with-requires-clause-callable
search_with-requires-clause-callable g c at key = c.requires.callable (as_bor c.args.this.bytes) at refl key

pub lend_entry-requires : goal.lend_entry-requires
lend_entry-requires g c =
    let within = value_within g.K.Portable.shape g.V.Portable.shape g.K.Portable.knows g.V.Portable.knows c.args.this.bytes.now c.in-Some.at c.in-Some.ensures.there in
    omega (arith, within, c.value_position-value.ensures, g.met.V.Portable.sized)

pub returns-in-Some-clause-there : goal.returns-in-Some-clause-there
returns-in-Some-clause-there g c =
    let k = g.K.Portable.shape in
    let v = g.V.Portable.shape in
    let bytes = c.args.this.bytes.now in
    let lent = subst (λ p. IsLent g.V.Portable.SIZE bytes c.in-Some.at p c.lend_entry.result.0 c.lend_entry.result.1) c.value_position-value.ensures c.lend_entry.ensures in
    lent_there (HasValue k g.K.Portable.knows) g.V.Portable.SIZE bytes c.in-Some.at (field_position k no_shapes v c.in-Some.at) c.lend_entry.result.0 c.lend_entry.result.1 lent
    (key_before k v g.K.Portable.knows g.V.Portable.knows bytes c.in-Some.at c.in-Some.ensures.there)

pub returns-in-Some-clause-own : goal.returns-in-Some-clause-own
returns-in-Some-clause-own g c = c.lend_entry.ensures.own_value.len

pub returns-in-Some-clause-answers : goal.returns-in-Some-clause-answers
returns-in-Some-clause-answers g c b is =
    let lent = subst (λ p. IsLent g.V.Portable.SIZE c.args.this.bytes.now c.in-Some.at p c.lend_entry.result.0 c.lend_entry.result.1) c.value_position-value.ensures c.lend_entry.ensures in
    (as_bor c.args.this.bytes, Some c.in-Some.at, refl, c.in-Some.ensures.answers b is, (c.in-Some.at, refl, lent))

pub returns-in-None-clause-answers : goal.returns-in-None-clause-answers
returns-in-None-clause-answers g c b is = (as_bor c.args.this.bytes, None, refl, c.in-None.ensures.answers b is, refl)
