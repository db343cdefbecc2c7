use Rattle.std.proofs.Common.{Some, None, refl, subst, arith}
use Rattle.archive_shape_layout.specs.Shape.Shapes.{no_shapes}
use Rattle.archive_forms_values.specs.Parts.{HasValue}
use Rattle.archive_forms_values.specs.Fields.{field_position}
use Rattle.archive_forms_values.specs.Loans.{IsLent}
use Rattle.archive_hash_maps.proofs.Before.{value_within, key_before}
use Rattle.archive_forms_values.proofs.Lent.{lent_there}
use Rattle.archive_index.proofs.map.map.ArchivedIndexMap.get_full_seal.Goals as goal

pub value_position-value-requires : goal.value_position-value-requires
value_position-value-requires g c = c.entry_at-at.ensures.there

pub lend_entry-own-requires : goal.lend_entry-own-requires
lend_entry-own-requires g c =
    let within = value_within g.K.Portable.shape g.V.Portable.shape g.K.Portable.knows g.V.Portable.knows c.args.this.bytes.now c.entry_at-at.result c.entry_at-at.ensures.there in
    omega (arith, within, c.value_position-value.ensures, g.met.V.Portable.sized)

pub returns-in-Some-clause-there : goal.returns-in-Some-clause-there
returns-in-Some-clause-there g c =
    let k = g.K.Portable.shape in
    let v = g.V.Portable.shape in
    let bytes = c.args.this.bytes.now in
    let at = c.entry_at-at.result in
    let lent = subst (λ p. IsLent g.V.Portable.SIZE bytes at p c.lend_entry-own.result.0 c.lend_entry-own.result.1) c.value_position-value.ensures c.lend_entry-own.ensures in
    lent_there (HasValue k g.K.Portable.knows) g.V.Portable.SIZE bytes at (field_position k no_shapes v at) c.lend_entry-own.result.0 c.lend_entry-own.result.1 lent
    (key_before k v g.K.Portable.knows g.V.Portable.knows bytes at c.entry_at-at.ensures.there)

pub returns-in-Some-clause-own : goal.returns-in-Some-clause-own
returns-in-Some-clause-own g c = c.lend_entry-own.ensures.own_value.len

pub returns-in-Some-clause-answers : goal.returns-in-Some-clause-answers
returns-in-Some-clause-answers g c m is =
    let k = g.K.Portable.shape in
    let v = g.V.Portable.shape in
    let bytes = c.args.this.bytes.now in
    let at = c.entry_at-at.result in
    let lent = subst (λ p. IsLent g.V.Portable.SIZE bytes at p c.lend_entry-own.result.0 c.lend_entry-own.result.1) c.value_position-value.ensures c.lend_entry-own.ensures in
    let there = subst (λ q. IsLent g.V.Portable.SIZE bytes q (field_position k no_shapes v q) c.lend_entry-own.result.0 c.lend_entry-own.result.1) (c.entry_at-at.ensures.stands m is) lent in
    (Some c.in-Some.index, c.in-Some.ensures.answers m is, (refl, there))

pub returns-in-None-clause-answers : goal.returns-in-None-clause-answers
returns-in-None-clause-answers g c m is = (None, c.in-None.ensures.answers m is, refl)
