use Rattle.std.proofs.Common.{◌∙◌, sym, subst, arith, take}
use Rattle.archive_shape_layout.specs.Shape.Shapes.{no_shapes}
use Rattle.archive_forms_values.specs.Fields.{field_position}
use Rattle.archive_hash_maps.specs.Walks.{IsKept, items_of}
use Rattle.archive_hash_maps.proofs.Stays.{in_entries}
use Rattle.archive_hash_maps.proofs.Passed.{first_item, keys_kept, value_stands}
use Rattle.archive_hash_maps.proofs.walking.passing.pass_entry.Goals as goal

pub pass_item-requires : goal.pass_item-requires
pass_item-requires g c =
    let r = c.requires in
    (r.0, r.1, r.2, in_entries g.K.Portable.shape g.V.Portable.shape (items_of r.0) r.0.bytes c.args.bytes.now r.3)

pub returns-in_default-clause-steps : goal.returns-in_default-clause-steps
returns-in_default-clause-steps g c m ps goes written =
    c.in_default.ensures.steps m ps goes (in_entries g.K.Portable.shape g.V.Portable.shape (items_of m) m.bytes c.args.bytes.now written)

pub overflow_add-result : goal.overflow_add-result
overflow_add-result g c =
    let r = c.requires in
    let s = c.in-Some.ensures.steps r.0 r.1 r.2 (in_entries g.K.Portable.shape g.V.Portable.shape (items_of r.0) r.0.bytes c.args.bytes.now r.3) in
    let stands = value_stands r.0 c.args.bytes.now c.args.walk.now r.1 s.0 c.in-Some.key c.SIZE.result c.ALIGN.result c.next_multiple.result r.2 s.1 r.3 (omega arith) (c.SIZE.ensures ∙ g.met.K.Portable.sized) (c.ALIGN.ensures ∙ g.met.V.Portable.aligned) c.next_multiple.ensures in
    omega (arith, stands.1)

pub returns-clause-steps : goal.returns-clause-steps
returns-clause-steps g c m ps goes written =
    let k = g.K.Portable.shape in
    let v = g.V.Portable.shape in
    let bytes = c.args.bytes.now in
    let s = c.in-Some.ensures.steps m ps goes (in_entries k v (items_of m) m.bytes bytes written) in
    let stands = value_stands m bytes c.args.walk.now ps s.0 c.in-Some.key c.SIZE.result c.ALIGN.result c.next_multiple.result goes s.1 written (omega arith) (c.SIZE.ensures ∙ g.met.K.Portable.sized) (c.ALIGN.ensures ∙ g.met.V.Portable.aligned) c.next_multiple.ensures in
    let kept = first_item m (λ at. IsKept k g.K.Portable.knows m.bytes (take (field_position k no_shapes v at) bytes) at) c.args.walk.now ps s.0 c.in-Some.key goes s.1 (keys_kept m bytes written) in
    (s.0, s.1, stands.0, subst (λ n. IsKept k g.K.Portable.knows m.bytes (take n bytes) c.in-Some.key) (sym stands.0) kept, s.2)

pub returns-clause-there : goal.returns-clause-there
returns-clause-there g c =
    let r = c.requires in
    let s = returns-clause-steps g c r.0 r.1 r.2 r.3 in
    let stands = value_stands r.0 c.args.bytes.now c.args.walk.now r.1 s.0 c.in-Some.key c.SIZE.result c.ALIGN.result c.next_multiple.result r.2 s.1 r.3 (omega arith) (c.SIZE.ensures ∙ g.met.K.Portable.sized) (c.ALIGN.ensures ∙ g.met.V.Portable.aligned) c.next_multiple.ensures in
    (record { value = s.3.value; held = s.3.is }, omega (arith, stands.1, g.met.V.Portable.sized))
