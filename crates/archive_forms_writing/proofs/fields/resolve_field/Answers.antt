use Rattle.std.proofs.Common.{Err, ◌≡◌, rules, arith, ◌∙◌}
use Rattle.archive_shape_layout.specs.Shape.{size_of}
use Rattle.archive_forms_writing.proofs.Structs.{field_from, field_can, field_wrote, field_refused}
use Rattle.archive_forms_writing.proofs.fields.resolve_field.Goals as goal

pub overflow_add-start : goal.overflow_add-start
overflow_add-start g c =
    let s = g.T.Archived.Portable.shape in
    let from = field_from s c.args.offset c.ALIGN.result c.next_multiple-from.result c.args.pos (c.ALIGN.ensures ∙ g.met.T.Archived.Portable.aligned) c.next_multiple-from.ensures c.requires.stands in
    let room = c.requires.room in omega arith

pub overflow_add-pos : goal.overflow_add-pos
overflow_add-pos g c =
    let s = g.T.Archived.Portable.shape in
    let from = field_from s c.args.offset c.ALIGN.result c.next_multiple-from.result c.args.pos (c.ALIGN.ensures ∙ g.met.T.Archived.Portable.aligned) c.next_multiple-from.ensures c.requires.stands in
    let stands = c.requires.stands in omega arith

pub resolve-requires : goal.resolve-requires
resolve-requires g c =
    let s = g.T.Archived.Portable.shape in
    let from = field_from s c.args.offset c.ALIGN.result c.next_multiple-from.result c.args.pos (c.ALIGN.ensures ∙ g.met.T.Archived.Portable.aligned) c.next_multiple-from.ensures c.requires.stands in
    field_can g.T.Archive.spelling s c.args.value.now c.args.resolver c.args.out.now c.within.result.out.now c.args.start c.args.pos c.args.offset c.next_multiple-from.result c.within.result.start c.within.result.pos from c.within.ensures.bytes c.within.ensures.start c.within.ensures.pos c.requires

pub returns-in_err-resolve : goal.returns-in_err-resolve
returns-in_err-resolve g c =
    let s = g.T.Archived.Portable.shape in
    let from = field_from s c.args.offset c.ALIGN.result c.next_multiple-from.result c.args.pos (c.ALIGN.ensures ∙ g.met.T.Archived.Portable.aligned) c.next_multiple-from.ensures c.requires.stands in
    let passed : c.from_residual.result ≡ Err c.in_err-resolve.field-0.0 = search rules in
    rw passed (field_refused g.T.Archive.spelling s c.args.value.now c.args.resolver c.args.out.now c.within.result.out.now c.args.start c.args.pos c.args.offset c.next_multiple-from.result c.within.result.start c.within.result.pos from c.within.ensures.bytes c.within.ensures.start c.within.ensures.pos c.resolve.new.out.0 _ _ (search rules) c.in_err-resolve.ensures)

pub overflow_add-result : goal.overflow_add-result
overflow_add-result g c =
    let s = g.T.Archived.Portable.shape in
    let from = field_from s c.args.offset c.ALIGN.result c.next_multiple-from.result c.args.pos (c.ALIGN.ensures ∙ g.met.T.Archived.Portable.aligned) c.next_multiple-from.ensures c.requires.stands in
    let stands = c.requires.stands in
    let cut = c.SIZE.ensures ∙ g.met.T.Archived.Portable.sized in
    omega arith

pub returns : goal.returns
returns g c =
    let s = g.T.Archived.Portable.shape in
    let from = field_from s c.args.offset c.ALIGN.result c.next_multiple-from.result c.args.pos (c.ALIGN.ensures ∙ g.met.T.Archived.Portable.aligned) c.next_multiple-from.ensures c.requires.stands in
    let stands = c.requires.stands in
    let cut = c.SIZE.ensures ∙ g.met.T.Archived.Portable.sized in
    let sized : c.SIZE.result ≡ size_of s = omega arith in
    field_wrote g.T.Archive.spelling s c.args.value.now c.args.resolver c.args.out.now c.within.result.out.now c.args.start c.args.pos c.args.offset c.next_multiple-from.result c.within.result.start c.within.result.pos from c.within.ensures.bytes c.within.ensures.start c.within.ensures.pos c.resolve.new.out.0 _ c.SIZE.result sized (search rules) c.in_ok-resolve.ensures
