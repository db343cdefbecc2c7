use Rattle.std.proofs.Common.{rules, [], ◌∷◌}
use Rattle.archive_shape_layout.specs.Shape.Shapes.{no_shapes}
use Rattle.archive_forms_values.specs.Fields.{field}
use Rattle.archive_forms.proofs.Fields.{field_has, first_ends, tuple_has, none_read, field_read, tuple_read}
use Rattle.archive_forms.proofs.deserializing.tuple1.deserialize_tuple1_each.Goals as goal

pub read_first-requires : goal.read_first-requires
read_first-requires g c =
    let bytes = c.args.this.bytes.now in
    let all = tuple_has (field g.A.Portable.shape g.A.Portable.knows ∷ []) _ bytes c.args.this.pos c.first.ensures.value c.requires.there in
    c.requires.takes_first _ _ (first_ends g.A.Portable.shape no_shapes c.args.this.pos _ c.first.ensures.pos) (field_has (field g.A.Portable.shape g.A.Portable.knows) bytes _ _ _ _ c.first.ensures.pos all.each) c.requires.kept

pub returns-in_err-t-clause-value : goal.returns-in_err-t-clause-value
returns-in_err-t-clause-value g c =
    let bytes = c.args.this.bytes.now in
    let all = tuple_has (field g.A.Portable.shape g.A.Portable.knows ∷ []) _ bytes c.args.this.pos c.first.ensures.value c.requires.there in
    let is = (c.requires.reads_first _ _ _ _ (field_has (field g.A.Portable.shape g.A.Portable.knows) bytes _ _ _ _ c.first.ensures.pos all.each) c.requires.kept c.in_err-t.ensures).0 in
    search rules

pub returns-clause-value : goal.returns-clause-value
returns-clause-value g c =
    let bytes = c.args.this.bytes.now in
    let all = tuple_has (field g.A.Portable.shape g.A.Portable.knows ∷ []) _ bytes c.args.this.pos c.first.ensures.value c.requires.there in
    let after_first = c.requires.reads_first _ _ _ _ (field_has (field g.A.Portable.shape g.A.Portable.knows) bytes _ _ _ _ c.first.ensures.pos all.each) c.requires.kept c.in_ok-t.ensures in
    tuple_read (field g.A.Portable.shape g.A.Portable.knows ∷ []) _ bytes c.args.this.pos _ c.first.ensures.value
    (field_read g.A.ReadBack.reads (field g.A.Portable.shape g.A.Portable.knows) bytes _ _ _ _ _ c.first.ensures.pos after_first.0
    none_read)

pub returns-clause-keeps : goal.returns-clause-keeps
returns-clause-keeps g c =
    let bytes = c.args.this.bytes.now in
    let all = tuple_has (field g.A.Portable.shape g.A.Portable.knows ∷ []) _ bytes c.args.this.pos c.first.ensures.value c.requires.there in
    let after_first = c.requires.reads_first _ _ _ _ (field_has (field g.A.Portable.shape g.A.Portable.knows) bytes _ _ _ _ c.first.ensures.pos all.each) c.requires.kept c.in_ok-t.ensures in
    after_first.1
