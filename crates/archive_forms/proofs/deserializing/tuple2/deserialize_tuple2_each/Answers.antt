use Rattle.std.proofs.Common.{rules, [], ◌∷◌}
use Rattle.archive_shape_layout.specs.Shape.Shapes.{no_shapes, more_shapes}
use Rattle.archive_forms_values.specs.Fields.{field}
use Rattle.archive_forms.proofs.Fields.{field_has, first_ends, field_ends, tuple_has, none_read, field_read, tuple_read}
use Rattle.archive_forms.proofs.deserializing.tuple2.deserialize_tuple2_each.Goals as goal

pub read_first-requires : goal.read_first-requires
read_first-requires g c =
    let bytes = c.args.this.bytes.now in
    let all = tuple_has (field g.A.Portable.shape g.A.Portable.knows ∷ field g.B.Portable.shape g.B.Portable.knows ∷ []) _ bytes c.args.this.pos c.first.ensures.value c.requires.there in
    c.requires.takes_first _ _ (first_ends g.A.Portable.shape (more_shapes g.B.Portable.shape no_shapes) c.args.this.pos _ c.first.ensures.pos) (field_has (field g.A.Portable.shape g.A.Portable.knows) bytes _ _ _ _ c.first.ensures.pos all.each) c.requires.kept

pub returns-in_err-t-clause-value : goal.returns-in_err-t-clause-value
returns-in_err-t-clause-value g c =
    let bytes = c.args.this.bytes.now in
    let all = tuple_has (field g.A.Portable.shape g.A.Portable.knows ∷ field g.B.Portable.shape g.B.Portable.knows ∷ []) _ bytes c.args.this.pos c.first.ensures.value c.requires.there in
    let is = (c.requires.reads_first _ _ _ _ (field_has (field g.A.Portable.shape g.A.Portable.knows) bytes _ _ _ _ c.first.ensures.pos all.each) c.requires.kept c.in_err-t.ensures).0 in
    search rules

pub read_second-requires : goal.read_second-requires
read_second-requires g c =
    let bytes = c.args.this.bytes.now in
    let all = tuple_has (field g.A.Portable.shape g.A.Portable.knows ∷ field g.B.Portable.shape g.B.Portable.knows ∷ []) _ bytes c.args.this.pos c.first.ensures.value c.requires.there in
    let after_first = c.requires.reads_first _ _ _ _ (field_has (field g.A.Portable.shape g.A.Portable.knows) bytes _ _ _ _ c.first.ensures.pos all.each) c.requires.kept c.in_ok-t.ensures in
    c.requires.takes_second _ _ (field_ends g.A.Portable.shape no_shapes g.B.Portable.shape no_shapes c.args.this.pos _ c.second.ensures.pos) (field_has (field g.B.Portable.shape g.B.Portable.knows) bytes _ _ _ _ c.second.ensures.pos all.each.rest) after_first.1

pub returns-in_err-u-clause-value : goal.returns-in_err-u-clause-value
returns-in_err-u-clause-value g c =
    let bytes = c.args.this.bytes.now in
    let all = tuple_has (field g.A.Portable.shape g.A.Portable.knows ∷ field g.B.Portable.shape g.B.Portable.knows ∷ []) _ bytes c.args.this.pos c.first.ensures.value c.requires.there in
    let after_first = c.requires.reads_first _ _ _ _ (field_has (field g.A.Portable.shape g.A.Portable.knows) bytes _ _ _ _ c.first.ensures.pos all.each) c.requires.kept c.in_ok-t.ensures in
    let is = (c.requires.reads_second _ _ _ _ (field_has (field g.B.Portable.shape g.B.Portable.knows) bytes _ _ _ _ c.second.ensures.pos all.each.rest) after_first.1 c.in_err-u.ensures).0 in
    search rules

pub returns-clause-value : goal.returns-clause-value
returns-clause-value g c =
    let bytes = c.args.this.bytes.now in
    let all = tuple_has (field g.A.Portable.shape g.A.Portable.knows ∷ field g.B.Portable.shape g.B.Portable.knows ∷ []) _ bytes c.args.this.pos c.first.ensures.value c.requires.there in
    let after_first = c.requires.reads_first _ _ _ _ (field_has (field g.A.Portable.shape g.A.Portable.knows) bytes _ _ _ _ c.first.ensures.pos all.each) c.requires.kept c.in_ok-t.ensures in
    let after_second = c.requires.reads_second _ _ _ _ (field_has (field g.B.Portable.shape g.B.Portable.knows) bytes _ _ _ _ c.second.ensures.pos all.each.rest) after_first.1 c.in_ok-u.ensures in
    tuple_read (field g.A.Portable.shape g.A.Portable.knows ∷ field g.B.Portable.shape g.B.Portable.knows ∷ []) _ bytes c.args.this.pos _ c.first.ensures.value
    (field_read g.A.ReadBack.reads (field g.A.Portable.shape g.A.Portable.knows) bytes _ _ _ _ _ c.first.ensures.pos after_first.0
    (field_read g.B.ReadBack.reads (field g.B.Portable.shape g.B.Portable.knows) bytes _ _ _ _ _ c.second.ensures.pos after_second.0
    none_read))

pub returns-clause-keeps : goal.returns-clause-keeps
returns-clause-keeps g c =
    let bytes = c.args.this.bytes.now in
    let all = tuple_has (field g.A.Portable.shape g.A.Portable.knows ∷ field g.B.Portable.shape g.B.Portable.knows ∷ []) _ bytes c.args.this.pos c.first.ensures.value c.requires.there in
    let after_first = c.requires.reads_first _ _ _ _ (field_has (field g.A.Portable.shape g.A.Portable.knows) bytes _ _ _ _ c.first.ensures.pos all.each) c.requires.kept c.in_ok-t.ensures in
    let after_second = c.requires.reads_second _ _ _ _ (field_has (field g.B.Portable.shape g.B.Portable.knows) bytes _ _ _ _ c.second.ensures.pos all.each.rest) after_first.1 c.in_ok-u.ensures in
    after_second.1
