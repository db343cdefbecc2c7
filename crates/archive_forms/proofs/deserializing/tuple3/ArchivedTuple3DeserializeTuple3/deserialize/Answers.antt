use Rattle.std.proofs.Common.{[], ◌∷◌}
use Rattle.archive_forms_values.specs.Fields.{field}
use Rattle.archive_forms.proofs.Fields.{field_has, tuple_has, none_read, field_read, tuple_read}
use Rattle.archive_forms.proofs.deserializing.tuple3.ArchivedTuple3DeserializeTuple3.deserialize.Goals as goal

pub deserialize_element-requires-clause-there : goal.deserialize_element-requires-clause-there
deserialize_element-requires-clause-there g c =
    let bytes = c.args.this.now.bytes.now in
    let all = tuple_has (field g.A.Portable.shape g.A.Portable.knows ∷ field g.B.Portable.shape g.B.Portable.knows ∷ field g.C.Portable.shape g.C.Portable.knows ∷ []) _ bytes c.args.this.now.pos c.first-at.ensures.value c.requires.there in
    field_has (field g.A.Portable.shape g.A.Portable.knows) bytes _ _ _ _ c.first-at.ensures.pos all.each

pub deserialize_element-requires-2-clause-there : goal.deserialize_element-requires-2-clause-there
deserialize_element-requires-2-clause-there g c =
    let bytes = c.args.this.now.bytes.now in
    let all = tuple_has (field g.A.Portable.shape g.A.Portable.knows ∷ field g.B.Portable.shape g.B.Portable.knows ∷ field g.C.Portable.shape g.C.Portable.knows ∷ []) _ bytes c.args.this.now.pos c.first-at.ensures.value c.requires.there in
    field_has (field g.B.Portable.shape g.B.Portable.knows) bytes _ _ _ _ c.second-at.ensures.pos all.each.rest

pub deserialize_element-requires-3-clause-there : goal.deserialize_element-requires-3-clause-there
deserialize_element-requires-3-clause-there g c =
    let bytes = c.args.this.now.bytes.now in
    let all = tuple_has (field g.A.Portable.shape g.A.Portable.knows ∷ field g.B.Portable.shape g.B.Portable.knows ∷ field g.C.Portable.shape g.C.Portable.knows ∷ []) _ bytes c.args.this.now.pos c.first-at.ensures.value c.requires.there in
    field_has (field g.C.Portable.shape g.C.Portable.knows) bytes _ _ _ _ c.third-at.ensures.pos all.each.rest.rest

pub returns-clause-value : goal.returns-clause-value
returns-clause-value g c =
    let bytes = c.args.this.now.bytes.now in
    tuple_read (field g.A.Portable.shape g.A.Portable.knows ∷ field g.B.Portable.shape g.B.Portable.knows ∷ field g.C.Portable.shape g.C.Portable.knows ∷ []) _ bytes c.args.this.now.pos _ c.first-at.ensures.value
    (field_read g.A.ReadBack.reads (field g.A.Portable.shape g.A.Portable.knows) bytes _ _ _ _ _ c.first-at.ensures.pos c.in_ok-t.ensures.value
    (field_read g.B.ReadBack.reads (field g.B.Portable.shape g.B.Portable.knows) bytes _ _ _ _ _ c.second-at.ensures.pos c.in_ok-u.ensures.value
    (field_read g.C.ReadBack.reads (field g.C.Portable.shape g.C.Portable.knows) bytes _ _ _ _ _ c.third-at.ensures.pos c.in_ok-v.ensures.value
    none_read)))
