use Rattle.std.proofs.Common.{arith, List, All, length, ap, sym, subst}
use Rattle.archive_shape_layout.specs.Writing.{WriterMembers}
use Rattle.archive_forms_laws.specs.Serializing.{Serializes}
use Rattle.archive_btree.specs.Owned.{entries_spelling}
use Rattle.archive_btree.proofs.Listed.{takes_entries}
use Rattle.archive_btree.proofs.serialize.serialize_map_each.Goals as goal

pub serialize_rest_each-requires-clause-takes : goal.serialize_rest_each-requires-clause-takes
serialize_rest_each-requires-clause-takes g c =
    takes_entries (g.C.EntryStep.takes c.args.step.now) (record {}) c.iter.result (subst (All (g.C.EntryStep.takes c.args.step.now (record {}))) (sym c.iter.ensures.rest) c.requires.takes)

pub serialize_rest_each-requires-clause-counted : goal.serialize_rest_each-requires-clause-counted
serialize_rest_each-requires-clause-counted g c = let rest = ap length c.iter.ensures.rest in omega (arith, c.len.ensures.len, rest)

pub returns : goal.returns
returns g c =
    let s : WriterMembers g.row.S.Denot = record { known = g.S.Registry.known; pos = g.S.Positional.pos; OBSERVABLE = g.S.Writer.OBSERVABLE; COUNTS = g.S.Writer.COUNTS; contents = g.S.Writer.contents; failures = g.S.Writer.failures; last_error = g.S.Writer.last_error } in
    let w = entries_spelling g.row.E g.K.Archived.Portable.shape g.V.Archived.Portable.shape g.K.Archive.spelling g.V.Archive.spelling in
    let P : List (g.row.K.Denot × g.row.V.Denot) → Type 0 = λ l. Serializes w s l c.args.serializer.now c.serialize_rest_each.new.serializer c.serialize_rest_each.result in
    subst P c.iter.ensures.rest c.serialize_rest_each.ensures
