use Rattle.std.proofs.Common.{arith, List, All, length, ap, sym, subst}
use Rattle.archive_shape_layout.specs.Writing.{WriterMembers}
use Rattle.archive_forms_laws.specs.Serializing.{Serializes}
use Rattle.archive_forms_writing.specs.EntrySteps.{PartsWritten}
use Rattle.archive_forms_writing.proofs.Parts.{parts_written}
use Rattle.archive_hash_probing.specs.Inputs.{input_hash}
use Rattle.archive_hash.specs.Owned.{entries_spelling}
use Rattle.archive_hash.proofs.Whole.{takes_given}
use Rattle.archive_hash.proofs.entries_with.serialize_entries_with_each.Goals as goal

pub serialize_ordered_rest_each-requires-clause-takes : goal.serialize_ordered_rest_each-requires-clause-takes
serialize_ordered_rest_each-requires-clause-takes g c =
    let s : WriterMembers g.row.S.Denot = record { known = g.S.Registry.known; pos = g.S.Positional.pos; OBSERVABLE = g.S.Writer.OBSERVABLE; COUNTS = g.S.Writer.COUNTS; contents = g.S.Writer.contents; failures = g.S.Writer.failures; last_error = g.S.Writer.last_error } in
    let vals = g.A.ArchiveWith.spelling c.args.with.now in
    let P : g.row.K.Denot × g.row.V.Denot → Type 0 = PartsWritten g.F.Fn g.G.Fn (λ q. q.0) (λ q. q.0) g.K.Archive.spelling vals s c.args.key_step c.args.value_step in
    let all : All P c.args.entries.now.entries = parts_written g.F.Fn g.G.Fn (λ q. q.0) (λ q. q.0) g.K.Archive.spelling vals s c.args.key_step c.args.value_step c.args.entries.now.entries c.requires.takes_key c.requires.writes_key c.requires.takes_value c.requires.writes_value in
    let takes : g.row.A.Denot → g.row.K.Denot × g.row.V.Denot → Type 0 = λ a. PartsWritten g.F.Fn g.G.Fn (λ q. q.0) (λ q. q.0) g.K.Archive.spelling (g.A.ArchiveWith.spelling a) s c.args.key_step c.args.value_step in
    takes_given takes c.args.with.now c.iter.result (subst (All P) (sym c.iter.ensures.rest) all)

pub serialize_ordered_rest_each-requires-clause-counted : goal.serialize_ordered_rest_each-requires-clause-counted
serialize_ordered_rest_each-requires-clause-counted g c = let rest = ap length c.iter.ensures.rest in omega (arith, c.len.ensures.len, rest)

pub returns : goal.returns
returns g c =
    let s : WriterMembers g.row.S.Denot = record { known = g.S.Registry.known; pos = g.S.Positional.pos; OBSERVABLE = g.S.Writer.OBSERVABLE; COUNTS = g.S.Writer.COUNTS; contents = g.S.Writer.contents; failures = g.S.Writer.failures; last_error = g.S.Writer.last_error } in
    let w = entries_spelling (λ k. input_hash (g.K.Hash.hash_input k)) g.K.Archived.Portable.shape g.A.Archived.Portable.shape g.K.Archive.spelling (g.A.ArchiveWith.spelling c.args.with.now) in
    let P : List (g.row.K.Denot × g.row.V.Denot) → Type 0 = λ l. Serializes w s l c.args.serializer.now c.serialize_ordered_rest_each.new.serializer c.serialize_ordered_rest_each.result in
    subst P c.iter.ensures.rest c.serialize_ordered_rest_each.ensures
