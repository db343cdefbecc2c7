use Rattle.std.proofs.Common.{rules, ◌≡◌, ◌∙◌, arith, ap, sym, inl, length, Ok, Err}
use Rattle.std.proofs.lemmas.List.FromFn.{length-range_with_len}
use Rattle.archive_shape_layout.specs.Writing.{WriterMembers}
use Rattle.archive_forms_laws.specs.Spelling.{state_after}
use Rattle.archive_forms_laws.specs.Sample.{number_shape, number_spelling}
use Rattle.archive_hash_writing.specs.Claimed.{written_spelling}
use Rattle.archive_hash_writing.specs.IndexMaps.{numbers}
use Rattle.archive_index.proofs.TableAndEntries.{behind, nothing_written, of_numbers, stopped_at_once, refused_first, stopped_in_table, stopped_in_entries, map_written}
use Rattle.archive_index.proofs.writing.hashed.serialize_hashed_map.Goals as goal

pub returns-then-len-eq0 : goal.returns-then-len-eq0
returns-then-len-eq0 g c =
    let s : WriterMembers g.row.S.Denot = record { known = g.S.Registry.known; pos = g.S.Positional.pos; OBSERVABLE = g.S.Writer.OBSERVABLE; COUNTS = g.S.Writer.COUNTS; contents = g.S.Writer.contents; failures = g.S.Writer.failures; last_error = g.S.Writer.last_error } in
    let w = g.A.ArchiveWith.spelling c.args.with.now in
    let sh = g.A.Archived.Portable.shape in
    let load = c.args.load_factor in
    let hashes = c.args.hashes.now in
    let xs = c.args.entries.now in
    let old = c.args.serializer.now in
    nothing_written load sh w hashes s xs old c.if-len-eq0.true

pub returns-in_err-capacity_for_len : goal.returns-in_err-capacity_for_len
returns-in_err-capacity_for_len g c =
    let failed : c.from_residual.result ≡ Err c.in_err-capacity_for_len.field-0.0 = search rules in
    rw failed
    (λ st at.
    let s : WriterMembers g.row.S.Denot = record { known = g.S.Registry.known; pos = g.S.Positional.pos; OBSERVABLE = g.S.Writer.OBSERVABLE; COUNTS = g.S.Writer.COUNTS; contents = g.S.Writer.contents; failures = g.S.Writer.failures; last_error = g.S.Writer.last_error } in
    let w = g.A.ArchiveWith.spelling c.args.with.now in
    let sh = g.A.Archived.Portable.shape in
    let load = c.args.load_factor in
    let hashes = c.args.hashes.now in
    let xs = c.args.entries.now in
    let old = c.args.serializer.now in
    refused_first load sh w hashes s xs c.if-len-eq0.false st old _ c.requires.load c.in_err-capacity_for_len.ensures)

pub returns-in_err-numbers : goal.returns-in_err-numbers
returns-in_err-numbers g c =
    let failed : c.from_residual-in_err-numbers.result ≡ Err c.in_err-numbers.field-0.0 = search rules in
    rw failed
    (λ st at.
    let s : WriterMembers g.row.S.Denot = record { known = g.S.Registry.known; pos = g.S.Positional.pos; OBSERVABLE = g.S.Writer.OBSERVABLE; COUNTS = g.S.Writer.COUNTS; contents = g.S.Writer.contents; failures = g.S.Writer.failures; last_error = g.S.Writer.last_error } in
    let w = g.A.ArchiveWith.spelling c.args.with.now in
    let sh = g.A.Archived.Portable.shape in
    let load = c.args.load_factor in
    let hashes = c.args.hashes.now in
    let xs = c.args.entries.now in
    let old = c.args.serializer.now in
    stopped_at_once load sh w hashes s xs c.if-len-eq0.false st old _ (inl c.in_err-numbers.ensures))

pub returns-in_err-table : goal.returns-in_err-table
returns-in_err-table g c =
    let failed : c.from_residual-in_err-table.result ≡ Err c.in_err-table.field-0.0 = search rules in
    rw failed
    (λ st at.
    let s : WriterMembers g.row.S.Denot = record { known = g.S.Registry.known; pos = g.S.Positional.pos; OBSERVABLE = g.S.Writer.OBSERVABLE; COUNTS = g.S.Writer.COUNTS; contents = g.S.Writer.contents; failures = g.S.Writer.failures; last_error = g.S.Writer.last_error } in
    let w = g.A.ArchiveWith.spelling c.args.with.now in
    let sh = g.A.Archived.Portable.shape in
    let load = c.args.load_factor in
    let hashes = c.args.hashes.now in
    let xs = c.args.entries.now in
    let old = c.args.serializer.now in
    let is : c.as_slice-numbers.result.now ≡ numbers xs = c.as_slice-numbers.ensures.value ∙ c.in_ok-numbers.ensures in
    let new = c.serialize_hashed.new.serializer in
    stopped_in_table load sh w hashes s xs c.if-len-eq0.false st old new _ (of_numbers load sh w hashes s xs c.as_slice-numbers.result.now is old new (Err c.in_err-table.field-0.0) c.in_err-table.ensures st at))

pub serialize_hashed-requires-clause-even : goal.serialize_hashed-requires-clause-even
serialize_hashed-requires-clause-even g c = c.requires.even ∙ sym (ap length (c.as_slice-numbers.ensures.value ∙ c.in_ok-numbers.ensures) ∙ length-range_with_len 0 (length c.args.entries.now))

pub serialize_slice_with_each-requires-clause-room : goal.serialize_slice_with_each-requires-clause-room
serialize_slice_with_each-requires-clause-room g c = let l = c.in_ok-table.ensures c.requires.state.state c.requires.state.is_at in omega (arith, l.0.is_quiet, c.requires.room)

pub serialize_slice_with_each-requires-clause-state : goal.serialize_slice_with_each-requires-clause-state
serialize_slice_with_each-requires-clause-state g c =
    let l = c.in_ok-table.ensures c.requires.state.state c.requires.state.is_at in
    record { state = state_after (written_spelling c.args.load_factor number_shape number_spelling c.args.hashes.now) c.as_slice-numbers.result.now c.requires.state.state; is_at = l.1.2 }

pub returns : goal.returns
returns g c = λ st at.
    let s : WriterMembers g.row.S.Denot = record { known = g.S.Registry.known; pos = g.S.Positional.pos; OBSERVABLE = g.S.Writer.OBSERVABLE; COUNTS = g.S.Writer.COUNTS; contents = g.S.Writer.contents; failures = g.S.Writer.failures; last_error = g.S.Writer.last_error } in
    let w = g.A.ArchiveWith.spelling c.args.with.now in
    let sh = g.A.Archived.Portable.shape in
    let load = c.args.load_factor in
    let hashes = c.args.hashes.now in
    let xs = c.args.entries.now in
    let old = c.args.serializer.now in
    let is : c.as_slice-numbers.result.now ≡ numbers xs = c.as_slice-numbers.ensures.value ∙ c.in_ok-numbers.ensures in
    let mid = c.serialize_hashed.new.serializer in
    let t = of_numbers load sh w hashes s xs c.as_slice-numbers.result.now is old mid (Ok c.in_ok-table.table) c.in_ok-table.ensures in
    let l = t st at in
    let m = c.in_ok-pos.ensures (behind load sh w hashes s xs c.if-len-eq0.false st) l.1.2 in
    map_written load sh w hashes s xs c.if-len-eq0.false st old mid c.serialize_slice_with_each.new.serializer c.in_ok-table.table c.in_ok-pos.pos at l.0 l.1.0 l.1.1 m.0 m.1.0 m.1.1 m.1.2

pub returns-in_err-pos : goal.returns-in_err-pos
returns-in_err-pos g c =
    let failed : c.from_residual-in_err-pos.result ≡ Err c.in_err-pos.field-0.0 = search rules in
    rw failed
    (λ st at.
    let s : WriterMembers g.row.S.Denot = record { known = g.S.Registry.known; pos = g.S.Positional.pos; OBSERVABLE = g.S.Writer.OBSERVABLE; COUNTS = g.S.Writer.COUNTS; contents = g.S.Writer.contents; failures = g.S.Writer.failures; last_error = g.S.Writer.last_error } in
    let w = g.A.ArchiveWith.spelling c.args.with.now in
    let sh = g.A.Archived.Portable.shape in
    let load = c.args.load_factor in
    let hashes = c.args.hashes.now in
    let xs = c.args.entries.now in
    let old = c.args.serializer.now in
    let is : c.as_slice-numbers.result.now ≡ numbers xs = c.as_slice-numbers.ensures.value ∙ c.in_ok-numbers.ensures in
    let mid = c.serialize_hashed.new.serializer in
    let t = of_numbers load sh w hashes s xs c.as_slice-numbers.result.now is old mid (Ok c.in_ok-table.table) c.in_ok-table.ensures in
    let l = t st at in
    stopped_in_entries load sh w hashes s xs c.if-len-eq0.false st old mid c.serialize_slice_with_each.new.serializer _ l.0 (c.in_err-pos.ensures (behind load sh w hashes s xs c.if-len-eq0.false st) l.1.2))
