use Rattle.std.proofs.Common.{rules, ◌≡◌, Err, ◌∙◌, ◌<◌, All, sym, List, [], Option, arith, ap, refl, subst, inl, length}
use Rattle.archive_shape_layout.specs.Writing.{WriterMembers}
use Rattle.archive_shape_canonical.specs.FirstFit.{fitted_from, present}
use Rattle.archive_forms_writing.specs.Steps.{IsElement}
use Rattle.archive_forms_laws.specs.Serializing.{of_data}
use Rattle.archive_forms_writing.proofs.Laying.{stopped_before}
use Rattle.archive_hash_writing.specs.Claimed.{written_spelling}
use Rattle.archive_hash_writing.proofs.Among.{among_items}
use Rattle.archive_hash_writing.proofs.Standing.{places_are}
use Rattle.archive_hash_writing.proofs.WholeTable.{capacity_more, some_items, some_controls, nothing_written, refused_first, stopped_in_data, stopped_in_region, written_all, placed_so, stands_so, controls_so}
use Rattle.archive_hash_writing.proofs.tables.serialize_hashed.Goals as goal

pub returns-in_err-capacity : goal.returns-in_err-capacity
returns-in_err-capacity g c =
    let failed : c.from_residual.result ≡ Err c.in_err-capacity.field-0.0 = search rules in
    rw failed
    (λ st at.
    let w = g.A.ArchiveWith.spelling c.args.with.now in
    let sh = g.A.Archived.Portable.shape in
    let s : WriterMembers g.row.S.Denot = record { known = g.S.Registry.known; pos = g.S.Positional.pos; OBSERVABLE = g.S.Writer.OBSERVABLE; COUNTS = g.S.Writer.COUNTS; contents = g.S.Writer.contents; failures = g.S.Writer.failures; last_error = g.S.Writer.last_error } in
    let load = c.args.load_factor in
    let hashes = c.args.hashes.now in
    let xs = c.args.items.now in
    let old = c.args.serializer.now in
    refused_first load sh w hashes s xs old st _ c.requires.load c.in_err-capacity.ensures)

pub returns-then-capacity-eq0 : goal.returns-then-capacity-eq0
returns-then-capacity-eq0 g c =
    let w = g.A.ArchiveWith.spelling c.args.with.now in
    let sh = g.A.Archived.Portable.shape in
    let s : WriterMembers g.row.S.Denot = record { known = g.S.Registry.known; pos = g.S.Positional.pos; OBSERVABLE = g.S.Writer.OBSERVABLE; COUNTS = g.S.Writer.COUNTS; contents = g.S.Writer.contents; failures = g.S.Writer.failures; last_error = g.S.Writer.last_error } in
    let load = c.args.load_factor in
    let hashes = c.args.hashes.now in
    let xs = c.args.items.now in
    let old = c.args.serializer.now in
    nothing_written load sh w hashes s xs old (omega (arith, c.in_ok-capacity.ensures.1, c.if-capacity-eq0.true))

pub fit-requires-clause-room : goal.fit-requires-clause-room
fit-requires-clause-room g c =
    let more = capacity_more (length c.args.items.now) c.args.load_factor.0 c.args.load_factor.1 (omega (arith, c.in_ok-capacity.ensures.1, c.if-capacity-eq0.false)) in
    omega (arith, more, c.in_ok-capacity.ensures.1, c.requires.even)

pub returns-in_err-fitted : goal.returns-in_err-fitted
returns-in_err-fitted g c =
    let failed : c.from_residual-in_err-fitted.result ≡ Err c.in_err-fitted.field-0.0 = search rules in
    rw failed
    (λ st at.
    let w = g.A.ArchiveWith.spelling c.args.with.now in
    let sh = g.A.Archived.Portable.shape in
    let s : WriterMembers g.row.S.Denot = record { known = g.S.Registry.known; pos = g.S.Positional.pos; OBSERVABLE = g.S.Writer.OBSERVABLE; COUNTS = g.S.Writer.COUNTS; contents = g.S.Writer.contents; failures = g.S.Writer.failures; last_error = g.S.Writer.last_error } in
    let load = c.args.load_factor in
    let hashes = c.args.hashes.now in
    let xs = c.args.items.now in
    let old = c.args.serializer.now in
    let spelled = written_spelling load sh w hashes in
    stopped_before (of_data s) old (spelled.piece xs st) (spelled.piece_refused xs st) _ (inl c.in_err-fitted.ensures))

pub place_items-requires-clause-even : goal.place_items-requires-clause-even
place_items-requires-clause-even g c = ap length c.as_slice.ensures.value ∙ c.in_ok-fitted.ensures.2 ∙ c.requires.even

pub place_items-requires-clause-within : goal.place_items-requires-clause-within
place_items-requires-clause-within g c = subst (All (λ place. place < c.in_ok-capacity.capacity)) (sym c.as_slice.ensures.value) c.in_ok-fitted.ensures.3

pub returns-in_err-table : goal.returns-in_err-table
returns-in_err-table g c =
    let failed : c.from_residual-in_err-table.result ≡ Err c.in_err-table.field-0.0 = search rules in
    rw failed
    (λ st at.
    let w = g.A.ArchiveWith.spelling c.args.with.now in
    let sh = g.A.Archived.Portable.shape in
    let s : WriterMembers g.row.S.Denot = record { known = g.S.Registry.known; pos = g.S.Positional.pos; OBSERVABLE = g.S.Writer.OBSERVABLE; COUNTS = g.S.Writer.COUNTS; contents = g.S.Writer.contents; failures = g.S.Writer.failures; last_error = g.S.Writer.last_error } in
    let load = c.args.load_factor in
    let hashes = c.args.hashes.now in
    let xs = c.args.items.now in
    let old = c.args.serializer.now in
    let spelled = written_spelling load sh w hashes in
    stopped_before (of_data s) old (spelled.piece xs st) (spelled.piece_refused xs st) _ (inl c.in_err-table.ensures))

pub serialize_present_each-requires-clause-room : goal.serialize_present_each-requires-clause-room
serialize_present_each-requires-clause-room g c = c.requires.room

pub serialize_present_each-requires-clause-state : goal.serialize_present_each-requires-clause-state
serialize_present_each-requires-clause-state g c = c.requires.state

pub serialize_present_each-requires-clause-writes : goal.serialize_present_each-requires-clause-writes
serialize_present_each-requires-clause-writes g c = c.requires.writes

pub serialize_present_each-requires-clause-takes : goal.serialize_present_each-requires-clause-takes
serialize_present_each-requires-clause-takes g c = λ x t el room state.
    let P : List (Option g.row.T.Denot) → Type 0 = λ l. IsElement (present l) x.now in
    c.requires.takes x t (among_items c.in_ok-capacity.capacity c.as_slice.result.now c.args.items.now x.now (subst P (placed_so _ _ _ _ _ c.as_slice-at_places.ensures.value c.in_ok-table.ensures) el)) room state

pub returns-in_err-kept : goal.returns-in_err-kept
returns-in_err-kept g c =
    let failed : c.from_residual-in_err-kept.result ≡ Err c.in_err-kept.field-0.0 = search rules in
    rw failed
    (λ st at.
    let w = g.A.ArchiveWith.spelling c.args.with.now in
    let sh = g.A.Archived.Portable.shape in
    let s : WriterMembers g.row.S.Denot = record { known = g.S.Registry.known; pos = g.S.Positional.pos; OBSERVABLE = g.S.Writer.OBSERVABLE; COUNTS = g.S.Writer.COUNTS; contents = g.S.Writer.contents; failures = g.S.Writer.failures; last_error = g.S.Writer.last_error } in
    let load = c.args.load_factor in
    let hashes = c.args.hashes.now in
    let xs = c.args.items.now in
    let old = c.args.serializer.now in
    let some = some_items xs load.0 load.1 (omega (arith, c.in_ok-capacity.ensures.1, c.if-capacity-eq0.false)) in
    let there = stands_so load hashes xs c.in_ok-capacity.capacity c.in_ok-capacity.ensures.1 _ _ _ _ c.as_slice-at_places.ensures.value c.as_slice.ensures.value c.in_ok-fitted.ensures.0 c.in_ok-table.ensures in
    stopped_in_data load sh w hashes s xs some old st _ _ there refl _ _ (c.in_err-kept.ensures st at))

pub write_region-requires-clause-room : goal.write_region-requires-clause-room
write_region-requires-clause-room g c = let l = c.in_ok-kept.ensures c.requires.state.state c.requires.state.is_at in omega (arith, l.0.is_quiet, c.requires.room)

pub write_region-requires-clause-places : goal.write_region-requires-clause-places
write_region-requires-clause-places g c =
    let many = places_are c.in_ok-capacity.capacity _ _ _ (placed_so _ _ _ _ _ c.as_slice-at_places.ensures.value c.in_ok-table.ensures) in
    omega (arith, many, c.if-capacity-eq0.false)

pub write_region-requires-clause-controls : goal.write_region-requires-clause-controls
write_region-requires-clause-controls g c =
    let some = some_controls c.in_ok-capacity.capacity c.args.hashes.now (fitted_from c.in_ok-capacity.capacity [] c.args.hashes.now) in
    omega (arith, some, ap length (c.as_slice-controls.ensures.value ∙ c.in_ok-fitted.ensures.1))

pub write_region-requires-clause-made : goal.write_region-requires-clause-made
write_region-requires-clause-made g c = let l = c.in_ok-kept.ensures c.requires.state.state c.requires.state.is_at in (c.requires.state.state, c.as_slice-2.ensures.value ∙ l.1.0)

pub returns : goal.returns
returns g c = λ st at.
    let w = g.A.ArchiveWith.spelling c.args.with.now in
    let sh = g.A.Archived.Portable.shape in
    let s : WriterMembers g.row.S.Denot = record { known = g.S.Registry.known; pos = g.S.Positional.pos; OBSERVABLE = g.S.Writer.OBSERVABLE; COUNTS = g.S.Writer.COUNTS; contents = g.S.Writer.contents; failures = g.S.Writer.failures; last_error = g.S.Writer.last_error } in
    let load = c.args.load_factor in
    let hashes = c.args.hashes.now in
    let xs = c.args.items.now in
    let old = c.args.serializer.now in
    let some = some_items xs load.0 load.1 (omega (arith, c.in_ok-capacity.ensures.1, c.if-capacity-eq0.false)) in
    let there = stands_so load hashes xs c.in_ok-capacity.capacity c.in_ok-capacity.ensures.1 _ _ _ _ c.as_slice-at_places.ensures.value c.as_slice.ensures.value c.in_ok-fitted.ensures.0 c.in_ok-table.ensures in
    let tags = controls_so load hashes xs c.in_ok-capacity.capacity c.in_ok-capacity.ensures.1 c.in_ok-fitted.fitted.controls.items _ c.as_slice-controls.ensures.value c.in_ok-fitted.ensures.1 in
    let l = c.in_ok-kept.ensures st at in
    written_all load sh w hashes s xs some old st _ _ there tags _ _ c.in_ok-to.to at (omega (arith, c.in_ok-capacity.ensures.1, c.in_ok-capacity.ensures.2)) l.0 l.1.1 l.1.2
    (c.in_ok-to.ensures st (c.as_slice-2.ensures.value ∙ l.1.0) l.1.2.stands)

pub returns-in_err-to : goal.returns-in_err-to
returns-in_err-to g c =
    let failed : c.from_residual-in_err-to.result ≡ Err c.in_err-to.field-0.0 = search rules in
    rw failed
    (λ st at.
    let w = g.A.ArchiveWith.spelling c.args.with.now in
    let sh = g.A.Archived.Portable.shape in
    let s : WriterMembers g.row.S.Denot = record { known = g.S.Registry.known; pos = g.S.Positional.pos; OBSERVABLE = g.S.Writer.OBSERVABLE; COUNTS = g.S.Writer.COUNTS; contents = g.S.Writer.contents; failures = g.S.Writer.failures; last_error = g.S.Writer.last_error } in
    let load = c.args.load_factor in
    let hashes = c.args.hashes.now in
    let xs = c.args.items.now in
    let old = c.args.serializer.now in
    let some = some_items xs load.0 load.1 (omega (arith, c.in_ok-capacity.ensures.1, c.if-capacity-eq0.false)) in
    let there = stands_so load hashes xs c.in_ok-capacity.capacity c.in_ok-capacity.ensures.1 _ _ _ _ c.as_slice-at_places.ensures.value c.as_slice.ensures.value c.in_ok-fitted.ensures.0 c.in_ok-table.ensures in
    let tags = controls_so load hashes xs c.in_ok-capacity.capacity c.in_ok-capacity.ensures.1 c.in_ok-fitted.fitted.controls.items _ c.as_slice-controls.ensures.value c.in_ok-fitted.ensures.1 in
    let l = c.in_ok-kept.ensures st at in
    stopped_in_region load sh w hashes s xs some old st _ _ there tags _ _ _ l.0 (c.in_err-to.ensures st (c.as_slice-2.ensures.value ∙ l.1.0) l.1.2.stands))
