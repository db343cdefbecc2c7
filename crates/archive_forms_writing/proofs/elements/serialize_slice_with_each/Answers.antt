use Rattle.std.proofs.Common.{rules, ◌≡◌, Err, arith, ◌∙◌}
use Rattle.archive_shape_layout.specs.Writing.{WriterMembers}
use Rattle.archive_forms_writing.proofs.Regions.{Filled, region_data_stopped, region_behind}
use Rattle.archive_forms_writing.proofs.elements.serialize_slice_with_each.Goals as goal

pub returns-in_err-few : goal.returns-in_err-few
returns-in_err-few g c = λ st at.
    let w = (g.A.ArchiveWith.spelling c.args.with.now) in
    let sh = g.A.Archived.Portable.shape in
    let s : WriterMembers g.row.S.Denot = record { known = g.S.Registry.known; pos = g.S.Positional.pos; OBSERVABLE = g.S.Writer.OBSERVABLE; COUNTS = g.S.Writer.COUNTS; contents = g.S.Writer.contents; failures = g.S.Writer.failures; last_error = g.S.Writer.last_error } in
    let xs = c.args.items.now in
    let old = c.args.serializer.now in
    let passed : c.from_residual.result ≡ Err c.in_err-few.field-0.0 = search rules in
    rw passed (region_data_stopped w sh s xs old st _ _ (c.in_err-few.ensures st at))

pub resolve_behind-requires-clause-room : goal.resolve_behind-requires-clause-room
resolve_behind-requires-clause-room g c = let all = c.in_ok-few.ensures c.requires.state.state c.requires.state.is_at in omega (arith, all.0.is_quiet, c.requires.room)

pub resolve_behind-requires-clause-made : goal.resolve_behind-requires-clause-made
resolve_behind-requires-clause-made g c = let all = c.in_ok-few.ensures c.requires.state.state c.requires.state.is_at in (c.requires.state.state, all.1.0)

pub returns-then-items-le-MAX_KEPT : goal.returns-then-items-le-MAX_KEPT
returns-then-items-le-MAX_KEPT g c = λ st at.
    let w = (g.A.ArchiveWith.spelling c.args.with.now) in
    let sh = g.A.Archived.Portable.shape in
    let s : WriterMembers g.row.S.Denot = record { known = g.S.Registry.known; pos = g.S.Positional.pos; OBSERVABLE = g.S.Writer.OBSERVABLE; COUNTS = g.S.Writer.COUNTS; contents = g.S.Writer.contents; failures = g.S.Writer.failures; last_error = g.S.Writer.last_error } in
    let xs = c.args.items.now in
    let old = c.args.serializer.now in
    let all = c.in_ok-few.ensures st at in
    let filled : Filled w sh s xs old st _ = record { wrote = all.0; is_at = all.1.2 } in
    region_behind w sh s xs old st _ _ _ at.stands filled all.1.1 (c.resolve_behind.ensures st all.1.0)

pub returns-in_err-kept : goal.returns-in_err-kept
returns-in_err-kept g c = λ st at.
    let w = (g.A.ArchiveWith.spelling c.args.with.now) in
    let sh = g.A.Archived.Portable.shape in
    let s : WriterMembers g.row.S.Denot = record { known = g.S.Registry.known; pos = g.S.Positional.pos; OBSERVABLE = g.S.Writer.OBSERVABLE; COUNTS = g.S.Writer.COUNTS; contents = g.S.Writer.contents; failures = g.S.Writer.failures; last_error = g.S.Writer.last_error } in
    let xs = c.args.items.now in
    let old = c.args.serializer.now in
    let passed : c.from_residual-in_err-kept.result ≡ Err c.in_err-kept.field-0.0 = search rules in
    rw passed (region_data_stopped w sh s xs old st _ _ (c.in_err-kept.ensures st at))

pub resolve_behind-requires-2-clause-room : goal.resolve_behind-requires-2-clause-room
resolve_behind-requires-2-clause-room g c = let all = c.in_ok-kept.ensures c.requires.state.state c.requires.state.is_at in omega (arith, all.0.is_quiet, c.requires.room)

pub resolve_behind-requires-2-clause-made : goal.resolve_behind-requires-2-clause-made
resolve_behind-requires-2-clause-made g c = let all = c.in_ok-kept.ensures c.requires.state.state c.requires.state.is_at in (c.requires.state.state, c.as_slice.ensures.value ∙ all.1.0)

pub returns : goal.returns
returns g c = λ st at.
    let w = (g.A.ArchiveWith.spelling c.args.with.now) in
    let sh = g.A.Archived.Portable.shape in
    let s : WriterMembers g.row.S.Denot = record { known = g.S.Registry.known; pos = g.S.Positional.pos; OBSERVABLE = g.S.Writer.OBSERVABLE; COUNTS = g.S.Writer.COUNTS; contents = g.S.Writer.contents; failures = g.S.Writer.failures; last_error = g.S.Writer.last_error } in
    let xs = c.args.items.now in
    let old = c.args.serializer.now in
    let all = c.in_ok-kept.ensures st at in
    let filled : Filled w sh s xs old st _ = record { wrote = all.0; is_at = all.1.2 } in
    region_behind w sh s xs old st _ _ _ at.stands filled all.1.1 (c.resolve_behind-2.ensures st (c.as_slice.ensures.value ∙ all.1.0))
