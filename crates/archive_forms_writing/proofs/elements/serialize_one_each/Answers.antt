use Rattle.std.proofs.Common.{rules, ◌≡◌, Err, arith, ◌∙◌, [], ◌∷◌}
use Rattle.archive_shape_layout.specs.Writing.{WriterMembers}
use Rattle.archive_forms_writing.proofs.Regions.{Filled, padded, region_starts, region_data_stopped, region_gap_stopped, region_far, region_owns_stopped, region_written, one_filled, one_stopped, one_own_wrote, one_own_stopped}
use Rattle.archive_forms_writing.proofs.elements.serialize_one_each.Goals as goal

pub returns-in_err-resolver : goal.returns-in_err-resolver
returns-in_err-resolver g c = λ st at.
    let w = g.T.Archive.spelling in
    let sh = g.T.Archived.Portable.shape in
    let s : WriterMembers g.row.S.Denot = record { known = g.S.Registry.known; pos = g.S.Positional.pos; OBSERVABLE = g.S.Writer.OBSERVABLE; COUNTS = g.S.Writer.COUNTS; contents = g.S.Writer.contents; failures = g.S.Writer.failures; last_error = g.S.Writer.last_error } in
    let x = c.args.value.now in
    let old = c.args.serializer.now in
    let passed : c.from_residual.result ≡ Err c.in_err-resolver.field-0.0 = search rules in
    rw passed (region_data_stopped w sh s (x ∷ []) old st _ _ (one_stopped w sh s x st _ _ _ (c.requires.writes _ _ _ _ c.requires.room c.requires.state c.in_err-resolver.ensures st at)))

pub align-requires-clause-room : goal.align-requires-clause-room
align-requires-clause-room g c =
    let l = c.requires.writes _ _ _ _ c.requires.room c.requires.state c.in_ok-resolver.ensures c.requires.state.state c.requires.state.is_at in omega (arith, l.0.is_quiet, c.requires.room)

pub returns-in_err-to : goal.returns-in_err-to
returns-in_err-to g c = λ st at.
    let w = g.T.Archive.spelling in
    let sh = g.T.Archived.Portable.shape in
    let s : WriterMembers g.row.S.Denot = record { known = g.S.Registry.known; pos = g.S.Positional.pos; OBSERVABLE = g.S.Writer.OBSERVABLE; COUNTS = g.S.Writer.COUNTS; contents = g.S.Writer.contents; failures = g.S.Writer.failures; last_error = g.S.Writer.last_error } in
    let x = c.args.value.now in
    let old = c.args.serializer.now in
    let aligned = c.ALIGN.ensures ∙ g.met.T.Archived.Portable.aligned in
    let l = c.requires.writes _ _ _ _ c.requires.room c.requires.state c.in_ok-resolver.ensures st at in
    let filled : Filled w sh s (x ∷ []) old st _ = one_filled w sh s x st _ _ l.0 l.1.2 in
    let passed : c.from_residual-in_err-to.result ≡ Err c.in_err-to.field-0.0 = search rules in
    rw passed (region_gap_stopped w sh s (x ∷ []) old st _ _ _ _ aligned filled c.in_err-to.ensures.writes)

pub returns-then-to-gt-LAST_POSITION : goal.returns-then-to-gt-LAST_POSITION
returns-then-to-gt-LAST_POSITION g c = λ st at.
    let w = g.T.Archive.spelling in
    let sh = g.T.Archived.Portable.shape in
    let s : WriterMembers g.row.S.Denot = record { known = g.S.Registry.known; pos = g.S.Positional.pos; OBSERVABLE = g.S.Writer.OBSERVABLE; COUNTS = g.S.Writer.COUNTS; contents = g.S.Writer.contents; failures = g.S.Writer.failures; last_error = g.S.Writer.last_error } in
    let x = c.args.value.now in
    let old = c.args.serializer.now in
    let aligned = c.ALIGN.ensures ∙ g.met.T.Archived.Portable.aligned in
    let l = c.requires.writes _ _ _ _ c.requires.room c.requires.state c.in_ok-resolver.ensures st at in
    let filled : Filled w sh s (x ∷ []) old st _ = one_filled w sh s x st _ _ l.0 l.1.2 in
    let to = c.in_ok-to.to in
    region_far w sh s (x ∷ []) old st _ to (region_starts w sh s (x ∷ []) old st _ to _ aligned c.in_ok-to.ensures.aligned filled) (omega (arith, c.if-to-gt-LAST_POSITION.true))
    (padded w sh s (x ∷ []) old st _ _ _ aligned filled c.in_ok-to.ensures.writes)

pub resolve_aligned-requires-clause-room : goal.resolve_aligned-requires-clause-room
resolve_aligned-requires-clause-room g c =
    let l = c.requires.writes _ _ _ _ c.requires.room c.requires.state c.in_ok-resolver.ensures c.requires.state.state c.requires.state.is_at in
    omega (arith, l.0.is_quiet, c.in_ok-to.ensures.writes.is_quiet, c.requires.room)

pub resolve_aligned-requires-clause-made : goal.resolve_aligned-requires-clause-made
resolve_aligned-requires-clause-made g c =
    let l = c.requires.writes _ _ _ _ c.requires.room c.requires.state c.in_ok-resolver.ensures c.requires.state.state c.requires.state.is_at in (c.requires.state.state, l.1.0)

pub returns-in_err-resolve_aligned : goal.returns-in_err-resolve_aligned
returns-in_err-resolve_aligned g c = λ st at.
    let w = g.T.Archive.spelling in
    let sh = g.T.Archived.Portable.shape in
    let s : WriterMembers g.row.S.Denot = record { known = g.S.Registry.known; pos = g.S.Positional.pos; OBSERVABLE = g.S.Writer.OBSERVABLE; COUNTS = g.S.Writer.COUNTS; contents = g.S.Writer.contents; failures = g.S.Writer.failures; last_error = g.S.Writer.last_error } in
    let x = c.args.value.now in
    let old = c.args.serializer.now in
    let aligned = c.ALIGN.ensures ∙ g.met.T.Archived.Portable.aligned in
    let l = c.requires.writes _ _ _ _ c.requires.room c.requires.state c.in_ok-resolver.ensures st at in
    let filled : Filled w sh s (x ∷ []) old st _ = one_filled w sh s x st _ _ l.0 l.1.2 in
    let passed : c.from_residual-in_err-resolve_aligned.result ≡ Err c.in_err-resolve_aligned.field-0.0 = search rules in
    rw passed (region_owns_stopped w sh s (x ∷ []) old st _ _ _ (padded w sh s (x ∷ []) old st _ _ _ aligned filled c.in_ok-to.ensures.writes)
    (one_own_stopped w sh s x st _ _ _ _ l.1.0 c.in_err-resolve_aligned.ensures))

pub returns : goal.returns
returns g c = λ st at.
    let w = g.T.Archive.spelling in
    let sh = g.T.Archived.Portable.shape in
    let s : WriterMembers g.row.S.Denot = record { known = g.S.Registry.known; pos = g.S.Positional.pos; OBSERVABLE = g.S.Writer.OBSERVABLE; COUNTS = g.S.Writer.COUNTS; contents = g.S.Writer.contents; failures = g.S.Writer.failures; last_error = g.S.Writer.last_error } in
    let x = c.args.value.now in
    let old = c.args.serializer.now in
    let aligned = c.ALIGN.ensures ∙ g.met.T.Archived.Portable.aligned in
    let l = c.requires.writes _ _ _ _ c.requires.room c.requires.state c.in_ok-resolver.ensures st at in
    let filled : Filled w sh s (x ∷ []) old st _ = one_filled w sh s x st _ _ l.0 l.1.2 in
    let to = c.in_ok-to.to in
    let own = one_own_wrote w sh s x st _ _ _ l.1.0 c.in_ok-resolve_aligned.ensures.0 c.in_ok-resolve_aligned.ensures.1 in
    let done = region_written w sh s (x ∷ []) old st _ _ to at.stands (region_starts w sh s (x ∷ []) old st _ to _ aligned c.in_ok-to.ensures.aligned filled) (omega (arith, c.if-to-gt-LAST_POSITION.false))
    (padded w sh s (x ∷ []) old st _ _ _ aligned filled c.in_ok-to.ensures.writes) (l.1.1, tt) own.0 own.1 in
    (done.wrote, (done.to_is, done.fits, done.is_at))
