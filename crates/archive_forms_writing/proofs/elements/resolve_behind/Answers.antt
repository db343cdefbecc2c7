use Rattle.std.proofs.Common.{rules, ◌≡◌, Err, arith, ◌∙◌}
use Rattle.archive_shape_layout.specs.Writing.{WriterMembers}
use Rattle.archive_forms_writing.proofs.Behind.{behind_failed, behind_far, behind_written, behind_stopped}
use Rattle.archive_forms_writing.proofs.elements.resolve_behind.Goals as goal

pub returns-in_err-to : goal.returns-in_err-to
returns-in_err-to g c = λ st made.
    let w = (g.A.ArchiveWith.spelling c.args.with.now) in
    let sh = g.A.Archived.Portable.shape in
    let s : WriterMembers g.row.S.Denot = record { known = g.S.Registry.known; pos = g.S.Positional.pos; OBSERVABLE = g.S.Writer.OBSERVABLE; COUNTS = g.S.Writer.COUNTS; contents = g.S.Writer.contents; failures = g.S.Writer.failures; last_error = g.S.Writer.last_error } in
    let xs = c.args.items.now in
    let old = c.args.serializer.now in
    let aligned = c.ALIGN.ensures ∙ g.met.A.Archived.Portable.aligned in
    let passed : c.from_residual.result ≡ Err c.in_err-to.field-0.0 = search rules in
    rw passed (behind_failed w sh s xs st old _ _ _ aligned c.in_err-to.ensures.writes)

pub returns-then-to-gt-LAST_POSITION : goal.returns-then-to-gt-LAST_POSITION
returns-then-to-gt-LAST_POSITION g c = λ st made.
    let w = (g.A.ArchiveWith.spelling c.args.with.now) in
    let sh = g.A.Archived.Portable.shape in
    let s : WriterMembers g.row.S.Denot = record { known = g.S.Registry.known; pos = g.S.Positional.pos; OBSERVABLE = g.S.Writer.OBSERVABLE; COUNTS = g.S.Writer.COUNTS; contents = g.S.Writer.contents; failures = g.S.Writer.failures; last_error = g.S.Writer.last_error } in
    let xs = c.args.items.now in
    let old = c.args.serializer.now in
    let aligned = c.ALIGN.ensures ∙ g.met.A.Archived.Portable.aligned in
    behind_far w sh s xs st old _ _ c.in_ok-to.to aligned c.in_ok-to.ensures.aligned (omega (arith, c.if-to-gt-LAST_POSITION.true)) c.in_ok-to.ensures.writes

pub resolve_items-requires-clause-room : goal.resolve_items-requires-clause-room
resolve_items-requires-clause-room g c = omega (arith, c.in_ok-to.ensures.writes.is_quiet, c.requires.room)

pub returns-in_err-resolve_items : goal.returns-in_err-resolve_items
returns-in_err-resolve_items g c = λ st made.
    let w = (g.A.ArchiveWith.spelling c.args.with.now) in
    let sh = g.A.Archived.Portable.shape in
    let s : WriterMembers g.row.S.Denot = record { known = g.S.Registry.known; pos = g.S.Positional.pos; OBSERVABLE = g.S.Writer.OBSERVABLE; COUNTS = g.S.Writer.COUNTS; contents = g.S.Writer.contents; failures = g.S.Writer.failures; last_error = g.S.Writer.last_error } in
    let xs = c.args.items.now in
    let old = c.args.serializer.now in
    let aligned = c.ALIGN.ensures ∙ g.met.A.Archived.Portable.aligned in
    let passed : c.from_residual-in_err-resolve_items.result ≡ Err c.in_err-resolve_items.field-0.0 = search rules in
    rw passed (behind_stopped w sh s xs st old _ _ aligned c.in_ok-to.ensures.writes _ _ (c.in_err-resolve_items.ensures st made))

pub returns : goal.returns
returns g c = λ st made.
    let w = (g.A.ArchiveWith.spelling c.args.with.now) in
    let sh = g.A.Archived.Portable.shape in
    let s : WriterMembers g.row.S.Denot = record { known = g.S.Registry.known; pos = g.S.Positional.pos; OBSERVABLE = g.S.Writer.OBSERVABLE; COUNTS = g.S.Writer.COUNTS; contents = g.S.Writer.contents; failures = g.S.Writer.failures; last_error = g.S.Writer.last_error } in
    let xs = c.args.items.now in
    let old = c.args.serializer.now in
    let aligned = c.ALIGN.ensures ∙ g.met.A.Archived.Portable.aligned in
    let own = c.in_ok-resolve_items.ensures st made in
    behind_written w sh s xs st old _ _ aligned c.in_ok-to.ensures.writes _ c.in_ok-to.to c.in_ok-to.ensures.aligned (omega (arith, c.if-to-gt-LAST_POSITION.false)) own.0 own.1
