use Rattle.std.proofs.Common.{rules, Err, ◌≡◌, take, sym, subst, inr}
use Rattle.archive_shape_layout.specs.Writing.{WriterMembers}
use Rattle.archive_forms_laws.specs.Regions.{owns, owns_fit, owns_refused}
use Rattle.archive_forms_writing.proofs.Laying.{stopped_before, writes_lays}
use Rattle.archive_forms_writing.proofs.buffered.resolve_at_once.Goals as goal

pub returns-in_err-filled : goal.returns-in_err-filled
returns-in_err-filled g c = λ st made.
    let w = (g.A.ArchiveWith.spelling c.args.with.now) in
    let sh = g.A.Archived.Portable.shape in
    let xs = c.args.items.now in
    let s : WriterMembers g.row.W.Denot = record { known = g.W.Registry.known; pos = g.W.Positional.pos; OBSERVABLE = g.W.Writer.OBSERVABLE; COUNTS = g.W.Writer.COUNTS; contents = g.W.Writer.contents; failures = g.W.Writer.failures; last_error = g.W.Writer.last_error } in
    let pos = g.W.Positional.pos c.args.writer.now in
    let r = subst (λ p. owns_refused w sh xs st p c.in_err-filled.field-0.0) c.pos.ensures (c.in_err-filled.ensures st made) in
    let passed : c.from_residual.result ≡ Err c.in_err-filled.field-0.0 = search rules in
    rw passed (stopped_before s c.args.writer.now (owns w xs st pos) (owns_refused w sh xs st pos) c.in_err-filled.field-0.0 (inr r))

pub returns : goal.returns
returns g c = λ st made.
    let w = (g.A.ArchiveWith.spelling c.args.with.now) in
    let sh = g.A.Archived.Portable.shape in
    let xs = c.args.items.now in
    let s : WriterMembers g.row.W.Denot = record { known = g.W.Registry.known; pos = g.W.Positional.pos; OBSERVABLE = g.W.Writer.OBSERVABLE; COUNTS = g.W.Writer.COUNTS; contents = g.W.Writer.contents; failures = g.W.Writer.failures; last_error = g.W.Writer.last_error } in
    let pos = g.W.Positional.pos c.args.writer.now in
    let e = c.in_ok-filled.ensures st made in
    let is = subst (λ p. take c.in_ok-filled.filled c.resolve_all.new.buffer ≡ owns w xs st p) c.pos.ensures e.1 in
    let fit = subst (λ p. owns_fit w sh xs st p) c.pos.ensures e.2 in
    writes_lays s c.args.writer.now c.write.new.self (owns w xs st pos) (take c.in_ok-filled.filled c.resolve_all.new.buffer) (λ _. owns_fit w sh xs st pos) (owns_refused w sh xs st pos) c.write.result (sym is) (λ r. fit) c.write.ensures
