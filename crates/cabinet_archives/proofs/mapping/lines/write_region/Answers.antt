use Rattle.std.proofs.Common.{sym}
use Rattle.std.proofs.lemmas.Result.{err_from_is_err_and}
use Rattle.archive_shape_layout.proofs.Joined.{written_none, written_both, failed_first, failed_after}
use Rattle.cabinet_archives.specs.Mapping.{Name}
use Rattle.cabinet_archives.specs.MapLines.{shown, past_gap, word_of}
use Rattle.cabinet_archives.specs.MapPaths.{path_of}
use Rattle.cabinet_archives.proofs.RegionLines.{empty_written, empty_tallied, region_written, region_tallied}
use Rattle.cabinet_archives.proofs.mapping.lines.write_region.Goals as goal

pub returns-then-size-eq0-clause-written : goal.returns-then-size-eq0-clause-written
returns-then-size-eq0-clause-written g c =
    rw (empty_written c.args.tally.now c.args.start _ c.args.size c.if-size-eq0.true) (written_none c.args.writer.now)

pub returns-then-size-eq0-clause-tally : goal.returns-then-size-eq0-clause-tally
returns-then-size-eq0-clause-tally g c = sym (empty_tallied c.args.tally.now c.args.start _ c.args.size c.if-size-eq0.true)

pub returns-in_err-write_gap-clause-written : goal.returns-in_err-write_gap-clause-written
returns-in_err-write_gap-clause-written g c =
    let p = err_from_is_err_and c.from_residual.result c.from_residual.ensures.1 in
    let n : Name = record { kind = c.args.kind; path = path_of c.args.path.now } in
    let is = region_written c.args.tally.now c.args.start n c.args.size c.if-size-eq0.false in
    rw (p.1, p.2, is) (failed_first _ c.in_err-write_gap.ensures.written)

pub returns-in_err-write_shown-clause-written : goal.returns-in_err-write_shown-clause-written
returns-in_err-write_shown-clause-written g c =
    let p = err_from_is_err_and c.from_residual-in_err-write_shown.result c.from_residual-in_err-write_shown.ensures.1 in
    let t = c.args.tally.now in
    let n : Name = record { kind = c.args.kind; path = path_of c.args.path.now } in
    let is = region_written t c.args.start n c.args.size c.if-size-eq0.false in
    let line = rw (c.in_ok-write_gap.ensures.tally, c.word.ensures) at c.in_err-write_shown.ensures in
    let piece = shown (past_gap t c.args.start) c.args.start c.args.size (word_of n.kind) n.path in
    rw (p.1, p.2, is) (failed_after {b = piece} c.in_ok-write_gap.ensures.written line)

pub returns-clause-written : goal.returns-clause-written
returns-clause-written g c =
    let t = c.args.tally.now in
    let n : Name = record { kind = c.args.kind; path = path_of c.args.path.now } in
    let is = region_written t c.args.start n c.args.size c.if-size-eq0.false in
    let line = rw (c.in_ok-write_gap.ensures.tally, c.word.ensures) at c.in_ok-write_shown.ensures in
    let piece = shown (past_gap t c.args.start) c.args.start c.args.size (word_of n.kind) n.path in
    rw is (written_both {b = piece} c.in_ok-write_gap.ensures.written line)

pub returns-clause-tally : goal.returns-clause-tally
returns-clause-tally g c =
    let n : Name = record { kind = c.args.kind; path = path_of c.args.path.now } in
    let is = region_tallied c.args.tally.now c.args.start n c.args.size c.if-size-eq0.false in
    rw is (rw (c.in_ok-write_gap.ensures.tally, c.place.ensures) at c.count_row.ensures)
