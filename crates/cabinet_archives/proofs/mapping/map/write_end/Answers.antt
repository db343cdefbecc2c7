use Rattle.std.proofs.Common.{◌++◌, codes}
use Rattle.std.proofs.lemmas.Result.{err_from_is_err_and}
use Rattle.archive_shape_layout.proofs.Joined.{failed_first, failed_after, appends_after}
use Rattle.cabinet_archives.specs.MapLines.{past_gap, spelled_summary}
use Rattle.cabinet_archives.proofs.mapping.map.write_end.Goals as goal

pub returns-in_err-write_more : goal.returns-in_err-write_more
returns-in_err-write_more g c =
    let p = err_from_is_err_and c.from_residual-in_err-write_more.result c.from_residual-in_err-write_more.ensures.1 in
    let more = rw (c.in_ok-write_gap.ensures.tally) at c.in_err-write_more.ensures in
    rw (p.1, p.2) (failed_after c.in_ok-write_gap.ensures.written (failed_first _ more))

pub returns-in_err-write : goal.returns-in_err-write
returns-in_err-write g c =
    let p = err_from_is_err_and c.from_residual-in_err-write.result c.from_residual-in_err-write.ensures.1 in
    let u = past_gap c.args.tally.now c.args.len in
    let more = rw (c.in_ok-write_gap.ensures.tally) at c.in_ok-write_more.ensures in
    let blank = failed_first (spelled_summary u) c.in_err-write.ensures in
    rw (p.1, p.2) (failed_after c.in_ok-write_gap.ensures.written (failed_after more blank))

pub returns : goal.returns
returns g c =
    let u = past_gap c.args.tally.now c.args.len in
    let more = rw (c.in_ok-write_gap.ensures.tally) at c.in_ok-write_more.ensures in
    let summary = rw (c.in_ok-write_gap.ensures.tally) at c.write_summary.ensures in
    let after = appends_after c.write_summary.new.writer (spelled_summary u) c.write_summary.result c.in_ok-write.ensures summary in
    let rest = appends_after c.write_summary.new.writer (codes "\n" ++ spelled_summary u) c.write_summary.result more after in
    appends_after c.write_summary.new.writer _ c.write_summary.result c.in_ok-write_gap.ensures.written rest
