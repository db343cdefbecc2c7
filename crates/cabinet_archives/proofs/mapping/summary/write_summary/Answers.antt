use Rattle.std.proofs.Common.{◌++◌, codes}
use Rattle.std.proofs.lemmas.Result.{err_from_is_err_and}
use Rattle.archive_shape_layout.proofs.Joined.{failed_first, appends_after}
use Rattle.cabinet_archives.specs.MapLines.{spelled_counts, byte_words}
use Rattle.cabinet_archives.proofs.mapping.summary.write_summary.Goals as goal

pub returns-in_err-write_counts : goal.returns-in_err-write_counts
returns-in_err-write_counts g c =
    let p = err_from_is_err_and c.from_residual.result c.from_residual.ensures.1 in
    let first = rw (c.as_slice.ensures, c.as_slice-2.ensures) at c.in_err-write_counts.ensures in
    rw (p.1, p.2) (failed_first (codes "bytes\n" ++ spelled_counts c.args.tally.now.bytes 0 0 byte_words) first)

pub returns : goal.returns
returns g c =
    let first = rw (c.as_slice.ensures, c.as_slice-2.ensures) at c.in_ok-write_counts.ensures in
    let second = rw (c.as_slice-3.ensures, c.as_slice-4.ensures) at c.write_counts-2.ensures in
    appends_after c.write_counts-2.new.writer (codes "bytes\n" ++ spelled_counts c.args.tally.now.bytes 0 0 byte_words) c.write_counts-2.result first second
