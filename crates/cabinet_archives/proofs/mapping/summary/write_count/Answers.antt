use Rattle.std.proofs.Common.{◌++◌, codes}
use Rattle.std.proofs.lemmas.Result.{err_from_is_err_and}
use Rattle.archive_shape_layout.proofs.Joined.{appends_after, failed_first}
use Rattle.cabinet_archives.proofs.CountLines.{count_line}
use Rattle.cabinet_archives.proofs.mapping.summary.write_count.Goals as goal

pub returns-in_err-write_number : goal.returns-in_err-write_number
returns-in_err-write_number g c =
    let p = err_from_is_err_and c.from_residual.result c.from_residual.ensures.1 in
    rw (p.1, p.2, count_line c.args.count c.args.word.now c.if-count-eq0.false)
    (failed_first (codes " " ++ (c.args.word.now ++ codes "\n")) c.in_err-write_number.ensures)

pub returns : goal.returns
returns g c =
    let text = rw (c.as_bytes.ensures.value) at c.write_three_pieces.ensures in
    rw (count_line c.args.count c.args.word.now c.if-count-eq0.false)
    (appends_after c.write_three_pieces.new.writer (codes " " ++ (c.args.word.now ++ codes "\n")) c.write_three_pieces.result c.in_ok-write_number.ensures text)
