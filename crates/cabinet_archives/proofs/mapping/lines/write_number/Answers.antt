use Rattle.std.proofs.lemmas.Result.{err_from_is_err_and}
use Rattle.std.specs.Fmt.{decimal}
use Rattle.archive_shape_layout.proofs.Joined.{appends_after, failed_first}
use Rattle.cabinet_archives.proofs.mapping.lines.write_number.Goals as goal

pub returns-in_err-write_filler : goal.returns-in_err-write_filler
returns-in_err-write_filler g c =
    let p = err_from_is_err_and c.from_residual.result c.from_residual.ensures.1 in
    let filler = rw (c.as_bytes.ensures, c.unsigned-digits.ensures) at c.in_err-write_filler.ensures in
    rw (p.1, p.2) (failed_first (decimal c.args.number) filler)

pub returns : goal.returns
returns g c =
    let filler = rw (c.as_bytes.ensures, c.unsigned-digits.ensures) at c.in_ok-write_filler.ensures in
    let digits = rw (c.as_bytes-2.ensures, c.unsigned-digits.ensures) at c.write.ensures in
    appends_after c.write.new.self (decimal c.args.number) c.write.result filler digits
