use Rattle.std.proofs.Common.{◌++◌, codes}
use Rattle.std.specs.Fmt.{decimal}
use Rattle.std.proofs.lemmas.Result.{err_from_is_err_and}
use Rattle.archive_shape_layout.proofs.Joined.{appends_after, failed_first, failed_after}
use Rattle.cabinet_archives.specs.MapLines.{right, spelled_column}
use Rattle.cabinet_archives.specs.MapPaths.{path_of}
use Rattle.cabinet_archives.proofs.mapping.lines.write_line.Goals as goal

pub returns-in_err-write : goal.returns-in_err-write
returns-in_err-write g c =
    let p = err_from_is_err_and c.from_residual-in_err-write.result c.from_residual-in_err-write.ensures.1 in
    let end = spelled_column c.args.characters c.args.word.now (path_of c.args.path.now) ++ codes "\n" in
    rw (p.1, p.2)
    (failed_after c.in_ok-write_number.ensures
    (failed_first (right 10 (decimal c.args.size) ++ (codes " " ++ (c.args.word.now ++ end))) c.in_err-write.ensures))

pub returns-in_err-write_number-2 : goal.returns-in_err-write_number-2
returns-in_err-write_number-2 g c =
    let p = err_from_is_err_and c.from_residual-in_err-write_number-2.result c.from_residual-in_err-write_number-2.ensures.1 in
    let end = spelled_column c.args.characters c.args.word.now (path_of c.args.path.now) ++ codes "\n" in
    rw (p.1, p.2)
    (failed_after c.in_ok-write_number.ensures (failed_after c.in_ok-write.ensures
    (failed_first (codes " " ++ (c.args.word.now ++ end)) c.in_err-write_number-2.ensures)))

pub returns-in_err-write-2 : goal.returns-in_err-write-2
returns-in_err-write-2 g c =
    let p = err_from_is_err_and c.from_residual-in_err-write-2.result c.from_residual-in_err-write-2.ensures.1 in
    let end = spelled_column c.args.characters c.args.word.now (path_of c.args.path.now) ++ codes "\n" in
    rw (p.1, p.2)
    (failed_after c.in_ok-write_number.ensures (failed_after c.in_ok-write.ensures (failed_after c.in_ok-write_number-2.ensures
    (failed_first (c.args.word.now ++ end) c.in_err-write-2.ensures))))

pub returns-in_err-write-3 : goal.returns-in_err-write-3
returns-in_err-write-3 g c =
    let p = err_from_is_err_and c.from_residual-in_err-write-3.result c.from_residual-in_err-write-3.ensures.1 in
    let end = spelled_column c.args.characters c.args.word.now (path_of c.args.path.now) ++ codes "\n" in
    let failed = rw c.as_bytes.ensures.value at c.in_err-write-3.ensures in
    rw (p.1, p.2)
    (failed_after c.in_ok-write_number.ensures (failed_after c.in_ok-write.ensures (failed_after c.in_ok-write_number-2.ensures
    (failed_after c.in_ok-write-2.ensures
    (failed_first end failed)))))

pub returns-in_err-write_path_column : goal.returns-in_err-write_path_column
returns-in_err-write_path_column g c =
    let p = err_from_is_err_and c.from_residual-in_err-write_path_column.result c.from_residual-in_err-write_path_column.ensures.1 in
    let word = rw c.as_bytes.ensures.value at c.in_ok-write-3.ensures in
    rw (p.1, p.2)
    (failed_after c.in_ok-write_number.ensures (failed_after c.in_ok-write.ensures (failed_after c.in_ok-write_number-2.ensures
    (failed_after c.in_ok-write-2.ensures (failed_after word
    (failed_first (codes "\n") c.in_err-write_path_column.ensures))))))

pub returns : goal.returns
returns g c =
    let end = spelled_column c.args.characters c.args.word.now (path_of c.args.path.now) ++ codes "\n" in
    let word = rw c.as_bytes.ensures.value at c.in_ok-write-3.ensures in
    let new = c.write-4.new.self in
    let result = c.write-4.result in
    appends_after new (codes " " ++ (right 10 (decimal c.args.size) ++ (codes " " ++ (c.args.word.now ++ end)))) result c.in_ok-write_number.ensures
    (appends_after new (right 10 (decimal c.args.size) ++ (codes " " ++ (c.args.word.now ++ end))) result c.in_ok-write.ensures
    (appends_after new (codes " " ++ (c.args.word.now ++ end)) result c.in_ok-write_number-2.ensures
    (appends_after new (c.args.word.now ++ end) result c.in_ok-write-2.ensures
    (appends_after new end result word
    (appends_after new (codes "\n") result c.in_ok-write_path_column.ensures c.write-4.ensures)))))
