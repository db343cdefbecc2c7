use Rattle.std.proofs.Common.{◌∙◌, ap, sym}
use Rattle.std.proofs.lemmas.Result.{err_from_is_err_and}
use Rattle.archive_shape_layout.proofs.Joined.{appends_after, failed_first, failed_after}
use Rattle.cabinet_text_grammar.specs.Line.{spelled_path}
use Rattle.cabinet_text_grammar.specs.Spelling.{escaped}
use Rattle.cabinet_text_nodes.proofs.Pieces.{failed_as}
use Rattle.cabinet_archives.specs.MapPaths.{path_of}
use Rattle.cabinet_archives.proofs.SpelledPaths.{spelled_last}
use Rattle.cabinet_archives.proofs.mapping.path.+write_path.Goals as goal

pub returns-in_err-write_path-in-Key : goal.returns-in_err-write_path-in-Key
returns-in_err-write_path-in-Key g t c =
    let p = err_from_is_err_and c.from_residual.result c.from_residual.ensures.1 in
    let is = ap (λ x. spelled_path (path_of x)) c.in-Key.is ∙ spelled_last _ _ in
    rw (p.1, p.2) (failed_as (sym is) (failed_first _ c.in_err-write_path-in-Key.ensures))

pub returns-in_err-write-in-Key : goal.returns-in_err-write-in-Key
returns-in_err-write-in-Key g t c =
    let p = err_from_is_err_and c.from_residual-in_err-write-in-Key.result c.from_residual-in_err-write-in-Key.ensures.1 in
    let is = ap (λ x. spelled_path (path_of x)) c.in-Key.is ∙ spelled_last _ _ in
    rw (p.1, p.2)
    (failed_as (sym is) (failed_after c.in_ok-write_path-in-Key.ensures (failed_first (escaped c.in-Key.key.now) c.in_err-write-in-Key.ensures)))

pub returns-in_err-write_path-in-Place : goal.returns-in_err-write_path-in-Place
returns-in_err-write_path-in-Place g t c =
    let p = err_from_is_err_and c.from_residual-in_err-write_path-in-Place.result c.from_residual-in_err-write_path-in-Place.ensures.1 in
    let is = ap (λ x. spelled_path (path_of x)) c.in-Place.is ∙ spelled_last _ _ in
    rw (p.1, p.2) (failed_as (sym is) (failed_first _ c.in_err-write_path-in-Place.ensures))

pub returns-in_err-write_path-in-Inside : goal.returns-in_err-write_path-in-Inside
returns-in_err-write_path-in-Inside g t c =
    let p = err_from_is_err_and c.from_residual-in_err-write_path-in-Inside.result c.from_residual-in_err-write_path-in-Inside.ensures.1 in
    let is = ap (λ x. spelled_path (path_of x)) c.in-Inside.is ∙ spelled_last _ _ in
    rw (p.1, p.2) (failed_as (sym is) (failed_first _ c.in_err-write_path-in-Inside.ensures))

pub returns-in_ok-write-in-Key : goal.returns-in_ok-write-in-Key
returns-in_ok-write-in-Key g t c =
    let is = ap (λ x. spelled_path (path_of x)) c.in-Key.is ∙ spelled_last _ _ in
    let text = rw (c.as_bytes.ensures.value) at c.write_escaped.ensures in
    rw is (appends_after c.write_escaped.new.writer _ c.write_escaped.result c.in_ok-write_path-in-Key.ensures
    (appends_after c.write_escaped.new.writer (escaped c.in-Key.key.now) c.write_escaped.result c.in_ok-write-in-Key.ensures text))

pub returns-in_ok-write_path-in-Place : goal.returns-in_ok-write_path-in-Place
returns-in_ok-write_path-in-Place g t c =
    let is = ap (λ x. spelled_path (path_of x)) c.in-Place.is ∙ spelled_last _ _ in
    let text = rw (c.as_bytes-in-Place.ensures, c.unsigned.ensures) at c.write_two_pieces.ensures in
    rw is (appends_after c.write_two_pieces.new.writer _ c.write_two_pieces.result c.in_ok-write_path-in-Place.ensures text)

pub returns-in_ok-write_path-in-Inside : goal.returns-in_ok-write_path-in-Inside
returns-in_ok-write_path-in-Inside g t c =
    let is = ap (λ x. spelled_path (path_of x)) c.in-Inside.is ∙ spelled_last _ _ in
    rw is (appends_after c.write-in-Inside.new.self _ c.write-in-Inside.result c.in_ok-write_path-in-Inside.ensures c.write-in-Inside.ensures)
