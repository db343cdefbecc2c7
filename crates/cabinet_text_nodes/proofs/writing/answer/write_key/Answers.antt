use Rattle.std.proofs.lemmas.Result.{err_from_is_err_and}
use Rattle.archive_shape_layout.proofs.Joined.{appends_after, failed_first}
use Rattle.cabinet_text_grammar.specs.Spelling.{escaped}
use Rattle.cabinet_text_nodes.proofs.writing.answer.write_key.Goals as goal

pub returns-in_err-write : goal.returns-in_err-write
returns-in_err-write g c =
    let p = err_from_is_err_and c.from_residual.result c.from_residual.ensures.1 in
    rw (p.1, p.2) (failed_first (escaped c.args.key.now) c.in_err-write.ensures)

pub returns : goal.returns
returns g c =
    rw (← c.as_bytes.ensures.value) (appends_after c.write_escaped.new.writer (escaped c.as_bytes.result.now) c.write_escaped.result c.in_ok-write.ensures c.write_escaped.ensures)
