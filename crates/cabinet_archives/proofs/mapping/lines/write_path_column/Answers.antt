use Rattle.std.proofs.Common.{◌≡◌, ◌++◌, ◌-◌, ◌∙◌, sym, length, replicate}
use Rattle.std.proofs.lemmas.Result.{err_from_is_err_and}
use Rattle.archive_shape_layout.proofs.Joined.{appends_after, failed_first, failed_after}
use Rattle.cabinet_archives.specs.MapLines.{spelled_steps, spelled_column}
use Rattle.cabinet_archives.specs.MapPaths.{path_of}
use Rattle.cabinet_archives.proofs.SpelledPaths.{column_is}
use Rattle.cabinet_archives.proofs.mapping.lines.write_path_column.Given.{Over}
use Rattle.cabinet_archives.proofs.mapping.lines.write_path_column.Goals as goal
use Rattle.cabinet_archives.proofs.mapping.lines.write_path_column.Goals.{After-write_filler, in-Root, in_default}

-- the path has steps
column : (g : Over) (c : After-write_filler g)
    → spelled_column c.args.characters c.args.word.now (path_of c.args.path.now)
    ≡ replicate (8 - length c.args.word.now) 32 ++ spelled_steps c.args.characters (path_of c.args.path.now)
column g c =
    elim c.match-matches.branch [
      | in-Root w ↦ let e = sym w.matches-is ∙ c.if-matches.false in absurd (cc)
      | in_default w ↦ column_is c.args.characters c.args.word.now c.args.path.now w.in_default.not-Root
    ]

pub returns-in_err-write_filler : goal.returns-in_err-write_filler
returns-in_err-write_filler g c =
    let p = err_from_is_err_and c.from_residual.result c.from_residual.ensures.1 in
    rw (p.1, p.2, column g (goal.at.returns-in_err-write_filler g c).After-write_filler) (failed_first _ c.in_err-write_filler.ensures)

pub returns-in_err-write_cut-in-Some : goal.returns-in_err-write_cut-in-Some
returns-in_err-write_cut-in-Some g c =
    let p = err_from_is_err_and c.from_residual-in_err-write_cut-in-Some.result c.from_residual-in_err-write_cut-in-Some.ensures.1 in
    let failed = rw c.saturating_add.ensures at c.in_err-write_cut-in-Some.ensures.written in
    rw (p.1, p.2, column g (goal.at.returns-in_err-write_cut-in-Some g c).After-write_filler, c.in-Some.is)
    (failed_after c.in_ok-write_filler.ensures failed)

pub returns-in-None : goal.returns-in-None
returns-in-None g c =
    rw (column g (goal.at.returns-in-None g c).After-write_filler, c.in-None.is)
    (appends_after c.write_path.new.writer _ c.write_path.result c.in_ok-write_filler.ensures c.write_path.ensures)
