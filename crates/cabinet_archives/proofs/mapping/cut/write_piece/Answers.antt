use Rattle.std.proofs.Common.{◌∙◌, ◌≤◌, length, sym, arith}
use Rattle.std.proofs.lemmas.Result.{err_from_is_err_and}
use Rattle.archive_shape_layout.proofs.Joined.{written_both, failed_after}
use Rattle.cabinet_text_nodes.proofs.Pieces.{written_as, failed_as}
use Rattle.cabinet_archives.proofs.CutTexts.{one_fewer, character_passed, byte_passed, cut_there, left_there, all_passed}
use Rattle.cabinet_archives.proofs.mapping.cut.write_piece.Goals as goal
use Rattle.cabinet_archives.proofs.mapping.cut.write_piece.Goals.{then-begins_character+else-more-eq0, else-begins_character}

pub returns-in_err-write-2-clause-written : goal.returns-in_err-write-2-clause-written
returns-in_err-write-2-clause-written g c =
    let p = err_from_is_err_and c.from_residual-in_err-write-2.result c.from_residual-in_err-write-2.ensures.1 in
    let begins = sym c.begins_character.ensures ∙ c.if-begins_character.true in
    let is = cut_there c.args.piece.now c.args.left c.loop-end-test.true c.loop-end.invariant.passed c.if-more-eq0.true begins in
    let first = rw c.loop-end.invariant.quiet at c.in_ok-write.ensures in
    rw (p.1, p.2) (failed_as (sym is) (failed_after first c.in_err-write-2.ensures))

pub returns-then-more-eq0-clause-written : goal.returns-then-more-eq0-clause-written
returns-then-more-eq0-clause-written g c =
    let begins = sym c.begins_character.ensures ∙ c.if-begins_character.true in
    let is = cut_there c.args.piece.now c.args.left c.loop-end-test.true c.loop-end.invariant.passed c.if-more-eq0.true begins in
    let first = rw c.loop-end.invariant.quiet at c.in_ok-write.ensures in
    written_as (sym is) (written_both first c.in_ok-write-2.ensures)

pub returns-then-more-eq0-clause-left : goal.returns-then-more-eq0-clause-left
returns-then-more-eq0-clause-left g c =
    let begins = sym c.begins_character.ensures ∙ c.if-begins_character.true in
    sym (left_there c.args.piece.now c.args.left c.loop-end-test.true c.loop-end.invariant.passed c.if-more-eq0.true begins)

pub loop-end-preserved : goal.loop-end-preserved
loop-end-preserved g c =
    let piece = c.args.piece.now in
    let passed = c.loop-end.invariant.passed in
    elim c.if-begins_character.branch [
      | then-begins_character+else-more-eq0 w ↦
          record {
            quiet = c.loop-end.invariant.quiet;
            passed =
                let fewer = one_fewer c.loop-end.more w.if-more-eq0.false in
                let begins = sym c.begins_character.ensures ∙ w.if-begins_character.true in
                rw w.more-is (character_passed piece c.args.left c.loop-end-test.true passed _ fewer begins);
          }
      | else-begins_character w ↦
          record {
            quiet = c.loop-end.invariant.quiet;
            passed =
                let within = sym c.begins_character.ensures ∙ w.if-begins_character.false in
                rw w.more-is (byte_passed piece c.args.left c.loop-end-test.true passed within);
          }
    ]

pub returns-clause-written : goal.returns-clause-written
returns-clause-written g c =
    let all : length c.args.piece.now ≤ c.loop-end.end = omega (arith, c.loop-end-test.false) in
    let whole = rw c.loop-end.invariant.quiet at c.in_ok-write-3.ensures in
    written_as (sym (all_passed c.args.piece.now c.args.left all c.loop-end.invariant.passed).0) whole

pub returns-clause-left : goal.returns-clause-left
returns-clause-left g c =
    let all : length c.args.piece.now ≤ c.loop-end.end = omega (arith, c.loop-end-test.false) in
    sym (all_passed c.args.piece.now c.args.left all c.loop-end.invariant.passed).1
