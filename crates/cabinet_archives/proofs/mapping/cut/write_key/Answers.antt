use Rattle.std.proofs.Common.{◌≡◌, ◌∙◌, ℕ, ◌++◌, ◌+◌, [], ◌∷◌, get_or, drop, refl, sym, ap, Option, Ok, Err, arith, rules}
use Rattle.std.proofs.lemmas.Result.{err_from_is_err_and}
use Rattle.archive_shape_layout.proofs.Joined.{written_none}
use Rattle.cabinet_text_grammar.specs.Spelling.{escaped, escaped_byte}
use Rattle.cabinet_text_nodes.proofs.Pieces.{written_as}
use Rattle.cabinet_archives.specs.MapLines.{cut, left_after}
use Rattle.cabinet_archives.proofs.CutTexts.{byte_alone, key_next, key_done, left_then, none_then, cut_written, cut_failed, cut_appends}
use Rattle.cabinet_archives.proofs.mapping.cut.write_key.Given.{Over}
use Rattle.cabinet_archives.proofs.mapping.cut.write_key.Goals as goal
use Rattle.cabinet_archives.proofs.mapping.cut.write_key.Goals.{After-write_piece, in-92, in-10, in-32, in_default}

-- the piece is the escaped form of the byte
piece_is : (g : Over) (c : After-write_piece g) → c.match-byte.piece.now ≡ escaped_byte (get_or c.args.key.now c.loop-at.at 0)
piece_is g c =
    elim c.match-byte.branch [
      | in-92 w ↦ rw (w.piece-is, w.in-92.is) refl
      | in-10 w ↦ rw (w.piece-is, w.in-10.is) refl
      | in-32 w ↦ rw (w.piece-is, w.in-32.is) refl
      | in_default w ↦
          let b = get_or c.args.key.now c.loop-at.at 0 in
          let plain : escaped_byte b ≡ b ∷ [] = search rules in
          rw w.piece-is (byte_alone c.args.key.now c.loop-at.at c.loop-at-test.true ∙ sym plain)
    ]

next_is : (g : Over) (c : After-write_piece g)
    → escaped c.args.key.now ≡ (c.loop-at.invariant.0 ++ c.match-byte.piece.now) ++ escaped (drop (c.loop-at.at + 1) c.args.key.now)
next_is g c = rw (piece_is g c) (key_next c.args.key.now c.loop-at.invariant.0 c.loop-at.at c.loop-at-test.true c.loop-at.invariant.1)

pub loop-at-init : goal.loop-at-init
unfolding cut left_after
loop-at-init g c = ([], refl, refl, written_none c.args.writer.now)

pub returns-in_err-rest-clause-written : goal.returns-in_err-rest-clause-written
returns-in_err-rest-clause-written g c =
    let p = err_from_is_err_and c.from_residual.result c.from_residual.ensures.1 in
    let i = c.loop-at.invariant in
    let piece = c.match-byte.piece.now in
    let failed =
    cut_appends {A = Option ℕ} c.write_piece.new.writer c.args.left c.loop-at.more i.0 piece (Err c.in_err-rest.field-0.0) i.2 i.3
    c.in_err-rest.ensures.written in
    rw (p.1, p.2, next_is g (goal.at.returns-in_err-rest-clause-written g c).After-write_piece)
    (cut_failed c.args.left (i.0 ++ piece) _ failed)

pub returns-in-None-clause-written : goal.returns-in-None-clause-written
returns-in-None-clause-written g c =
    let i = c.loop-at.invariant in
    let piece = c.match-byte.piece.now in
    let none = rw c.in-None.is at c.in_ok-rest.ensures.left in
    let written =
    cut_appends c.write_piece.new.writer c.args.left c.loop-at.more i.0 piece (Ok c.in_ok-rest.field-0) i.2 i.3
    c.in_ok-rest.ensures.written in
    rw (next_is g (goal.at.returns-in-None-clause-written g c).After-write_piece)
    (cut_written c.args.left (i.0 ++ piece) _ (left_then c.args.left c.loop-at.more i.0 piece i.2 none) written)

pub returns-in-None-clause-left : goal.returns-in-None-clause-left
returns-in-None-clause-left g c =
    let i = c.loop-at.invariant in
    let piece = c.match-byte.piece.now in
    let none = rw c.in-None.is at c.in_ok-rest.ensures.left in
    rw (next_is g (goal.at.returns-in-None-clause-left g c).After-write_piece)
    (none_then c.args.left (i.0 ++ piece) _ (left_then c.args.left c.loop-at.more i.0 piece i.2 none))

pub loop-at-preserved : goal.loop-at-preserved
loop-at-preserved g c =
    let i = c.loop-at.invariant in
    let piece = c.match-byte.piece.now in
    let some = rw c.in-Some.is at c.in_ok-rest.ensures.left in
    let written =
    cut_appends c.write_piece.new.writer c.args.left c.loop-at.more i.0 piece (Ok c.in_ok-rest.field-0) i.2 i.3
    c.in_ok-rest.ensures.written in (
      i.0 ++ piece,
      next_is g (goal.at.loop-at-preserved g c).After-write_piece,
      left_then c.args.left c.loop-at.more i.0 piece i.2 some,
      written,
    )

pub returns-clause-written : goal.returns-clause-written
returns-clause-written g c =
    let i = c.loop-at.invariant in
    let whole = key_done c.args.key.now i.0 c.loop-at.at (omega (arith, c.loop-at-test.false)) i.1 in
    written_as (ap (cut c.args.left) (sym whole)) i.3

pub returns-clause-left : goal.returns-clause-left
returns-clause-left g c =
    let i = c.loop-at.invariant in
    let whole = key_done c.args.key.now i.0 c.loop-at.at (omega (arith, c.loop-at-test.false)) i.1 in
    i.2 ∙ ap (left_after c.args.left) (sym whole)
