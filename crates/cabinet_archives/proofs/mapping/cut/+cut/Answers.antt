use Rattle.std.proofs.Common.{◌∙◌, ◌++◌, refl, ap, codes}
use Rattle.std.specs.Fmt.{decimal}
use Rattle.std.proofs.lemmas.Result.{err_from_is_err_and}
use Rattle.archive_shape_layout.proofs.Joined.{written_none}
use Rattle.cabinet_text_grammar.specs.Line.{spelled_path}
use Rattle.cabinet_text_grammar.specs.Spelling.{escaped}
use Rattle.cabinet_archives.specs.MapLines.{cut, left_after}
use Rattle.cabinet_archives.specs.MapPaths.{path_of}
use Rattle.cabinet_archives.proofs.CutTexts.{left_if_ok, none_then, cut_written, cut_failed, cut_appends}
use Rattle.cabinet_archives.proofs.SpelledPaths.{spelled_last, signed_last}
use Rattle.cabinet_archives.proofs.mapping.cut.+cut.Goals as goal

pub write_sign-returns-in_err-left-clause-written : goal.write_sign-returns-in_err-left-clause-written
write_sign-returns-in_err-left-clause-written g t c =
    let p = err_from_is_err_and c.from_residual.result c.from_residual.ensures.1 in
    rw (p.1, p.2) (cut_failed c.args.most (spelled_path (path_of c.args.path.now)) c.args.sign.now c.in_err-left.ensures.written)

pub write_sign-returns-in-Some-clause-written : goal.write_sign-returns-in-Some-clause-written
write_sign-returns-in-Some-clause-written g t c =
    let before = spelled_path (path_of c.args.path.now) in
    let some = rw c.in-Some.is at c.in_ok-left.ensures.left in
    cut_appends c.write_piece.new.writer c.args.most c.in-Some.left before c.args.sign.now c.write_piece.result some
    c.in_ok-left.ensures.written c.write_piece.ensures.written

pub write_sign-returns-in-Some-clause-left : goal.write_sign-returns-in-Some-clause-left
write_sign-returns-in-Some-clause-left g t c =
    let before = spelled_path (path_of c.args.path.now) in
    let some = rw c.in-Some.is at c.in_ok-left.ensures.left in
    left_if_ok c.args.most c.in-Some.left before c.args.sign.now c.write_piece.result some c.write_piece.ensures.left

pub write_sign-returns-in-None-clause-written : goal.write_sign-returns-in-None-clause-written
write_sign-returns-in-None-clause-written g t c =
    let none = rw c.in-None.is at c.in_ok-left.ensures.left in
    cut_written c.args.most (spelled_path (path_of c.args.path.now)) c.args.sign.now none c.in_ok-left.ensures.written

pub write_sign-returns-in-None-clause-left : goal.write_sign-returns-in-None-clause-left
write_sign-returns-in-None-clause-left g t c =
    let none = rw c.in-None.is at c.in_ok-left.ensures.left in
    none_then c.args.most (spelled_path (path_of c.args.path.now)) c.args.sign.now none

pub write_cut-returns-in-Root-clause-written : goal.write_cut-returns-in-Root-clause-written
unfolding cut
write_cut-returns-in-Root-clause-written g t c = rw c.in-Root.is (written_none c.args.writer.now)

pub write_cut-returns-in-Root-clause-left : goal.write_cut-returns-in-Root-clause-left
unfolding left_after
write_cut-returns-in-Root-clause-left g t c = rw c.in-Root.is refl

pub write_cut-returns-in_err-left-in-Key-clause-written : goal.write_cut-returns-in_err-left-in-Key-clause-written
write_cut-returns-in_err-left-in-Key-clause-written g t c =
    let p = err_from_is_err_and c.from_residual.result c.from_residual.ensures.1 in
    let before = spelled_path (path_of c.in-Key.outer.now) ++ codes " '" in
    let is = ap (λ x. spelled_path (path_of x)) c.in-Key.is ∙ signed_last _ _ (codes " '") (escaped c.in-Key.key.now) refl in
    rw (p.1, p.2, is) (cut_failed c.args.most before (escaped c.in-Key.key.now) c.in_err-left-in-Key.ensures.written)

pub write_cut-returns-in-Some-clause-written : goal.write_cut-returns-in-Some-clause-written
write_cut-returns-in-Some-clause-written g t c =
    let before = spelled_path (path_of c.in-Key.outer.now) ++ codes " '" in
    let is = ap (λ x. spelled_path (path_of x)) c.in-Key.is ∙ signed_last _ _ (codes " '") (escaped c.in-Key.key.now) refl in
    let some = rw c.in-Some.is at c.in_ok-left-in-Key.ensures.left in
    let text = rw (c.as_bytes.ensures.value) at c.write_key.ensures.written in
    rw is (cut_appends c.write_key.new.writer c.args.most c.in-Some.left before (escaped c.in-Key.key.now) c.write_key.result some
    c.in_ok-left-in-Key.ensures.written text)

pub write_cut-returns-in-Some-clause-left : goal.write_cut-returns-in-Some-clause-left
write_cut-returns-in-Some-clause-left g t c =
    let before = spelled_path (path_of c.in-Key.outer.now) ++ codes " '" in
    let is = ap (λ x. spelled_path (path_of x)) c.in-Key.is ∙ signed_last _ _ (codes " '") (escaped c.in-Key.key.now) refl in
    let some = rw c.in-Some.is at c.in_ok-left-in-Key.ensures.left in
    let left = rw (c.as_bytes.ensures.value) at c.write_key.ensures.left in
    rw is (left_if_ok c.args.most c.in-Some.left before (escaped c.in-Key.key.now) c.write_key.result some left)

pub write_cut-returns-in-None-clause-written : goal.write_cut-returns-in-None-clause-written
write_cut-returns-in-None-clause-written g t c =
    let before = spelled_path (path_of c.in-Key.outer.now) ++ codes " '" in
    let is = ap (λ x. spelled_path (path_of x)) c.in-Key.is ∙ signed_last _ _ (codes " '") (escaped c.in-Key.key.now) refl in
    let none = rw c.in-None.is at c.in_ok-left-in-Key.ensures.left in
    rw is (cut_written c.args.most before (escaped c.in-Key.key.now) none c.in_ok-left-in-Key.ensures.written)

pub write_cut-returns-in-None-clause-left : goal.write_cut-returns-in-None-clause-left
write_cut-returns-in-None-clause-left g t c =
    let before = spelled_path (path_of c.in-Key.outer.now) ++ codes " '" in
    let is = ap (λ x. spelled_path (path_of x)) c.in-Key.is ∙ signed_last _ _ (codes " '") (escaped c.in-Key.key.now) refl in
    let none = rw c.in-None.is at c.in_ok-left-in-Key.ensures.left in
    rw is (none_then c.args.most before (escaped c.in-Key.key.now) none)

pub write_cut-returns-in_err-left-in-Place-clause-written : goal.write_cut-returns-in_err-left-in-Place-clause-written
write_cut-returns-in_err-left-in-Place-clause-written g t c =
    let p = err_from_is_err_and c.from_residual-in_err-left-in-Place.result c.from_residual-in_err-left-in-Place.ensures.1 in
    let before = spelled_path (path_of c.in-Place.outer.now) ++ codes " #" in
    let is = ap (λ x. spelled_path (path_of x)) c.in-Place.is ∙ signed_last _ _ (codes " #") (decimal c.in-Place.place) refl in
    rw (p.1, p.2, is) (cut_failed c.args.most before (decimal c.in-Place.place) c.in_err-left-in-Place.ensures.written)

pub write_cut-returns-in-Some-2-clause-written : goal.write_cut-returns-in-Some-2-clause-written
write_cut-returns-in-Some-2-clause-written g t c =
    let before = spelled_path (path_of c.in-Place.outer.now) ++ codes " #" in
    let is = ap (λ x. spelled_path (path_of x)) c.in-Place.is ∙ signed_last _ _ (codes " #") (decimal c.in-Place.place) refl in
    let some = rw c.in-Some-2.is at c.in_ok-left-in-Place.ensures.left in
    let text = rw (c.as_bytes-in-Some-2.ensures, c.unsigned.ensures) at c.write_piece.ensures.written in
    rw is (cut_appends c.write_piece.new.writer c.args.most c.in-Some-2.left before (decimal c.in-Place.place) c.write_piece.result some
    c.in_ok-left-in-Place.ensures.written text)

pub write_cut-returns-in-Some-2-clause-left : goal.write_cut-returns-in-Some-2-clause-left
write_cut-returns-in-Some-2-clause-left g t c =
    let before = spelled_path (path_of c.in-Place.outer.now) ++ codes " #" in
    let is = ap (λ x. spelled_path (path_of x)) c.in-Place.is ∙ signed_last _ _ (codes " #") (decimal c.in-Place.place) refl in
    let some = rw c.in-Some-2.is at c.in_ok-left-in-Place.ensures.left in
    let left = rw (c.as_bytes-in-Some-2.ensures, c.unsigned.ensures) at c.write_piece.ensures.left in
    rw is (left_if_ok c.args.most c.in-Some-2.left before (decimal c.in-Place.place) c.write_piece.result some left)

pub write_cut-returns-in-None-2-clause-written : goal.write_cut-returns-in-None-2-clause-written
write_cut-returns-in-None-2-clause-written g t c =
    let before = spelled_path (path_of c.in-Place.outer.now) ++ codes " #" in
    let is = ap (λ x. spelled_path (path_of x)) c.in-Place.is ∙ signed_last _ _ (codes " #") (decimal c.in-Place.place) refl in
    let none = rw c.in-None-2.is at c.in_ok-left-in-Place.ensures.left in
    rw is (cut_written c.args.most before (decimal c.in-Place.place) none c.in_ok-left-in-Place.ensures.written)

pub write_cut-returns-in-None-2-clause-left : goal.write_cut-returns-in-None-2-clause-left
write_cut-returns-in-None-2-clause-left g t c =
    let before = spelled_path (path_of c.in-Place.outer.now) ++ codes " #" in
    let is = ap (λ x. spelled_path (path_of x)) c.in-Place.is ∙ signed_last _ _ (codes " #") (decimal c.in-Place.place) refl in
    let none = rw c.in-None-2.is at c.in_ok-left-in-Place.ensures.left in
    rw is (none_then c.args.most before (decimal c.in-Place.place) none)

pub write_cut-returns-in-Inside-clause-written : goal.write_cut-returns-in-Inside-clause-written
write_cut-returns-in-Inside-clause-written g t c =
    let is = ap (λ x. spelled_path (path_of x)) c.in-Inside.is ∙ spelled_last _ _ in
    rw is c.write_sign-in-Inside.ensures.written

pub write_cut-returns-in-Inside-clause-left : goal.write_cut-returns-in-Inside-clause-left
write_cut-returns-in-Inside-clause-left g t c =
    let is = ap (λ x. spelled_path (path_of x)) c.in-Inside.is ∙ spelled_last _ _ in
    rw is c.write_sign-in-Inside.ensures.left
