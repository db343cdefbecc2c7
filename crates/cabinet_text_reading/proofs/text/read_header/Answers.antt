use Rattle.std.proofs.Common.{◌≡◌, ℕ, IsUtf8, Some, codes, refl, sym, ◌∙◌, subst, arith}
use Rattle.std.proofs.lemmas.Result.{err_from_is_err_and}
use Rattle.cabinet_text_grammar.specs.Due.{the_start}
use Rattle.cabinet_text_reading.proofs.Header.{first_line_fault, no_count, no_header, no_word, has_word, wholes_begin}
use Rattle.cabinet_text_reading.proofs.Heads.{after_word, not_after_word}
use Rattle.cabinet_text_reading.proofs.text.read_header.Goals as goal
use Rattle.cabinet_text_reading.proofs.text.read_header.Goals.{in-Some, in-None, in_default-via-in-Some-count+else-count-gt0, in_default-via-in_default}

pub returns-then-is_none-clause-none : goal.returns-then-is_none-clause-none
returns-then-is_none-clause-none c zero =
    (c.new-lines.ensures, not_after_word _ _ _ (codes "wholes ") refl c.as_slice.ensures (no_word _ _ _ c.after_prefix.result c.is_none.ensures c.if-is_none.true c.after_prefix.ensures))

pub returns-in_err-line-clause-fault : goal.returns-in_err-line-clause-fault
returns-in_err-line-clause-fault c =
    let p = err_from_is_err_and c.from_residual.result c.from_residual.ensures.1 in
    let first = c.in_err-line.ensures.fault the_start (λ same. cc) in
    rw (p.1, p.2, c.in_err-line.ensures.line) (first_line_fault c.args.text.now _ (omega (arith, c.in_err-line.ensures.early)) (rw c.new-lines.ensures at first))

pub returns-in_default-clause-fault : goal.returns-in_default-clause-fault
returns-in_default-clause-fault c =
    let text = c.args.text.now in
    let line = c.in_ok-line.line.now in
    let piece = rw c.new-lines.ensures at c.in_ok-line.ensures.piece in
    let utf8 : IsUtf8 line = subst IsUtf8 c.as_bytes.ensures.value c.as_bytes.ensures.utf8 in
    let zero : (m : ℕ) → c.match-after_prefix.count ≡ Some m → m ≡ 0 = λ m is.
    elim c.in_default.branch [
      | in_default-via-in-Some-count+else-count-gt0 w ↦
          let same : Some m ≡ Some w.in-Some-count.count = sym is ∙ w.in-Some-count.is in
          let equal : m ≡ w.in-Some-count.count = cc in
          omega (arith, equal, w.if-count-gt0.false)
      | in_default-via-in_default w ↦ absurd (w.in_default.not-Some m is)
    ] in
    elim c.match-after_prefix.branch [
      | in-Some w ↦
          no_header text line w.in-Some.digits.now piece utf8 (after_word _ _ _ (codes "wholes ") _ c.as_bytes.ensures.value c.as_slice-2.ensures w.in-Some.ensures)
          (no_count _ w.read_count-count.result w.read_count-count.ensures (λ m is. zero m (w.count-is ∙ is)))
      | in-None w ↦
          let begun = has_word text _ _ c.after_prefix.result c.is_none.ensures c.if-is_none.false c.after_prefix.ensures in
          let tail = wholes_begin text line begun.0 c.in_ok-line.rest (sym c.new-lines.ensures ∙ c.in_ok-line.ensures.parts) (after_word _ _ _ (codes "wholes ") _ refl c.as_slice.ensures begun.1) in
          absurd (not_after_word line _ _ (codes "wholes ") c.as_bytes.ensures.value c.as_slice-2.ensures w.in-None.ensures tail.0 tail.1)
    ]
