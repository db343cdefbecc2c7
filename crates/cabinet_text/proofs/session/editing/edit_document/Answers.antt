use Rattle.std.proofs.Common.{◌≡◌, ◌≤◌, refl, sym, ap, subst, ◌∙◌, ◌∷◌, length, arith}
use Rattle.cabinet_text_grammar.specs.EditLine.{SaysEdit}
use Rattle.cabinet_text.specs.Input.{longest_line}
use Rattle.cabinet_text.specs.LineReading.{IsAt}
use Rattle.cabinet_text.specs.Session.{edit_lines}
use Rattle.cabinet_text.proofs.EditLines.{starts, line_fault, line_left}
use Rattle.cabinet_text.proofs.Sessions.{when_true, when_false, none_answered, one_more_answered, before_fault, all_said, none_left, one_more_left}
use Rattle.cabinet_text.proofs.session.editing.edit_document.Goals as goal

pub loop-count-init : goal.loop-count-init
loop-count-init g c =
    let total : c.new-lines.result.total ≡ 0 = ap (λ l. l.total) c.new-lines.ensures in
    record {
      reader_quiet = refl;
      writer_quiet = refl;
      edits_within = omega arith;
      lines_within = omega arith;
      within = omega (arith, total);
      left = none_left edit_lines c.args.document.now;
      answered = λ r w. none_answered edit_lines c.args.document.now _ _ (λ t. c.args.document.now ≡ t) refl;
      at = λ r. subst (IsAt _ _ 0) (sym c.new-lines.ensures) (starts _);
    }

pub returns-in-Ok-false-clause-works : goal.returns-in-Ok-false-clause-works
returns-in-Ok-false-clause-works g c = λ r w.
    let i = c.loop-count.invariant in
    let a = i.answered r w in
    let none = when_false _ _ _ c.in-Ok-false.field-0-test (c.in-Ok-false.ensures.found r _ _ (i.at r)) in
    (a, all_said edit_lines (g.R.Source.left c.args.reader.now) a.said _ a.say a.count none.none, none.short)

pub returns-in-Err-clause-works : goal.returns-in-Err-clause-works
returns-in-Err-clause-works g c = λ r w.
    let i = c.loop-count.invariant in
    let e = c.after.ensures in
    let answered = before_fault edit_lines _ g.W.Writer.COUNTS _ _ _ _ _ _ c.in-Err.cause c.in-Err.ensures.not_write (i.answered r w) in
    rw (e.cause, e.lines, e.edits) (answered, c.in-Err.ensures.found r _ _ (i.at r))

pub loop-count-preserved : goal.loop-count-preserved
loop-count-preserved g c =
    let i = c.loop-count.invariant in
    let a = c.in-Ok.ensures.answered in
    let longer = c.in-Ok-true.ensures.counted c.in-Ok-true.field-0-test in
    let left = one_more_left edit_lines _ _ _ _ _ _ _ a.0 i.left a.1.says a.1.document a.1.edits in
    record {
      reader_quiet = c.in-Ok-true.ensures.reader_fails ∙ i.reader_quiet;
      writer_quiet = a.2.is_quiet ∙ i.writer_quiet;
      edits_within = c.answer_line.ensures.edits_within;
      lines_within = omega (arith, a.1.lines, longer, i.lines_within);
      within = c.advance.ensures.within;
      left = rw a.1.lines left;
      answered = λ r w.
          let n = when_true _ _ _ c.in-Ok-true.field-0-test (c.in-Ok-true.ensures.found r _ _ (i.at r)) in
          let says = subst (λ l. SaysEdit l a.0) c.line.ensures a.1.says in
          rw a.1.lines
          (one_more_answered edit_lines _ _ _ _ _ _ _ _ _ _ n.later a.0 (i.answered r w) n.next c.in-Ok-true.ensures.short says a.1.document a.1.edits
          _ (a.2.gains w));
      at = λ r. let n = when_true _ _ _ c.in-Ok-true.field-0-test (c.in-Ok-true.ensures.found r _ _ (i.at r)) in rw a.1.lines n.behind;
    }

pub returns-in-Err-answer_line-clause-works : goal.returns-in-Err-answer_line-clause-works
returns-in-Err-answer_line-clause-works g c = λ r w.
    let i = c.loop-count.invariant in
    let e = c.after-in-Err-answer_line.ensures in
    let n = when_true _ _ _ c.in-Ok-true.field-0-test (c.in-Ok-true.ensures.found r _ _ (i.at r)) in
    let next = n.next ∙ ap (λ l. l ∷ n.later) (sym c.line.ensures) in
    let short = subst (λ l. length l ≤ longest_line) (sym c.line.ensures) c.in-Ok-true.ensures.short in
    rw (e.cause, e.lines, e.edits)
    (line_fault (record {
      known = g.W.Registry.known;
      pos = g.W.Positional.pos;
      OBSERVABLE = g.W.Writer.OBSERVABLE;
      COUNTS = g.W.Writer.COUNTS;
      contents = g.W.Writer.contents;
      failures = g.W.Writer.failures;
      last_error = g.W.Writer.last_error;
    }) _ _ _ _ _ _ _ _ c.in-Err-answer_line.cause c.in-Err-answer_line.ensures.answered w _ _ _ n.later (i.answered r w) next short)

pub returns-in-Err-answer_line-clause-edits : goal.returns-in-Err-answer_line-clause-edits
returns-in-Err-answer_line-clause-edits g c =
    let i = c.loop-count.invariant in
    let e = c.after-in-Err-answer_line.ensures in
    rw (e.lines, e.edits) (line_left (record {
      known = g.W.Registry.known;
      pos = g.W.Positional.pos;
      OBSERVABLE = g.W.Writer.OBSERVABLE;
      COUNTS = g.W.Writer.COUNTS;
      contents = g.W.Writer.contents;
      failures = g.W.Writer.failures;
      last_error = g.W.Writer.last_error;
    }) _ _ _ _ _ _ _ _ c.in-Err-answer_line.cause c.in-Err-answer_line.ensures.answered i.left)
