use Rattle.std.proofs.Common.{◌≡◌, ◌∷◌, ◌≤◌, length, refl, sym, ap, subst, ◌∙◌, arith}
use Rattle.cabinet_text.specs.Input.{longest_line}
use Rattle.cabinet_text.specs.LineReading.{IsAt}
use Rattle.cabinet_text.specs.Session.{lines_in_place}
use Rattle.cabinet_text.proofs.EditLines.{starts}
use Rattle.cabinet_text.proofs.Sessions.{when_true, when_false, all_said}
use Rattle.cabinet.proofs.Sessions.{none_edited, none_carried, carried_before}
use Rattle.cabinet.proofs.session.run.Goals as goal

pub loop-count-init : goal.loop-count-init
loop-count-init g c =
    let total : c.new-lines.result.total ≡ 0 = ap (λ l. l.total) c.new-lines.ensures in
    record {
      same = refl;
      reader_quiet = refl;
      writer_quiet = refl;
      edits_within = omega arith;
      lines_within = omega arith;
      within = omega (arith, total);
      edited = none_edited c.args.opened.now.bytes.now;
      carried = λ r w. none_carried _ _ _;
      at = λ r. subst (IsAt _ _ 0) (sym c.new-lines.ensures) (starts _);
    }

pub returns-in-Ok-false-clause-all : goal.returns-in-Ok-false-clause-all
returns-in-Ok-false-clause-all g c = λ r w.
    let i = c.loop-count.invariant in
    let a = i.carried r w in
    let none = when_false _ _ _ c.in-Ok-false.field-0-test (c.in-Ok-false.ensures.found r _ _ (i.at r)) in
    record {
      carried = a;
      all = all_said lines_in_place (g.R.Source.left c.args.reader.now) a.said _ a.say a.count none.none;
      short = none.short;
    }

pub returns-in-Err-clause-fault : goal.returns-in-Err-clause-fault
returns-in-Err-clause-fault g c = λ r w.
    let i = c.loop-count.invariant in
    let e = c.after.ensures in
    let carried = carried_before g.W.Writer.COUNTS _ _ _ _ _ _ _ c.in-Err.cause c.in-Err.ensures.not_write (i.carried r w) in
    rw (e.cause, e.lines, e.edits) (carried, c.in-Err.ensures.found r _ _ (i.at r))

pub loop-count-preserved : goal.loop-count-preserved
loop-count-preserved g c =
    let i = c.loop-count.invariant in
    let e = c.in-Ok.ensures in
    let longer = c.in-Ok-true.ensures.counted c.in-Ok-true.field-0-test in
    let short = subst (λ l. length l ≤ longest_line) (sym c.line.ensures) c.in-Ok-true.ensures.short in
    record {
      same = e.same ∙ i.same;
      reader_quiet = c.in-Ok-true.ensures.reader_fails ∙ i.reader_quiet;
      writer_quiet = e.writer_fails ∙ i.writer_quiet;
      edits_within = e.edits_within;
      lines_within = omega (arith, e.line_counted, longer, i.lines_within);
      within = c.advance.ensures.within;
      edited = e.edits _ i.edited;
      carried = λ r w.
          let n = when_true _ _ _ c.in-Ok-true.field-0-test (c.in-Ok-true.ensures.found r _ _ (i.at r)) in
          let next = n.next ∙ ap (λ l. l ∷ n.later) (sym c.line.ensures) in
          e.carried w _ _ _ (g.R.Source.left c.advance.new.reader) n.later (i.carried r w) next short;
      at = λ r.
          let n = when_true _ _ _ c.in-Ok-true.field-0-test (c.in-Ok-true.ensures.found r _ _ (i.at r)) in
          rw e.line_counted n.behind;
    }

pub returns-in-Err-answer_line-clause-fault : goal.returns-in-Err-answer_line-clause-fault
returns-in-Err-answer_line-clause-fault g c = λ r w.
    let i = c.loop-count.invariant in
    let e = c.after-in-Err-answer_line.ensures in
    let n = when_true _ _ _ c.in-Ok-true.field-0-test (c.in-Ok-true.ensures.found r _ _ (i.at r)) in
    let next = n.next ∙ ap (λ l. l ∷ n.later) (sym c.line.ensures) in
    let short = subst (λ l. length l ≤ longest_line) (sym c.line.ensures) c.in-Ok-true.ensures.short in
    rw (e.cause, e.lines, e.edits)
    (c.in-Err-answer_line.ensures.carried w _ _ _ (g.R.Source.left c.advance.new.reader) n.later (i.carried r w) next short)
