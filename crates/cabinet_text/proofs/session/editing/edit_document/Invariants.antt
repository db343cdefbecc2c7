use Rattle.std.proofs.Common.{◌≡◌, ◌-◌, ◌≤◌}
use Rattle.std.specs.Prelude.{IsTrue}
use Rattle.cabinet_text.specs.LineReading.{IsAt}
use Rattle.cabinet_text.specs.Session.{edit_lines}
use Rattle.cabinet_text.specs.Working.{AnswersAsDocument, LeftByLines}
use Rattle.cabinet_text.proofs.session.editing.edit_document.Given as goal

abbrev pub invariant-loop-count : goal.invariant-loop-count
invariant-loop-count g l = record {
  reader_quiet : g.R.Source.failures l.reader ≡ g.R.Source.failures l.fn.reader;
  writer_quiet : g.W.Writer.failures l.writer ≡ g.W.Writer.failures l.fn.writer;
  edits_within : l.count.edits ≤ l.count.lines;
  lines_within : l.count.lines ≤ l.lines.total;
  within : l.lines.total ≤ 4294967295;
  left : LeftByLines edit_lines (λ t. l.document ≡ t) l.fn.document l.count.lines l.count.edits;
  answered : IsTrue g.R.Source.OBSERVABLE → IsTrue g.W.Writer.OBSERVABLE
      → AnswersAsDocument edit_lines (λ t. l.document ≡ t) l.fn.document (g.R.Source.left l.fn.reader)
      (g.W.Writer.contents l.fn.writer) (g.W.Writer.contents l.writer) l.count.lines l.count.edits;
  at : IsTrue g.R.Source.OBSERVABLE → IsAt (g.R.Source.left l.fn.reader) (g.R.Source.left l.reader) l.count.lines l.lines;
}

abbrev pub decreases-loop-count : goal.decreases-loop-count
decreases-loop-count g l = 4294967296 - l.lines.total
