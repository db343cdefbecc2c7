use Rattle.std.proofs.Common.{◌≡◌, ◌-◌, ◌≤◌}
use Rattle.std.specs.Prelude.{IsTrue}
use Rattle.cabinet_text.specs.LineReading.{IsAt}
use Rattle.cabinet.specs.Editing.{EditedByLines}
use Rattle.cabinet.specs.Steps.{Carried}
use Rattle.cabinet.proofs.session.run.Given as goal

abbrev pub invariant-loop-count : goal.invariant-loop-count
invariant-loop-count g l = record {
  same : l.opened.bytes.ghost_name ≡ l.fn.opened.bytes.ghost_name;
  reader_quiet : g.R.Source.failures l.reader ≡ g.R.Source.failures l.fn.reader;
  writer_quiet : g.W.Writer.failures l.writer ≡ g.W.Writer.failures l.fn.writer;
  edits_within : l.count.edits ≤ l.count.lines;
  lines_within : l.count.lines ≤ l.lines.total;
  within : l.lines.total ≤ 4294967295;
  edited : EditedByLines l.fn.opened.bytes.now l.opened.bytes.now l.count.lines l.count.edits;
  carried : IsTrue g.R.Source.OBSERVABLE → IsTrue g.W.Writer.OBSERVABLE
      → Carried (g.R.Source.left l.fn.reader) l.fn.opened.bytes.now l.opened.bytes.now (g.W.Writer.contents l.fn.writer)
      (g.W.Writer.contents l.writer) l.count.lines l.count.edits;
  at : IsTrue g.R.Source.OBSERVABLE → IsAt (g.R.Source.left l.fn.reader) (g.R.Source.left l.reader) l.count.lines l.lines;
}

abbrev pub decreases-loop-count : goal.decreases-loop-count
decreases-loop-count g l = 4294967296 - l.lines.total
