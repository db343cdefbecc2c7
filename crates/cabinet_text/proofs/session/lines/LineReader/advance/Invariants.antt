use Rattle.std.proofs.Common.{◌≡◌, ℕ, ◌+◌, ◌-◌, ◌≤◌, List, ◌++◌, length, false}
use Rattle.std.specs.Prelude.{IsTrue}
use Rattle.cabinet_text.specs.LineReading.{IsAt}
use Rattle.cabinet_text.specs.LineSteps.{bytes_between, Progress}
use Rattle.cabinet_text.proofs.session.lines.LineReader.advance.Given as goal

abbrev pub invariant-loop-end : goal.invariant-loop-end
invariant-loop-end g l = record {
  quiet : g.R.Source.failures l.reader ≡ g.R.Source.failures l.fn.reader;
  next_in : l.self-inside.next ≤ l.self-inside.len;
  len_in : l.self-inside.len ≤ 16384;
  start_in : l.self-inside.start ≤ l.self-inside.end;
  end_in : l.self-inside.end ≤ 16384;
  goes_on : l.self-inside.ended ≡ false;
  grown : l.fn.self.total + length l.self-inside.begun.line.items ≤ l.self-inside.begun.total;
  progress : IsTrue g.R.Source.OBSERVABLE → (input : List ℕ) (lines : ℕ) → IsAt input (g.R.Source.left l.fn.reader) lines l.fn.self
      → Progress input lines l.self-inside.begun.line.items l.self-inside.begun.total
      (bytes_between l.self-inside.next l.self-inside.len l.self-inside.piece ++ g.R.Source.left l.reader);
}

abbrev pub decreases-loop-end : goal.decreases-loop-end
decreases-loop-end g l = 4294983680 - (l.self-inside.begun.total + (l.self-inside.len - l.self-inside.next))
