use Rattle.std.proofs.Common.{◌≡◌}
use Rattle.cabinet_archives.proofs.CutTexts.{IsPassed}
use Rattle.cabinet_archives.proofs.mapping.cut.write_piece.Given as goal

-- the bytes before the end are passed, and nothing is written
abbrev pub invariant-loop-end : goal.invariant-loop-end
invariant-loop-end g l = record {
  quiet : l.writer ≡ l.fn.writer;
  passed : IsPassed l.fn.piece l.fn.left l.more l.end;
}
