use Rattle.std.proofs.Common.{◌≤◌, take}
use Rattle.archive_shape_layout.specs.Writing.{Written}
use Rattle.cabinet_text_grammar.specs.Spelling.{escaped}
use Rattle.cabinet_text_bytes.proofs.Runs.{IsRun}
use Rattle.cabinet_text_bytes.proofs.writing.write_escaped.Given as goal

-- the bytes before `start` were written
abbrev pub invariant-loop-end : goal.invariant-loop-end
invariant-loop-end g l =
    let w = g.W.Writer in
    record {
      below : l.start ≤ l.end;
      written : Written w.OBSERVABLE w.COUNTS w.contents g.W.Positional.pos w.failures w.last_error g.W.Registry.known l.fn.writer l.writer (escaped (take l.start l.text));
      is_run : IsRun l.text l.start l.end;
    }
