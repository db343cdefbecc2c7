use Rattle.std.proofs.Common.{◌+◌, arith, rules}
use Rattle.cabinet_text_bytes.proofs.Runs.{longer_run, empty_run, written_more, failed_among_runs, appends_last}
use Rattle.cabinet_text_bytes.proofs.writing.write_escaped.Goals as goal
use Rattle.cabinet_text_bytes.proofs.writing.write_escaped.Goals.{in-Some+in_ok-write_two_pieces, in_default}

pub returns-in_err-write_two_pieces : goal.returns-in_err-write_two_pieces
returns-in_err-write_two_pieces g c =
    let i = c.loop-end.invariant in
    let h = failed_among_runs c.args.text.now _ c.loop-end.start c.loop-end.end c.loop-end-test.true c.in-Some.ensures i.is_run i.written c.in_err-write_two_pieces.ensures in
    search rules

pub loop-end-preserved : goal.loop-end-preserved
loop-end-preserved g c =
    let text = c.args.text.now in
    let start = c.loop-end.start in
    let end = c.loop-end.end in
    let i = c.loop-end.invariant in
    elim c.match-escape_of.branch [
      | in-Some+in_ok-write_two_pieces w ↦
          rw (w.start-is, w.writer-is) (record {
            below = omega arith;
            written = written_more text _ start end c.loop-end-test.true w.in-Some.ensures i.is_run i.written w.in_ok-write_two_pieces.ensures;
            is_run = empty_run text (end + 1);
          })
      | in_default w ↦
          rw (w.start-is, w.writer-is) (record {
            below = omega arith;
            written = i.written;
            is_run = longer_run text start end i.below c.loop-end-test.true w.in_default.ensures i.is_run;
          })
    ]

pub returns : goal.returns
returns g c =
    let i = c.loop-end.invariant in
    appends_last _ c.args.text.now c.loop-end.start c.loop-end.end c.write.result (omega arith) i.is_run i.written c.write.ensures
