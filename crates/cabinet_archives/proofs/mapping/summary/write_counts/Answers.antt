use Rattle.std.proofs.Common.{◌≡◌, ◌∙◌, ◌++◌, get_or, ap, sym, append_assoc, arith, refl}
use Rattle.std.proofs.lemmas.Result.{err_from_is_err_and}
use Rattle.archive_shape_layout.proofs.Joined.{written_both, failed_first, failed_after, appends_after}
use Rattle.cabinet_archives.proofs.CountLines.{lines_next, lines_end}
use Rattle.cabinet_archives.proofs.mapping.summary.write_counts.Goals as goal

pub loop-place-init : goal.loop-place-init
loop-place-init g c = record { done = c.args.heading.now; split = refl; written = c.in_ok-write.ensures }

pub returns-in_err-write_count : goal.returns-in_err-write_count
returns-in_err-write_count g c =
    let p = err_from_is_err_and c.from_residual-in_err-write_count.result c.from_residual-in_err-write_count.ensures.1 in
    let count : c.unwrap_or-count.result ≡ get_or c.args.counts.now c.loop-place.place 0 =
    rw (c.unwrap_or-count.ensures, c.copied.ensures) (c.get.ensures.lookup.4 (omega arith) 0) in
    let next = lines_next c.args.counts.now c.args.words.now c.loop-place.place c.loop-place.sum c.unwrap_or-count.result _ c.loop-place-test.true count in
    let all = c.loop-place.invariant.split ∙ ap (λ x. c.loop-place.invariant.done ++ x) next in
    rw (p.1, p.2, all) (failed_after c.loop-place.invariant.written (failed_first _ c.in_err-write_count.ensures))

pub loop-place-preserved : goal.loop-place-preserved
loop-place-preserved g c =
    let count : c.unwrap_or-count.result ≡ get_or c.args.counts.now c.loop-place.place 0 =
    rw (c.unwrap_or-count.ensures, c.copied.ensures) (c.get.ensures.lookup.4 (omega arith) 0) in
    let next = lines_next c.args.counts.now c.args.words.now c.loop-place.place c.loop-place.sum c.unwrap_or-count.result _ c.loop-place-test.true count in
    let all = c.loop-place.invariant.split ∙ ap (λ x. c.loop-place.invariant.done ++ x) next in
    record {
      done = _;
      split = rw c.saturating_add-sum.ensures (all ∙ sym (append_assoc c.loop-place.invariant.done _ _));
      written = written_both c.loop-place.invariant.written c.in_ok-write_count.ensures;
    }

pub returns : goal.returns
returns g c =
    let all = lines_end c.args.counts.now c.args.words.now c.loop-place.place c.loop-place.sum c.loop-place-test.false in
    rw (c.loop-place.invariant.split, all) (appends_after c.write_count-2.new.writer _ c.write_count-2.result c.loop-place.invariant.written c.write_count-2.ensures)
