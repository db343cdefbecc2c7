use Rattle.std.proofs.Common.{◌≡◌, ◌++◌, List, ℕ}
use Rattle.archive_shape_layout.specs.Writing.{Written}
use Rattle.cabinet_archives.specs.MapLines.{spelled_counts}
use Rattle.cabinet_archives.proofs.CountLines.{words_from}
use Rattle.cabinet_archives.proofs.mapping.summary.write_counts.Given as goal

-- the heading and the lines before that of a word are written
abbrev pub invariant-loop-place : goal.invariant-loop-place
invariant-loop-place g l = let w = g.W.Writer in record {
  done : List ℕ;
  split : l.fn.heading ++ spelled_counts l.fn.counts 0 0 (words_from 0 l.fn.words)
      ≡ done ++ spelled_counts l.fn.counts l.place l.sum (words_from l.place l.fn.words);
  written : Written w.OBSERVABLE w.COUNTS w.contents g.W.Positional.pos w.failures w.last_error g.W.Registry.known l.fn.writer l.writer done;
}
