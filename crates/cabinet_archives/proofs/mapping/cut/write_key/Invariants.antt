use Rattle.std.proofs.Common.{◌≡◌, ◌++◌, List, ℕ, drop, Some}
use Rattle.archive_shape_layout.specs.Writing.{Written}
use Rattle.cabinet_text_grammar.specs.Spelling.{escaped}
use Rattle.cabinet_archives.specs.MapLines.{cut, left_after}
use Rattle.cabinet_archives.proofs.mapping.cut.write_key.Given as goal

-- the bytes of the key before one are written
abbrev pub invariant-loop-at : goal.invariant-loop-at
invariant-loop-at g l =
    let w = g.W.Writer in
    (done : List ℕ)
    × (escaped l.fn.key ≡ done ++ escaped (drop l.at l.fn.key))
    × (Some l.more ≡ left_after l.fn.left done)
    × Written w.OBSERVABLE w.COUNTS w.contents g.W.Positional.pos w.failures w.last_error g.W.Registry.known l.fn.writer l.writer (cut l.fn.left done)
