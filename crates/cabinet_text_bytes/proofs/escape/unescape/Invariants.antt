use Rattle.std.proofs.Common.{◌≡◌, ◌++◌, length}
use Rattle.cabinet_text_grammar.specs.Spelling.{escaped}
use Rattle.cabinet_text_bytes.proofs.escape.unescape.Given as goal

abbrev pub invariant-loop-text : goal.invariant-loop-text
invariant-loop-text l = l.argument ≡ escaped l.text.items ++ l.rest

abbrev pub decreases-loop-text : goal.decreases-loop-text
decreases-loop-text l = length l.rest
