use Rattle.std.proofs.Common.{length}
use Rattle.cabinet_text_grammar.proofs.Escapes.{HasRead}
use Rattle.cabinet_text_bytes.proofs.escape.count_bytes.Given as goal

abbrev pub invariant-loop-rest : goal.invariant-loop-rest
invariant-loop-rest l = HasRead l.argument l.rest l.len

abbrev pub decreases-loop-rest : goal.decreases-loop-rest
decreases-loop-rest l = length l.rest
