use Rattle.std.proofs.Common.{All}
use Rattle.archive_forms_values.specs.Parts.{HasValue}
use Rattle.archive_index.proofs.set.debug.fmt_keys.Given as goal

abbrev pub invariant-loop-key : goal.invariant-loop-key
invariant-loop-key g l = All (λ r. HasValue g.K.Portable.shape g.K.Portable.knows r.bytes.now r.pos) l.key-iterator
