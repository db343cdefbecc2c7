use Rattle.std.proofs.Common.{All}
use Rattle.archive_forms_values.specs.Parts.{HasValue}
use Rattle.archive_bench.specs.HashTexts.{text_shape, number_shape, known}
use Rattle.archive_bench.proofs.hash.reads.sum_entries.Given as goal

-- values lie at the entries that are left
abbrev pub invariant-loop-key : goal.invariant-loop-key
invariant-loop-key l = All (λ e. HasValue text_shape known e.0.bytes.now e.0.pos × HasValue number_shape known e.1.bytes.now e.1.pos) l.key-iterator
