use Rattle.std.proofs.Common.{All}
use Rattle.archive_forms_values.specs.Parts.{HasValue}
use Rattle.archive_index.proofs.map.debug.ArchivedIndexMapArchivedDebug.fmt.Given as goal

-- the entries that are left have values
abbrev pub invariant-loop-key : goal.invariant-loop-key
invariant-loop-key g l = All (λ e. HasValue g.K.Portable.shape g.K.Portable.knows e.0.bytes.now e.0.pos × HasValue g.V.Portable.shape g.V.Portable.knows e.1.bytes.now e.1.pos) l.key-iterator
