use Rattle.std.proofs.Common.{◌≡◌, ◌++◌, map}
use Rattle.archive_shape_layout.specs.Shape.Shape.{text}
use Rattle.cabinet_documents.specs.Node.{node_shape}
use Rattle.archive_index.specs.Maps.{entry_positions}
use Rattle.cabinet_archives.specs.Kept.{OfKept}
use Rattle.cabinet_archives.proofs.LoadedEntries.{positions}
use Rattle.cabinet_archives.proofs.LoadedMaps.{pairs_at}
use Rattle.cabinet_archives.proofs.loading.entries.kept_entries.Given as goal

-- the entries, and behind them those that are left, are all
abbrev pub invariant-loop-key : goal.invariant-loop-key
invariant-loop-key l = OfKept l.map.bytes.now l.map.pos (λ m. l.entries.items ++ map positions l.key-iterator ≡ map positions (pairs_at l.map.bytes (entry_positions text node_shape m)))
