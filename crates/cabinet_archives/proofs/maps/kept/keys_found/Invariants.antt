use Rattle.cabinet_archives.proofs.IndexAudit.{KeysLeft}
use Rattle.cabinet_archives.proofs.maps.kept.keys_found.Given as goal

-- the keys before the index are found
abbrev pub invariant-loop-index : goal.invariant-loop-index
invariant-loop-index g l = KeysLeft l.fn.map.bytes l.fn.map.pos l.index
