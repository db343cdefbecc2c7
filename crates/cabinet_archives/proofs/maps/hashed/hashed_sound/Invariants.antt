use Rattle.std.specs.Prelude.{All}
use Rattle.cabinet_archives.proofs.TableAudit.{HasPair, PlacesLeft}
use Rattle.cabinet_archives.proofs.maps.hashed.hashed_sound.Given as goal

-- pairs stand at the places that are left, and the table has their faults and no others
abbrev pub invariant-loop-control : goal.invariant-loop-control
invariant-loop-control g l = record {
  there : All HasPair l.control-iterator;
  left : PlacesLeft l.fn.map.bytes l.fn.map.pos l.control-iterator;
}
