use Rattle.std.specs.Prelude.{All}
use Rattle.cabinet_archives.proofs.IndexAudit.{HasNumber, NumbersLeft}
use Rattle.cabinet_archives.proofs.maps.kept.tags_sound.Given as goal

-- numbers stand at the places that are left, and the controls have their faults and no others
abbrev pub invariant-loop-control : goal.invariant-loop-control
invariant-loop-control l = record {
  there : All HasNumber l.control-iterator;
  left : NumbersLeft l.fn.map.bytes l.fn.map.pos l.control-iterator;
}
