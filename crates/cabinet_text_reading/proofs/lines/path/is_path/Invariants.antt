use Rattle.std.proofs.Common.{length}
use Rattle.cabinet_text_reading.specs.Parts.{IsPath}
use Rattle.cabinet_text_reading.proofs.lines.path.is_path.Given as goal

-- the bytes are a path where the rest is one
abbrev pub invariant-loop-rest : goal.invariant-loop-rest
invariant-loop-rest l = record {
  back : IsPath l.rest → IsPath l.bytes;
  on : IsPath l.bytes → IsPath l.rest;
}

abbrev pub decreases-loop-rest : goal.decreases-loop-rest
decreases-loop-rest l = length l.rest
