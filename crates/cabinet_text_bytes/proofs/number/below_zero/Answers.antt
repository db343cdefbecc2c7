use Rattle.std.proofs.Common.{arith}
use Rattle.cabinet_text_bytes.proofs.Numbers.{distance_is}
use Rattle.cabinet_text_bytes.proofs.number.below_zero.Goals as goal

pub returns-then-distance-eq0 : goal.returns-then-distance-eq0
returns-then-distance-eq0 c = λ z fits e.
    let within = distance_is c.args.distance z (omega (arith, c.ranges.distance)) fits e in
    omega arith
