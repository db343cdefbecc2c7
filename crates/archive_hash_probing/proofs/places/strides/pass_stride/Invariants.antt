use Rattle.std.proofs.Common.{◌≡◌, ◌-◌}
use Rattle.archive_hash_probing.specs.Stops.{strides_left, IsStop}
use Rattle.archive_hash_probing.proofs.places.strides.pass_stride.Given as goal

abbrev pub invariant-loop-stop : goal.invariant-loop-stop
invariant-loop-stop l =
    IsStop l.stop.count l.stop.passed l.stop.position
    × (strides_left l.end l.stop.count l.stop.passed l.stop.position ≡ strides_left l.end l.initial.stop.count l.initial.stop.passed l.initial.stop.position)

abbrev pub decreases-loop-stop : goal.decreases-loop-stop
decreases-loop-stop l = l.stop.count - l.stop.passed
