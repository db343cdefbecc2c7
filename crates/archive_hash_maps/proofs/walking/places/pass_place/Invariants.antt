use Rattle.std.proofs.Common.{◌≡◌, ◌-◌, ◌≤◌}
use Rattle.archive_hash_maps.specs.Places.{places_from}
use Rattle.archive_hash_maps.proofs.walking.places.pass_place.Given as goal

abbrev pub invariant-loop-next : goal.invariant-loop-next
invariant-loop-next l =
    (l.next ≤ l.capacity) × (places_from l.controls l.capacity l.next ≡ places_from l.controls l.capacity l.initial.next)

abbrev pub decreases-loop-next : goal.decreases-loop-next
decreases-loop-next l = l.capacity - l.next
