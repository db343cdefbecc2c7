use Rattle.std.proofs.Common.{◌+◌, ◌*◌, ◌^◌, ◌<◌, ◌≤◌, length, arith}
use Rattle.archive_hash_maps.proofs.Walked.{first_of}
use Rattle.archive_hash_maps.proofs.walking.iter.FullPlacesIterator.next.Goals as goal

pub overflow_add-at : goal.overflow_add-at
overflow_add-at g c =
    let it = c.self.inside in
    let f = first_of (λ p. (p < 2 ^ 32) × (p < length it.controls.now) × ((p + 1) * it.size ≤ it.target)) c.in_ok-place.place c.next.new.self it.walk c.in_ok-place.ensures.steps c.self.invariant in
    omega (arith, f.0.0)

pub invariant_of-self-2 : goal.invariant_of-self-2
invariant_of-self-2 g c =
    let it = c.self.inside in
    (first_of (λ p. (p < 2 ^ 32) × (p < length it.controls.now) × ((p + 1) * it.size ≤ it.target)) c.in_ok-place.place c.next.new.self it.walk c.in_ok-place.ensures.steps c.self.invariant).1
