use Rattle.std.proofs.Common.{◌+◌, ◌^◌, ◌<◌}
use Rattle.archive_hash_maps.proofs.Walked.{first_of}
use Rattle.archive_hash_maps.proofs.map.map_iter.EntryPlacesEntryPositions.next_entry.Goals as goal

pub invariant_of-self-2 : goal.invariant_of-self-2
invariant_of-self-2 g c =
    (first_of (λ at. at + c.self.inside.behind < 2 ^ 64) c.in_ok-at.at c.next.new.self c.self.inside.positions c.in_ok-at.ensures.steps c.self.invariant).1
