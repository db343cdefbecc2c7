use Rattle.std.proofs.Common.{◌∙◌, length, ap, sym}
use Rattle.archive_hash_maps.specs.Maps.{with_value}
use Rattle.archive_index.proofs.Walk.{walk_length}
use Rattle.archive_index.proofs.map.iter.EntryPlacesEntryPositions.entries_left.Goals as goal

pub returns : goal.returns
returns c = sym (ap length (sym c.self.view_is) ∙ walk_length (with_value c.self.inside.behind) c.self.inside.size c.self.inside.at c.self.inside.left)
