use Rattle.std.proofs.Common.{◌∙◌, map, ap, sym}
use Rattle.archive_hash_maps.specs.Maps.{with_value}
use Rattle.archive_index.proofs.Walk.{side_step, walk_within}
use Rattle.archive_index.proofs.map.iter.EntryPlacesEntryPositions.next_entry.Goals as goal

pub invariant_of-self : goal.invariant_of-self
invariant_of-self c = walk_within c.self.inside.behind c.self.inside.size c.self.inside.at c.self.inside.left c.if-self-eq0.false c.self.invariant

pub returns : goal.returns
returns c = sym c.self.view_is ∙ ap (map (with_value c.self.inside.behind)) (side_step c.self.inside.size c.self.inside.at c.self.inside.left c.if-self-eq0.false)
