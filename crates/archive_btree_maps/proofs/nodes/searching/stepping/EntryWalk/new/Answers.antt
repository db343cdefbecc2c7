use Rattle.std.proofs.Common.{refl}
use Rattle.archive_btree_maps.proofs.nodes.searching.stepping.EntryWalk.new.Goals as goal

pub returns : goal.returns
returns c t is = record { layout = refl; stands = c.at_root.ensures.stands; reached = c.at_root.ensures.reached; left = c.at_root.ensures.items t is }
