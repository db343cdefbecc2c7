-- Walks that are given the bytes at each step.
use Rattle.std.proofs.Common.{◌≡◌, ◌∙◌, ℕ, List}
use Rattle.archive_btree_layout.specs.Reading.{Place}
use Rattle.archive_btree_maps.specs.declared.nodes.layout.NodeLayout.{NodeLayout}
use Rattle.archive_btree_maps.specs.Stepping.{HasLeft}
use Rattle.archive_btree_maps.specs.declared.nodes.searching.stepping.EntryWalk.{EntryWalk}

pub left_is : (bytes : List ℕ) (l : NodeLayout) (root : ℕ) (w : EntryWalk) {es fs : List Place} → HasLeft bytes l root w es → es ≡ fs → HasLeft bytes l root w fs
left_is bytes l root w h e = record { layout = h.layout; stands = h.stands; reached = h.reached; left = h.left ∙ e }
