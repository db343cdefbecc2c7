use Rattle.std.proofs.Common.{drop}
use Rattle.cabinet_text_nodes.proofs.Repeats.{AreUnique}
use Rattle.cabinet_text_nodes.proofs.table.repeats_whole.Given as goal

abbrev pub invariant-loop-node : goal.invariant-loop-node
invariant-loop-node l = AreUnique l.wholes (drop l.node-index l.wholes) l.texts.keys
