use Rattle.std.proofs.Common.{drop}
use Rattle.cabinet_text_nodes.proofs.TableFaults.{IsTold}
use Rattle.cabinet_text_nodes.proofs.table.fault_of_table.Given as goal

abbrev pub invariant-loop-node : goal.invariant-loop-node
invariant-loop-node l = IsTold l.wholes (drop l.node-index l.wholes) l.depths.items l.fault
