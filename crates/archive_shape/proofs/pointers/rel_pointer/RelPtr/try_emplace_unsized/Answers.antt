use Rattle.std.proofs.Common.{arith}
use Rattle.std.proofs.lemmas.Grind.{common_steps}
use Rattle.archive_shape_layout.proofs.Framed.{le_align_up}
use Rattle.archive_shape.proofs.pointers.rel_pointer.RelPtr.try_emplace_unsized.Goals as goal

pub returns-clause-contents : goal.returns-clause-contents
returns-clause-contents g c = grind (arith, common_steps, le_align_up)
