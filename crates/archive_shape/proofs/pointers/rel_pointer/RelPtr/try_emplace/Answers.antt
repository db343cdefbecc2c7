use Rattle.std.proofs.Common.{rules}
use Rattle.archive_shape.proofs.pointers.rel_pointer.RelPtr.try_emplace.Goals as goal

pub returns-clause-contents : goal.returns-clause-contents
returns-clause-contents g c = search rules

pub returns-clause-leads : goal.returns-clause-leads
returns-clause-leads g c = search rules
