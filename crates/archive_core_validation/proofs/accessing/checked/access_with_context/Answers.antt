use Rattle.std.proofs.Common.{IfOk, subst}
use Rattle.archive_forms_values.specs.Parts.{HasValue}
use Rattle.archive_core_validation.proofs.accessing.checked.access_with_context.Goals as goal

pub returns-clause-value : goal.returns-clause-value
returns-clause-value g c names inside before known records stand =
    subst (λ pos. IfOk c.access_pos_with_context.result (λ _. HasValue g.T.Portable.shape g.T.Portable.knows c.args.bytes.now pos))
    c.root_position-pos.ensures (c.access_pos_with_context.ensures.value names inside before known records stand)
