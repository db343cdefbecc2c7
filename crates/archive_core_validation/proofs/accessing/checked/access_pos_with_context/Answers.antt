use Rattle.archive_core_validation.proofs.Rooted.{root_has_value}
use Rattle.archive_core_validation.proofs.accessing.checked.access_pos_with_context.Goals as goal

pub returns-clause-value : goal.returns-clause-value
returns-clause-value g c names inside before known records stand =
    root_has_value g.T.Portable.shape g.T.Portable.knows names c.args.bytes.now inside before c.args.pos _ known stand c.requires.range.covered
    (c.in_ok-check_pos_with_context.ensures.exact names known inside before records).passes
