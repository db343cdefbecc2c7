use Rattle.std.proofs.Common.{arith, ◌∙◌}
use Rattle.archive_core_validation.proofs.Rooted.{root_lies}
use Rattle.archive_core_validation.proofs.accessing.root.root_position.Goals as goal

pub returns : goal.returns
returns g c =
    let start = c.saturating_sub-start.ensures in
    root_lies c.args.len c.SIZE.result c.ALIGN.result c.saturating_sub-start.result g.T.Portable.shape (omega arith)
    (c.SIZE.ensures ∙ g.met.T.Portable.sized) (c.ALIGN.ensures ∙ g.met.T.Portable.aligned) (omega (arith, start))
