use Rattle.std.proofs.Common.{rules, arith, [], refl}
use Rattle.archive_shape_layout.specs.Visited.AllStand.{none_stand}
use Rattle.archive_forms_values.proofs.Accepted.{accepted_has_value}
use Rattle.archive_bench.proofs.forms.checks.is_accepted.Goals as goal

pub returns-in-Ok : goal.returns-in-Ok
returns-in-Ok g c =
    let passes = (c.in-Ok.ensures.exact [] c.requires [] [] (λ pos. refl)).passes in
    accepted_has_value _ _ [] c.args.bytes.now [] [] c.args.pos _ c.requires (none_stand refl) (omega arith) (omega (arith, c.new-context.ensures.end)) (search rules) passes
