use Rattle.std.proofs.Common.{rules, arith, [], refl}
use Rattle.archive_shape_layout.specs.Visited.AllStand.{none_stand}
use Rattle.archive_forms_values.proofs.Accepted.{accepted_has_value}
use Rattle.archive_forms_tests.proofs.reading.checked.checked.Goals as goal

pub returns : goal.returns
returns g c =
    let passes = (c.in_ok-check.ensures.exact [] c.requires [] [] (λ pos. refl)).passes in
    (c.new.ensures.bytes, c.new.ensures.pos, accepted_has_value _ _ [] c.args.bytes.now [] [] c.args.pos _ c.requires (none_stand refl) (omega arith) (omega (arith, c.new-context.ensures.end)) (search rules) passes)
