use Rattle.std.proofs.Common.{rules, arith, ℕ, List, [], refl, sym, ap, subst}
use Rattle.archive_forms_values.specs.Parts.{HasValue}
use Rattle.archive_shape_layout.specs.Visited.AllStand.{none_stand}
use Rattle.archive_forms_values.proofs.Accepted.{accepted_has_value}
use Rattle.archive_forms_tests.proofs.reading_back.read_back.Goals as goal

pub deserialize-requires-clause-there : goal.deserialize-requires-clause-there
deserialize-requires-clause-there g c =
    let names = g.A.Portable.named in
    let passes = (c.in_ok-check.ensures.exact names c.requires [] [] (λ pos. refl)).passes in
    let here : HasValue g.A.Portable.shape g.A.Portable.knows c.args.bytes.now c.args.pos =
    accepted_has_value _ _ names c.args.bytes.now [] [] c.args.pos _ c.requires (none_stand refl) (omega arith) (omega (arith, c.new-context.ensures.end)) (search rules) passes in
    let P : List ℕ → Type 0 = λ bytes. HasValue g.A.Portable.shape g.A.Portable.knows bytes c.args.pos in
    let Q : ℕ → Type 0 = λ pos. HasValue g.A.Portable.shape g.A.Portable.knows c.new.result.bytes.now pos in
    subst Q (sym c.new.ensures.pos) (subst P (sym (ap (λ bytes. bytes.now) c.new.ensures.bytes)) here)
