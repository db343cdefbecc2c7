use Rattle.std.proofs.Common.{◌≡◌, List, ℕ, ap, sym, subst, false, ◌∙◌}
use Rattle.std.specs.Prelude.{⊤}
use Rattle.std.specs.Int.{w32}
use Rattle.archive_shape_layout.specs.Shape.Shape.{number}
use Rattle.archive_shape.specs.Key.{HeldAt}
use Rattle.archive_forms_values.specs.Parts.{HasValue}
use Rattle.archive_bench.specs.FormsSums.{number_or_zero}
use Rattle.archive_bench.proofs.Held.{some_held}
use Rattle.archive_bench.proofs.forms.reads.number_or_zero.Goals as goal

pub number_of-requires : goal.number_of-requires
number_of-requires c =
    let e = c.in-Some.ensures in
    let there = some_held (number w32 false) _ c.args.place.bytes.now c.args.place.pos c.in-Some.number.pos c.requires e.2 e.1 in
    subst (λ b. HasValue (number w32 false) _ b c.in-Some.number.pos) (sym (ap (λ b. b.now) e.0)) there

pub returns-in-Some : goal.returns-in-Some
returns-in-Some c = λ v h.
    let e = c.in-Some.ensures in
    let p = e.2 v h in
    let held : HeldAt (number w32 false) (λ _. ⊤) c.args.place.bytes.now c.in-Some.number.pos p.payload = subst (λ a. HeldAt (number w32 false) (λ _. ⊤) c.args.place.bytes.now a p.payload) (sym e.1) p.held in
    c.number_of.ensures p.payload (subst (λ b. HeldAt (number w32 false) (λ _. ⊤) b.now c.in-Some.number.pos p.payload) (sym e.0) held) ∙ sym (ap number_or_zero p.is)

pub returns-in-None : goal.returns-in-None
returns-in-None c = λ v h. sym (ap number_or_zero (c.in-None.ensures v h))
