use Rattle.std.proofs.Common.{arith, false, ◌≡◌, ◌<◌, ◌+◌, ◌*◌, ℕ, List, sym, ap, subst, ◌∙◌}
use Rattle.std.specs.Prelude.{⊤}
use Rattle.std.specs.Int.{w32}
use Rattle.archive_shape_layout.specs.Shape.Shape.{number}
use Rattle.archive_forms_laws.specs.Views.{natural_of}
use Rattle.archive_shape_layout.specs.Shape.{Shape}
use Rattle.archive_forms_values.specs.Parts.{HasValue, IsVecAt}
use Rattle.archive_forms_values.proofs.Inside.{some_says}
use Rattle.archive_bench.specs.FormsSums.{IsOf}
use Rattle.archive_bench.proofs.Sums.{IsTotal, vec_there, vec_element, no_total, total_more, total_all}
use Rattle.archive_bench.proofs.forms.reads.sum_list.Goals as goal

pub loop-i-init : goal.loop-i-init
loop-i-init c = no_total (natural_of) (number w32 false) _ _

pub number_of-total-requires : goal.number_of-total-requires
number_of-total-requires c =
    let s : Shape = number w32 false in
    let there : IsVecAt s (λ _. ⊤) c.args.list.bytes.now c.args.list.pos c.as_slice-numbers.result.pos c.as_slice-numbers.result.len = c.as_slice-numbers.ensures.elements in
    let at = some_says _ _ c.get.result c.unwrap-number.result c.get.ensures c.unwrap-number.ensures in
    let same : c.unwrap-number.result.bytes ≡ c.args.list.bytes = at.1 ∙ c.as_slice-numbers.ensures.bytes in
    subst (λ b. HasValue s (λ _. ⊤) b.now c.unwrap-number.result.pos) (sym same) (vec_element s c.args.list.bytes.now c.args.list.pos _ _ there c.requires c.loop-i.i c.unwrap-number.result.pos at.0 at.2)

pub loop-i-preserved : goal.loop-i-preserved
loop-i-preserved c =
    let s : Shape = number w32 false in
    let there : IsVecAt s (λ _. ⊤) c.args.list.bytes.now c.args.list.pos c.as_slice-numbers.result.pos c.as_slice-numbers.result.len = c.as_slice-numbers.ensures.elements in
    let at = some_says _ _ c.get.result c.unwrap-number.result c.get.ensures c.unwrap-number.ensures in
    let same : c.unwrap-number.result.bytes ≡ c.args.list.bytes = at.1 ∙ c.as_slice-numbers.ensures.bytes in
    let one : IsOf (natural_of) s c.args.list.bytes.now c.unwrap-number.result.pos c.number_of-total.result = subst (λ b. IsOf (natural_of) s b.now c.unwrap-number.result.pos c.number_of-total.result) same c.number_of-total.ensures in
    total_more (natural_of) s c.args.list.bytes.now c.args.list.pos _ _ there c.loop-i.i c.unwrap-number.result.pos c.loop-i.total c.number_of-total.result at.0 at.2 one c.loop-i.invariant

pub returns : goal.returns
returns c =
    let s : Shape = number w32 false in
    let there : IsVecAt s (λ _. ⊤) c.args.list.bytes.now c.args.list.pos c.as_slice-numbers.result.pos c.as_slice-numbers.result.len = c.as_slice-numbers.ensures.elements in
    let all : c.loop-i.i ≡ c.as_slice-numbers.result.len = omega (arith, c.loop-i.auto.i-end, c.loop-i-test.false, c.len-i-end.ensures) in
    total_all (natural_of) s c.args.list.bytes.now c.args.list.pos _ _ there c.loop-i.total (subst (λ k. IsTotal (natural_of) s c.args.list.bytes.now c.args.list.pos k c.loop-i.total) all c.loop-i.invariant)
