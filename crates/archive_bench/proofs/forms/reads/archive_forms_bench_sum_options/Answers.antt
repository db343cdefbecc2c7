use Rattle.std.proofs.Common.{arith, false, ◌≡◌, ◌<◌, ◌+◌, ◌*◌, ℕ, List, sym, ap, subst, ◌∙◌}
use Rattle.std.specs.Prelude.{⊤}
use Rattle.std.specs.Int.{w32}
use Rattle.archive_shape_layout.specs.Shape.Shape.{number, option}
use Rattle.archive_bench.specs.FormsSums.{number_or_zero}
use Rattle.archive_shape_layout.specs.Shape.{Shape}
use Rattle.archive_forms_values.specs.Parts.{HasValue, IsVecAt}
use Rattle.archive_forms_values.proofs.Inside.{some_says}
use Rattle.archive_bench.specs.FormsSums.{IsOf}
use Rattle.archive_bench.proofs.Sums.{IsTotal, vec_there, vec_element, no_total, total_more, total_all}
use Rattle.archive_bench.proofs.forms.reads.archive_forms_bench_sum_options.Goals as goal

pub loop-i-init : goal.loop-i-init
loop-i-init c = no_total (number_or_zero) (option (number w32 false)) _ _

pub number_or_zero-total-requires : goal.number_or_zero-total-requires
number_or_zero-total-requires c =
    let s : Shape = option (number w32 false) in
    let there : IsVecAt s (λ _. ⊤) c.args.bytes.now c.args.pos c.as_slice-options.result.pos c.as_slice-options.result.len = vec_there s c.args.bytes.now c.new-vector.result.bytes.now c.args.pos c.new-vector.result.pos _ _ (ap (λ b. b.now) c.new-vector.ensures.bytes) c.new-vector.ensures.pos c.as_slice-options.ensures.elements in
    let at = some_says _ _ c.get.result c.unwrap-option.result c.get.ensures c.unwrap-option.ensures in
    let same : c.unwrap-option.result.bytes ≡ c.args.bytes = at.1 ∙ c.as_slice-options.ensures.bytes ∙ c.new-vector.ensures.bytes in
    subst (λ b. HasValue s (λ _. ⊤) b.now c.unwrap-option.result.pos) (sym same) (vec_element s c.args.bytes.now c.args.pos _ _ there c.requires c.loop-i.i c.unwrap-option.result.pos at.0 at.2)

pub loop-i-preserved : goal.loop-i-preserved
loop-i-preserved c =
    let s : Shape = option (number w32 false) in
    let there : IsVecAt s (λ _. ⊤) c.args.bytes.now c.args.pos c.as_slice-options.result.pos c.as_slice-options.result.len = vec_there s c.args.bytes.now c.new-vector.result.bytes.now c.args.pos c.new-vector.result.pos _ _ (ap (λ b. b.now) c.new-vector.ensures.bytes) c.new-vector.ensures.pos c.as_slice-options.ensures.elements in
    let at = some_says _ _ c.get.result c.unwrap-option.result c.get.ensures c.unwrap-option.ensures in
    let same : c.unwrap-option.result.bytes ≡ c.args.bytes = at.1 ∙ c.as_slice-options.ensures.bytes ∙ c.new-vector.ensures.bytes in
    let one : IsOf (number_or_zero) s c.args.bytes.now c.unwrap-option.result.pos c.number_or_zero-total.result = subst (λ b. IsOf (number_or_zero) s b.now c.unwrap-option.result.pos c.number_or_zero-total.result) same c.number_or_zero-total.ensures in
    total_more (number_or_zero) s c.args.bytes.now c.args.pos _ _ there c.loop-i.i c.unwrap-option.result.pos c.loop-i.total c.number_or_zero-total.result at.0 at.2 one c.loop-i.invariant

pub returns : goal.returns
returns c =
    let s : Shape = option (number w32 false) in
    let there : IsVecAt s (λ _. ⊤) c.args.bytes.now c.args.pos c.as_slice-options.result.pos c.as_slice-options.result.len = vec_there s c.args.bytes.now c.new-vector.result.bytes.now c.args.pos c.new-vector.result.pos _ _ (ap (λ b. b.now) c.new-vector.ensures.bytes) c.new-vector.ensures.pos c.as_slice-options.ensures.elements in
    let all : c.loop-i.i ≡ c.as_slice-options.result.len = omega (arith, c.loop-i.auto.i-end, c.loop-i-test.false, c.len-i-end.ensures) in
    total_all (number_or_zero) s c.args.bytes.now c.args.pos _ _ there c.loop-i.total (subst (λ k. IsTotal (number_or_zero) s c.args.bytes.now c.args.pos k c.loop-i.total) all c.loop-i.invariant)
