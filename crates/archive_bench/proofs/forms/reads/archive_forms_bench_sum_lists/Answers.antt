use Rattle.std.proofs.Common.{arith, false, ◌≡◌, ◌<◌, ◌+◌, ◌*◌, ℕ, List, sym, ap, subst, ◌∙◌}
use Rattle.std.specs.Prelude.{⊤}
use Rattle.std.specs.Int.{w32}
use Rattle.archive_shape_layout.specs.Shape.Shape.{number, vector}
use Rattle.archive_forms_laws.specs.Views.{natural_of}
use Rattle.archive_bench.specs.FormsSums.{sum_of}
use Rattle.archive_shape_layout.specs.Shape.{Shape}
use Rattle.archive_forms_values.specs.Parts.{HasValue, IsVecAt}
use Rattle.archive_forms_values.proofs.Inside.{some_says}
use Rattle.archive_bench.specs.FormsSums.{IsOf}
use Rattle.archive_bench.proofs.Sums.{IsTotal, vec_there, vec_element, no_total, total_more, total_all}
use Rattle.archive_bench.proofs.forms.reads.archive_forms_bench_sum_lists.Goals as goal

pub loop-i-init : goal.loop-i-init
loop-i-init c = no_total (sum_of natural_of) (vector (number w32 false)) _ _

pub sum_list-total-requires : goal.sum_list-total-requires
sum_list-total-requires c =
    let s : Shape = vector (number w32 false) in
    let there : IsVecAt s (λ _. ⊤) c.args.bytes.now c.args.pos c.as_slice-lists.result.pos c.as_slice-lists.result.len = vec_there s c.args.bytes.now c.new-vector.result.bytes.now c.args.pos c.new-vector.result.pos _ _ (ap (λ b. b.now) c.new-vector.ensures.bytes) c.new-vector.ensures.pos c.as_slice-lists.ensures.elements in
    let at = some_says _ _ c.get.result c.unwrap-list.result c.get.ensures c.unwrap-list.ensures in
    let same : c.unwrap-list.result.bytes ≡ c.args.bytes = at.1 ∙ c.as_slice-lists.ensures.bytes ∙ c.new-vector.ensures.bytes in
    subst (λ b. HasValue s (λ _. ⊤) b.now c.unwrap-list.result.pos) (sym same) (vec_element s c.args.bytes.now c.args.pos _ _ there c.requires c.loop-i.i c.unwrap-list.result.pos at.0 at.2)

pub loop-i-preserved : goal.loop-i-preserved
loop-i-preserved c =
    let s : Shape = vector (number w32 false) in
    let there : IsVecAt s (λ _. ⊤) c.args.bytes.now c.args.pos c.as_slice-lists.result.pos c.as_slice-lists.result.len = vec_there s c.args.bytes.now c.new-vector.result.bytes.now c.args.pos c.new-vector.result.pos _ _ (ap (λ b. b.now) c.new-vector.ensures.bytes) c.new-vector.ensures.pos c.as_slice-lists.ensures.elements in
    let at = some_says _ _ c.get.result c.unwrap-list.result c.get.ensures c.unwrap-list.ensures in
    let same : c.unwrap-list.result.bytes ≡ c.args.bytes = at.1 ∙ c.as_slice-lists.ensures.bytes ∙ c.new-vector.ensures.bytes in
    let one : IsOf (sum_of natural_of) s c.args.bytes.now c.unwrap-list.result.pos c.sum_list-total.result = subst (λ b. IsOf (sum_of natural_of) s b.now c.unwrap-list.result.pos c.sum_list-total.result) same c.sum_list-total.ensures in
    total_more (sum_of natural_of) s c.args.bytes.now c.args.pos _ _ there c.loop-i.i c.unwrap-list.result.pos c.loop-i.total c.sum_list-total.result at.0 at.2 one c.loop-i.invariant

pub returns : goal.returns
returns c =
    let s : Shape = vector (number w32 false) in
    let there : IsVecAt s (λ _. ⊤) c.args.bytes.now c.args.pos c.as_slice-lists.result.pos c.as_slice-lists.result.len = vec_there s c.args.bytes.now c.new-vector.result.bytes.now c.args.pos c.new-vector.result.pos _ _ (ap (λ b. b.now) c.new-vector.ensures.bytes) c.new-vector.ensures.pos c.as_slice-lists.ensures.elements in
    let all : c.loop-i.i ≡ c.as_slice-lists.result.len = omega (arith, c.loop-i.auto.i-end, c.loop-i-test.false, c.len-i-end.ensures) in
    total_all (sum_of natural_of) s c.args.bytes.now c.args.pos _ _ there c.loop-i.total (subst (λ k. IsTotal (sum_of natural_of) s c.args.bytes.now c.args.pos k c.loop-i.total) all c.loop-i.invariant)
