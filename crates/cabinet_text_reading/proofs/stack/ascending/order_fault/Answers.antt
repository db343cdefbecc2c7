use Rattle.std.proofs.Common.{refl, ap, ◌∙◌}
use Rattle.std.specs.Cmp.Lexicographic.{slice_cmp}
use Rattle.std.specs.Ordering.{nat_cmp}
use Rattle.cabinet_text_reading.specs.Ascending.{stored_pairs}
use Rattle.cabinet_text_reading.proofs.Wrong.{above_last, not_above_last}
use Rattle.cabinet_text_reading.proofs.stack.ascending.order_fault.Goals as goal

pub returns-then-is_gt : goal.returns-then-is_gt
returns-then-is_gt c =
    above_last (stored_pairs c.args.pairs.now) c.in_ok-last.last.now c.in_ok-last.ensures.0 c.args.argument.now c.cmp_escaped.result c.in_ok-last.ensures.1
    (λ t e. c.cmp_escaped.ensures t e ∙ ap (slice_cmp nat_cmp t) c.as_bytes.ensures.value) c.if-is_gt.ensures

pub returns-else-is_gt : goal.returns-else-is_gt
returns-else-is_gt c = (
  refl,
  not_above_last (stored_pairs c.args.pairs.now) c.in_ok-last.last.now c.in_ok-last.ensures.0 c.args.argument.now c.cmp_escaped.result c.in_ok-last.ensures.1
      (λ t e. c.cmp_escaped.ensures t e ∙ ap (slice_cmp nat_cmp t) c.as_bytes.ensures.value) c.if-is_gt.ensures c.requires,
)
