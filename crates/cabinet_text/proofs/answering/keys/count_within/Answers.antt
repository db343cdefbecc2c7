use Rattle.std.proofs.Common.{arith, sym, subst, add-zero, true, false}
use Rattle.cabinet_text.proofs.Pieces.{IsCountBefore, count_fits, count_next}
use Rattle.cabinet_text.proofs.answering.keys.count_within.Goals as goal

pub overflow_add-count : goal.overflow_add-count
overflow_add-count c = omega (arith, count_fits c.args.low.now c.args.high.now c.loop-key.count c.args.map.now.entries c.loop-key.key-iterator c.loop-key.invariant.2, c.loop-key.invariant.3)

pub loop-key-preserved-then-is_within : goal.loop-key-preserved-then-is_within
loop-key-preserved-then-is_within c =
    let inside = rw c.as_str.ensures.value at (sym c.if-is_within.ensures) in
    (tt, tt, count_next c.args.low.now c.args.high.now c.loop-key.count c.args.map.now.entries (c.in-Some.key.now, c.in-Some.field-0-1.now) c.next.new.self true inside c.in-Some.ensures.steps c.loop-key.invariant.2, c.loop-key.invariant.3)

pub loop-key-preserved : goal.loop-key-preserved
loop-key-preserved c =
    let outside = rw c.as_str.ensures.value at (sym c.if-is_within.ensures) in (
      tt,
      tt,
      subst (λ n. IsCountBefore c.args.low.now c.args.high.now n c.args.map.now.entries c.next.new.self) (add-zero c.loop-key.count)
          (count_next c.args.low.now c.args.high.now c.loop-key.count c.args.map.now.entries (c.in-Some.key.now, c.in-Some.field-0-1.now) c.next.new.self false outside c.in-Some.ensures.steps c.loop-key.invariant.2),
      c.loop-key.invariant.3,
    )
