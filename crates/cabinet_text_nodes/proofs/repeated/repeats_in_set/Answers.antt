use Rattle.std.proofs.Common.{refl, sym}
use Rattle.std.proofs.lemmas.Bool.{true≢false}
use Rattle.cabinet_text_nodes.proofs.Twice.{seen_twice, seen_more, seen_all}
use Rattle.cabinet_text_nodes.proofs.repeated.repeats_in_set.Goals as goal

pub returns-then-not-is_new : goal.returns-then-not-is_new
returns-then-not-is_new c = (
  λ _. seen_twice c.loop-key.seen c.as_str.result c.args.pairs.now c.loop-key.key-index c.loop-key-item.result c.in_ok-is_new.is_new c.loop-key-test.true c.loop-key-item.is c.as_str.ensures.value c.in_ok-is_new.ensures.added c.if-not-is_new.true c.loop-key.invariant,
  λ _. refl,
)

pub loop-key-preserved : goal.loop-key-preserved
loop-key-preserved c =
    seen_more c.loop-key.seen c.insert.new.self c.as_str.result c.args.pairs.now c.loop-key.key-index c.loop-key-item.result c.in_ok-is_new.is_new c.loop-key-test.true c.loop-key-item.is c.as_str.ensures.value c.in_ok-is_new.ensures.added c.if-not-is_new.false c.in_ok-is_new.ensures.keys c.loop-key.invariant

pub returns : goal.returns
returns c =
    (λ no. absurd (true≢false (sym no)), λ twice. absurd (seen_all c.loop-key.seen c.args.pairs.now c.loop-key.key-index c.loop-key-test.false c.loop-key.invariant twice))
