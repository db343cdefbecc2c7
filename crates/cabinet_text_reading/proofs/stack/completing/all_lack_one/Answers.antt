use Rattle.std.proofs.Common.{[], refl, subst, sym, ◌∙◌}
use Rattle.std.proofs.lemmas.List.{drop_all}
use Rattle.std.proofs.lemmas.Bool.{true≢false}
use Rattle.cabinet_text_reading.proofs.Filling.{EachLacksOne, each_of_stack, stack_of_each, each_from}
use Rattle.cabinet_text_reading.proofs.stack.completing.all_lack_one.Goals as goal

pub returns-then-not-lacks_one : goal.returns-then-not-lacks_one
returns-then-not-lacks_one c table = (
  λ no. absurd (true≢false (sym no)),
  λ all.
      let each = each_of_stack table [] c.args.stack.now all in
      let rest = (c.loop-frame.invariant table).1 each.0 in
      let here = subst (λ (P : Type 0). P) (each_from table c.args.stack.now c.loop-frame.frame-index c.frame-item.result c.loop-frame-test.true c.frame-item.is) rest in
      absurd (true≢false (sym ((c.lacks_one.ensures table).1 here.0) ∙ c.if-not-lacks_one.true)),
)

pub returns : goal.returns
returns c table = (
  λ yes. stack_of_each table [] c.args.stack.now ((c.loop-frame.invariant table).0 (subst (EachLacksOne table) (sym (drop_all c.loop-frame.frame-index c.args.stack.now c.loop-frame-test.false)) (tt {0}))) (tt {0}),
  λ all. refl,
)

pub loop-frame-preserved : goal.loop-frame-preserved
loop-frame-preserved c table =
    let same = each_from table c.args.stack.now c.loop-frame.frame-index c.frame-item.result c.loop-frame-test.true c.frame-item.is in
    let lacks = (c.lacks_one.ensures table).0 c.if-not-lacks_one.false in (
      λ rest. (c.loop-frame.invariant table).0 (subst (λ (P : Type 0). P) (sym same) (lacks, rest)),
      λ all. (subst (λ (P : Type 0). P) same ((c.loop-frame.invariant table).1 all)).1,
    )
