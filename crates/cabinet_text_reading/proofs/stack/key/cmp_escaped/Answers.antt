use Rattle.std.proofs.Common.{◌≡◌, ◌<◌, length, arith, sym, ap, ◌∙◌}
use Rattle.std.proofs.lemmas.Bool.Decides.{nat_tests}
use Rattle.std.specs.Ordering.{nat_cmp, ordering_then}
use Rattle.std.specs.Cmp.Lexicographic.{slice_cmp}
use Rattle.cabinet_text_reading.proofs.Compared.{first_of, no_first, firsts_decide, key_shorter, both_end, text_shorter}
use Rattle.cabinet_text_reading.proofs.stack.key.cmp_escaped.Goals as goal

pub returns-then-is_own_text : goal.returns-then-is_own_text
returns-then-is_own_text c t e = c.cmp.ensures ∙ ap (λ s. slice_cmp nat_cmp s c.args.key.now) (c.if-is_own_text.ensures t e)

pub returns-in_default-split_first : goal.returns-in_default-split_first
returns-in_default-split_first c t e =
    let i = c.loop-byte.invariant t e in
    let first = first_of _ _ c.in-Some.byte i.0 c.in-Some.ensures i.1 in
    sym (i.2 ∙ key_shorter i.0 c.loop-byte.left.now first.0 c.in-Some.byte first.1 c.in_default-split_first.ensures.cases)

pub returns-in-Less : goal.returns-in-Less
returns-in-Less c t e =
    let i = c.loop-byte.invariant t e in
    let first = first_of _ _ c.in-Some.byte i.0 c.in-Some.ensures i.1 in
    let others = c.in-Some-split_first.others.now in
    sym (i.2 ∙ firsts_decide i.0 c.loop-byte.left.now first.0 others c.in-Some.byte c.in-Some-split_first.first.now first.1 c.in-Some-split_first.ensures.cases.0 ∙ ap (λ o. ordering_then o (slice_cmp nat_cmp first.0 others)) (sym c.in-Less.ensures))

pub returns-in-Greater : goal.returns-in-Greater
returns-in-Greater c t e =
    let i = c.loop-byte.invariant t e in
    let first = first_of _ _ c.in-Some.byte i.0 c.in-Some.ensures i.1 in
    let others = c.in-Some-split_first.others.now in
    sym (i.2 ∙ firsts_decide i.0 c.loop-byte.left.now first.0 others c.in-Some.byte c.in-Some-split_first.first.now first.1 c.in-Some-split_first.ensures.cases.0 ∙ ap (λ o. ordering_then o (slice_cmp nat_cmp first.0 others)) (sym c.in-Greater.ensures))

pub loop-byte-preserved : goal.loop-byte-preserved
loop-byte-preserved c t e =
    let i = c.loop-byte.invariant t e in
    let first = first_of _ _ c.in-Some.byte i.0 c.in-Some.ensures i.1 in
    let others = c.in-Some-split_first.others.now in
    (first.0, first.2, i.2 ∙ firsts_decide i.0 c.loop-byte.left.now first.0 others c.in-Some.byte c.in-Some-split_first.first.now first.1 c.in-Some-split_first.ensures.cases.0 ∙ ap (λ o. ordering_then o (slice_cmp nat_cmp first.0 others)) (sym c.in-Equal.ensures))

pub returns-then-is_empty : goal.returns-then-is_empty
returns-then-is_empty c t e =
    let i = c.loop-byte.invariant t e in
    let none_left : length c.loop-byte.left.now ≡ 0 = grind (arith, nat_tests) in
    sym (i.2 ∙ both_end i.0 c.loop-byte.left.now (no_first _ i.0 c.in_default.ensures i.1) none_left)

pub returns-else-is_empty : goal.returns-else-is_empty
returns-else-is_empty c t e =
    let i = c.loop-byte.invariant t e in
    let some_left : 0 < length c.loop-byte.left.now = grind (arith, nat_tests) in
    sym (i.2 ∙ text_shorter i.0 c.loop-byte.left.now (no_first _ i.0 c.in_default.ensures i.1) some_left)
