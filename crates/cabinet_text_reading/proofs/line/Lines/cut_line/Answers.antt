use Rattle.std.proofs.Common.{◌≡◌, ◌<◌, ◌++◌, ◌∷◌, length, sym, ap, ◌∙◌, append_assoc, arith, rules}
use Rattle.std.proofs.lemmas.Bool.Decides.{nat_tests}
use Rattle.cabinet_text_reading.proofs.LineLemmas.{longest_behind, line_first, not_utf8_first, no_newline_first, nothing_left}
use Rattle.cabinet_text_reading.proofs.line.Lines.cut_line.Goals as goal

pub invariant_of-result : goal.invariant_of-result
invariant_of-result c =
    let rest = c.self.inside.rest.now in
    let parts = c.in-Some.ensures in
    (search rules, longest_behind rest c.in-Some.line.now c.in-Some.after.now c.self.inside.more.now parts.0 (search rules) c.self.invariant.1)

pub returns-in-Some-clause-piece : goal.returns-in-Some-clause-piece
returns-in-Some-clause-piece c =
    let rest = c.self.inside.rest.now in
    let parts = c.in-Some.ensures in
    rw (← c.self.view_is) (line_first rest c.in-Some.line.now c.in-Some.after.now c.self.inside.more.now parts.0 parts.1)

pub returns-in-Some-clause-parts : goal.returns-in-Some-clause-parts
returns-in-Some-clause-parts c =
    let rest = c.self.inside.rest.now in
    let more = c.self.inside.more.now in
    let parts = c.in-Some.ensures in
    sym c.self.view_is ∙ ap (λ w. w ++ more) parts.0 ∙ append_assoc c.in-Some.line.now (10 ∷ c.in-Some.after.now) more

pub returns-then-not-is_empty-clause-end : goal.returns-then-not-is_empty-clause-end
returns-then-not-is_empty-clause-end c = λ due.
    let rest = c.self.inside.rest.now in
    let more = c.self.inside.more.now in
    let some : 0 < length more = grind (arith, nat_tests) in
    rw (← c.self.view_is) (not_utf8_first rest c.in_default.ensures c.self.invariant.0 more some c.self.invariant.1 due)

pub returns-then-not-is_empty-2-clause-end : goal.returns-then-not-is_empty-2-clause-end
returns-then-not-is_empty-2-clause-end c = λ due.
    let rest = c.self.inside.rest.now in
    let more = c.self.inside.more.now in
    let some : 0 < length rest = grind (arith, nat_tests) in
    let none : length more ≡ 0 = grind (arith, nat_tests) in
    rw (← c.self.view_is) (no_newline_first rest c.in_default.ensures c.self.invariant.0 more some none due)

pub returns-clause-end : goal.returns-clause-end
returns-clause-end c =
    let rest = c.self.inside.rest.now in
    let more = c.self.inside.more.now in
    let none : length rest ≡ 0 = grind (arith, nat_tests) in
    let nothing : length more ≡ 0 = grind (arith, nat_tests) in
    sym c.self.view_is ∙ nothing_left rest more none nothing
