use Rattle.std.proofs.Common.{◌≡◌, ◌∙◌, sym, length, arith}
use Rattle.std.specs.Cmp.Lexicographic.{unequal}
use Rattle.archive_forms_laws.specs.Views.{elements_of}
use Rattle.archive_forms_comparing.proofs.Elements.{elements_counted, equal_ends}
use Rattle.archive_forms_comparing.proofs.vector.equal_elements.Goals as goal

pub returns-then-len : goal.returns-then-len
returns-then-len g c = λ v w h k.
    let p = elements_counted h in
    let q = elements_counted k in
    sym (unequal g.T.ArchivedEq.equal (elements_of v) (elements_of w) (λ e. omega (arith, e, p, q, c.if-len.true, c.len.ensures, c.len-2.ensures)))

pub returns : goal.returns
returns g c = λ v w h k.
    let p = elements_counted h in
    let q = elements_counted k in
    let ends : length (elements_of v) ≡ c.loop-index.index =
    omega (arith, p, c.loop-index.auto.index-end, c.loop-index-test.false, c.len-index-end.ensures) in
    let same : length (elements_of w) ≡ c.loop-index.index =
    omega (arith, p, q, ends, c.if-len.false, c.len.ensures, c.len-2.ensures) in
    sym (c.loop-index.invariant.rest v w h k ∙ equal_ends g.T.ArchivedEq.equal _ _ c.loop-index.index ends same)
