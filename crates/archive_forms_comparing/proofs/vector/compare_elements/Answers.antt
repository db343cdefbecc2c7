use Rattle.std.proofs.Common.{◌≡◌, ◌∙◌, sym, min, length, arith}
use Rattle.std.specs.Ordering.{nat_cmp}
use Rattle.archive_forms_laws.specs.Views.{elements_of}
use Rattle.archive_forms_comparing.proofs.Elements.{elements_counted, lengths_decide}
use Rattle.archive_forms_comparing.proofs.vector.compare_elements.Goals as goal

pub returns : goal.returns
returns g c = λ v w h k.
    let p = elements_counted h in
    let q = elements_counted k in
    let n : c.loop-index.index ≡ min (length (elements_of v)) (length (elements_of w)) =
    omega (arith, p, q, c.loop-index.auto.index-end, c.loop-index-test.false, c.min-index-end.ensures, c.len.ensures, c.len-2.ensures) in
    let last : nat_cmp c.len-3.result c.len-4.result ≡ nat_cmp (length (elements_of v)) (length (elements_of w)) =
    (λ i. nat_cmp ((c.len-3.ensures ∙ sym p) i) ((c.len-4.ensures ∙ sym q) i)) in
    c.cmp.ensures ∙ last ∙ sym (lengths_decide g.T.ArchivedOrd.order _ _ c.loop-index.index n) ∙ sym (c.loop-index.invariant.rest v w h k)
