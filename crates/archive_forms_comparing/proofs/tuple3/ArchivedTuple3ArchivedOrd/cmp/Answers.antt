use Rattle.std.proofs.Common.{sym, ◌∙◌}
use Rattle.std.specs.declared.cmp.Ordering.TheVariants.{Equal}
use Rattle.std.specs.Ordering.{ordering_then}
use Rattle.archive_forms_laws.specs.Views.{elements_of, head_of, rest_of}
use Rattle.archive_forms_comparing.proofs.Seen.{by_parts}
use Rattle.archive_forms_comparing.proofs.Ordered.{compare_more, compare_end}
use Rattle.archive_forms_comparing.proofs.tuple3.ArchivedTuple3ArchivedOrd.cmp.Goals as goal

pub returns : goal.returns
returns g c = λ v w h k.
    let first = by_parts (λ x y. (ordering_then Equal (g.A.ArchivedOrd.order x y))) (λ v w. (ordering_then Equal (g.A.ArchivedOrd.order (head_of (elements_of v)) (head_of (elements_of w))))) (λ v w x y p q. sym (λ i. (ordering_then Equal (g.A.ArchivedOrd.order (p i) (q i))))) c.first_of.ensures c.first_of-2.ensures c.compare_then-found.ensures v w h k in
    let second = by_parts (λ x y. (ordering_then c.compare_then-found.result (g.B.ArchivedOrd.order x y))) (λ v w. (ordering_then c.compare_then-found.result (g.B.ArchivedOrd.order (head_of (rest_of (elements_of v))) (head_of (rest_of (elements_of w)))))) (λ v w x y p q. sym (λ i. (ordering_then c.compare_then-found.result (g.B.ArchivedOrd.order (p i) (q i))))) c.second_of.ensures c.second_of-2.ensures c.compare_then-found-2.ensures v w h k in
    let third = by_parts (λ x y. (ordering_then c.compare_then-found-2.result (g.C.ArchivedOrd.order x y))) (λ v w. (ordering_then c.compare_then-found-2.result (g.C.ArchivedOrd.order (head_of (rest_of (rest_of (elements_of v)))) (head_of (rest_of (rest_of (elements_of w))))))) (λ v w x y p q. sym (λ i. (ordering_then c.compare_then-found-2.result (g.C.ArchivedOrd.order (p i) (q i))))) c.third_of.ensures c.third_of-2.ensures c.compare_then.ensures v w h k in
    compare_end c.compare_then.result
    ∙ compare_more c.compare_then-found-2.result (g.C.ArchivedOrd.order (head_of (rest_of (rest_of (elements_of v)))) (head_of (rest_of (rest_of (elements_of w))))) c.compare_then.result Equal third
    ∙ compare_more c.compare_then-found.result (g.B.ArchivedOrd.order (head_of (rest_of (elements_of v))) (head_of (rest_of (elements_of w)))) c.compare_then-found-2.result (ordering_then (g.C.ArchivedOrd.order (head_of (rest_of (rest_of (elements_of v)))) (head_of (rest_of (rest_of (elements_of w))))) (Equal)) second
    ∙ compare_more Equal (g.A.ArchivedOrd.order (head_of (elements_of v)) (head_of (elements_of w))) c.compare_then-found.result (ordering_then (g.B.ArchivedOrd.order (head_of (rest_of (elements_of v))) (head_of (rest_of (elements_of w)))) ((ordering_then (g.C.ArchivedOrd.order (head_of (rest_of (rest_of (elements_of v)))) (head_of (rest_of (rest_of (elements_of w))))) (Equal)))) first
