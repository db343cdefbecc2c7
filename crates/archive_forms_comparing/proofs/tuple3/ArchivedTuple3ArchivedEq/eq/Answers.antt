use Rattle.std.proofs.Common.{◌&&◌, true, sym, ◌∙◌}
use Rattle.archive_forms_laws.specs.Views.{elements_of, head_of, rest_of}
use Rattle.archive_forms_comparing.proofs.Seen.{by_parts}
use Rattle.archive_forms_comparing.proofs.Ordered.{equal_more, equal_end}
use Rattle.archive_forms_comparing.proofs.tuple3.ArchivedTuple3ArchivedEq.eq.Goals as goal

pub returns : goal.returns
returns g c = λ v w h k.
    let first = by_parts (λ x y. (true && g.A.ArchivedEq.equal x y)) (λ v w. (true && g.A.ArchivedEq.equal (head_of (elements_of v)) (head_of (elements_of w)))) (λ v w x y p q. sym (λ i. (true && g.A.ArchivedEq.equal (p i) (q i)))) c.first_of.ensures c.first_of-2.ensures c.equal_then-found.ensures v w h k in
    let second = by_parts (λ x y. (c.equal_then-found.result && g.B.ArchivedEq.equal x y)) (λ v w. (c.equal_then-found.result && g.B.ArchivedEq.equal (head_of (rest_of (elements_of v))) (head_of (rest_of (elements_of w))))) (λ v w x y p q. sym (λ i. (c.equal_then-found.result && g.B.ArchivedEq.equal (p i) (q i)))) c.second_of.ensures c.second_of-2.ensures c.equal_then-found-2.ensures v w h k in
    let third = by_parts (λ x y. (c.equal_then-found-2.result && g.C.ArchivedEq.equal x y)) (λ v w. (c.equal_then-found-2.result && g.C.ArchivedEq.equal (head_of (rest_of (rest_of (elements_of v)))) (head_of (rest_of (rest_of (elements_of w)))))) (λ v w x y p q. sym (λ i. (c.equal_then-found-2.result && g.C.ArchivedEq.equal (p i) (q i)))) c.third_of.ensures c.third_of-2.ensures c.equal_then.ensures v w h k in
    equal_end c.equal_then.result
    ∙ equal_more c.equal_then-found-2.result (g.C.ArchivedEq.equal (head_of (rest_of (rest_of (elements_of v)))) (head_of (rest_of (rest_of (elements_of w))))) c.equal_then.result true third
    ∙ equal_more c.equal_then-found.result (g.B.ArchivedEq.equal (head_of (rest_of (elements_of v))) (head_of (rest_of (elements_of w)))) c.equal_then-found-2.result ((g.C.ArchivedEq.equal (head_of (rest_of (rest_of (elements_of v)))) (head_of (rest_of (rest_of (elements_of w))))) && true) second
    ∙ equal_more true (g.A.ArchivedEq.equal (head_of (elements_of v)) (head_of (elements_of w))) c.equal_then-found.result ((g.B.ArchivedEq.equal (head_of (rest_of (elements_of v))) (head_of (rest_of (elements_of w)))) && ((g.C.ArchivedEq.equal (head_of (rest_of (rest_of (elements_of v)))) (head_of (rest_of (rest_of (elements_of w))))) && true)) first
