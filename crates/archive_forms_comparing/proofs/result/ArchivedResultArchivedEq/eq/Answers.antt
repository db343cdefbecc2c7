use Rattle.std.proofs.Common.{sym}
use Rattle.std.specs.Result.{result_eq}
use Rattle.archive_forms_laws.specs.Orders.{result_equality}
use Rattle.archive_forms_comparing.proofs.Seen.{by_parts, by_kinds}
use Rattle.archive_forms_comparing.proofs.result.ArchivedResultArchivedEq.eq.Goals as goal

pub returns-in-Ok-Ok : goal.returns-in-Ok-Ok
returns-in-Ok-Ok g c =
    let f = g.T.ArchivedEq.equal in
    let e = g.E.ArchivedEq.equal in
    by_parts f (result_equality f e) (λ v w x y p q. sym (λ i. result_eq f e (p i) (q i))) c.in-Ok-Ok.ensures c.in-Ok-Ok.ensures' c.eq.ensures

pub returns-in-Ok-Err : goal.returns-in-Ok-Err
returns-in-Ok-Err g c =
    let f = g.T.ArchivedEq.equal in
    let e = g.E.ArchivedEq.equal in
    by_kinds (result_equality f e) (λ v w x y p q. sym (λ i. result_eq f e (p i) (q i))) c.in-Ok-Err.ensures c.in-Ok-Err.ensures'

pub returns-in-Err-Ok : goal.returns-in-Err-Ok
returns-in-Err-Ok g c =
    let f = g.T.ArchivedEq.equal in
    let e = g.E.ArchivedEq.equal in
    by_kinds (result_equality f e) (λ v w x y p q. sym (λ i. result_eq f e (p i) (q i))) c.in-Err-Ok.ensures c.in-Err-Ok.ensures'

pub returns-in-Err-Err : goal.returns-in-Err-Err
returns-in-Err-Err g c =
    let f = g.T.ArchivedEq.equal in
    let e = g.E.ArchivedEq.equal in
    by_parts e (result_equality f e) (λ v w x y p q. sym (λ i. result_eq f e (p i) (q i))) c.in-Err-Err.ensures c.in-Err-Err.ensures' c.eq-in-Err-Err.ensures
