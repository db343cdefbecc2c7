use Rattle.std.proofs.Common.{◌≡◌, Err, refl, rules}
use Rattle.archive_core_serializing.proofs.Made.{refused_anew, kept_anew, unkept_anew}
use Rattle.archive_core_serializing.proofs.shares.pooling_ext.AnyPoolingExt.deserialize_shared.Goals as goal

pub returns-in_err-value : goal.returns-in_err-value
returns-in_err-value g c =
    let is : c.from_residual-in_err-value.result ≡ Err c.in_err-value.field-0.0 = search rules in
    rw is (λ other.
    refused_anew g.F.FnOnce g.P.Pooling.known c.args.step c.args.self.now c.args.pos _ g.P.Pooling.KEEPS _ _ (rw c.in-Started.is at c.in_ok-start_pooling.ensures) _ refl c.in_err-value.ensures)

pub returns : goal.returns
returns g c =
    kept_anew g.F.FnOnce g.P.Pooling.known c.args.step c.args.self.now c.args.pos _ g.P.Pooling.KEEPS _ _ (rw c.in-Started.is at c.in_ok-start_pooling.ensures) _ _
    (g.met.T.ExactClone.is_exact _ _ c.in-Ok.ensures.cases) c.in_ok-value.ensures c.in_ok-finish_pooling.ensures

pub returns-in_err-finish_pooling : goal.returns-in_err-finish_pooling
returns-in_err-finish_pooling g c =
    let is : c.from_residual-in_err-finish_pooling.result ≡ Err c.in_err-finish_pooling.field-0.0 = search rules in
    rw is (λ other.
    unkept_anew g.F.FnOnce g.P.Pooling.known c.args.step c.args.self.now c.args.pos _ g.P.Pooling.KEEPS _ _ (rw c.in-Started.is at c.in_ok-start_pooling.ensures) _ _
    (g.met.T.ExactClone.is_exact _ _ c.in-Ok.ensures.cases) c.in_ok-value.ensures _ c.in_err-finish_pooling.ensures)
