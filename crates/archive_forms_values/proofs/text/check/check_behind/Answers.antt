use Rattle.std.proofs.Common.{rules, arith, ◌≡◌, ◌+◌, ◌-◌, take, drop, IsUtf8, subst}
use Rattle.archive_forms_values.proofs.Claims.{behind_unclaimed, behind_illegal, behind_passes}
use Rattle.archive_forms_values.proofs.text.check.check_behind.Goals as goal

pub returns-in_err-claim_bytes-clause-exact : goal.returns-in_err-claim_bytes-clause-exact
returns-in_err-claim_bytes-clause-exact g c names =
    behind_unclaimed names c.args.bytes.now c.args.start c.args.len _ _ _ c.in_err-claim_bytes.field-0.0 (search rules)
    (λ other. (c.in_err-claim_bytes.ensures).0)

pub returns-then-is_utf8-clause-exact : goal.returns-then-is_utf8-clause-exact
returns-then-is_utf8-clause-exact g c names =
    let claimed = c.in_ok-claim_bytes.ensures in
    let same : c.args.start + c.args.len - c.args.start ≡ c.args.len = omega arith in
    let utf8 = subst (λ n. IsUtf8 (take n (drop c.args.start c.args.bytes.now))) same (c.is_utf8.ensures.0 c.if-is_utf8.true) in
    behind_passes names c.args.bytes.now c.args.start c.args.len _ _ claimed.0 utf8 claimed.1

pub returns-else-is_utf8-clause-exact : goal.returns-else-is_utf8-clause-exact
returns-else-is_utf8-clause-exact g c names =
    let claimed = c.in_ok-claim_bytes.ensures in
    let same : c.args.len ≡ c.args.start + c.args.len - c.args.start = omega arith in
    behind_illegal names c.args.bytes.now c.args.start c.args.len _ (g.C.ArchiveContext.kept c.claim_bytes.new.self) claimed.0
    (λ utf8.
    let is_true = c.is_utf8.ensures.1 (subst (λ n. IsUtf8 (take n (drop c.args.start c.args.bytes.now))) same utf8) in
    let is_false = c.if-is_utf8.false in
    absurd (cc))
