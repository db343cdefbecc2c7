use Rattle.std.proofs.Common.{rules, arith}
use Rattle.archive_hash_maps.proofs.ControlChecks.{tags_refused, tags_differ, tags_agree}
use Rattle.archive_hash_maps.proofs.checking.controls.check_tags.Goals as goal

pub returns-in_err-check_controls : goal.returns-in_err-check_controls
returns-in_err-check_controls c range =
    tags_refused range c.args.len c.args.capacity c.args.controls.now _ c.in_err-check_controls.field-0.0 (search rules) (c.in_err-check_controls.ensures range)

pub returns-then-actual-len : goal.returns-then-actual-len
returns-then-actual-len c range =
    tags_differ range c.args.len c.args.capacity c.args.controls.now (c.in_ok-check_controls.ensures range) c.count_tags-actual.result c.count_tags-actual.ensures (λ e. omega (arith, e, c.if-actual-len.true))

pub returns : goal.returns
returns c range =
    tags_agree range c.args.len c.args.capacity c.args.controls.now (c.in_ok-check_controls.ensures range) c.count_tags-actual.result c.count_tags-actual.ensures (omega (arith, c.if-actual-len.false))
