use Rattle.std.proofs.Common.{rules}
use Rattle.archive_forms.proofs.Outcomes.{payload_has, outcome_ends, ok_read, err_read}
use Rattle.archive_forms.proofs.deserializing.result.deserialize_result_each.Goals as goal

pub step-requires : goal.step-requires
step-requires g c =
    let there = payload_has _ g.A.Portable.shape _ g.A.Portable.knows c.args.this.bytes.now c.args.this.pos _ _ _ c.in-Ok.ensures.1 c.in-Ok.ensures.2 c.requires.there in
    c.requires.takes _ _ (outcome_ends g.A.Portable.shape g.B.Portable.shape c.args.this.pos _ c.in-Ok.ensures.1).0 there c.requires.kept

pub returns-in-Ok-clause-value : goal.returns-in-Ok-clause-value
returns-in-Ok-clause-value g c =
    let there = payload_has _ g.A.Portable.shape _ g.A.Portable.knows c.args.this.bytes.now c.args.this.pos _ _ _ c.in-Ok.ensures.1 c.in-Ok.ensures.2 c.requires.there in
    ok_read g.A.ReadBack.reads g.B.ReadBack.reads g.A.Portable.shape g.B.Portable.shape g.A.Portable.knows g.B.Portable.knows c.args.this.bytes.now c.args.this.pos _ _ c.in-Ok.ensures.1 c.in-Ok.ensures.2
    (c.requires.reads _ _ _ _ there c.requires.kept c.in_ok-step-in-Ok.ensures).0

pub returns-in-Ok-clause-keeps : goal.returns-in-Ok-clause-keeps
returns-in-Ok-clause-keeps g c =
    let there = payload_has _ g.A.Portable.shape _ g.A.Portable.knows c.args.this.bytes.now c.args.this.pos _ _ _ c.in-Ok.ensures.1 c.in-Ok.ensures.2 c.requires.there in
    (c.requires.reads _ _ _ _ there c.requires.kept c.in_ok-step-in-Ok.ensures).1

pub returns-in_err-step-in-Ok-clause-value : goal.returns-in_err-step-in-Ok-clause-value
returns-in_err-step-in-Ok-clause-value g c =
    let there = payload_has _ g.A.Portable.shape _ g.A.Portable.knows c.args.this.bytes.now c.args.this.pos _ _ _ c.in-Ok.ensures.1 c.in-Ok.ensures.2 c.requires.there in
    let is = (c.requires.reads _ _ _ _ there c.requires.kept c.in_err-step-in-Ok.ensures).0 in
    search rules

pub step_of_error-requires : goal.step_of_error-requires
step_of_error-requires g c =
    let there = payload_has _ g.B.Portable.shape _ g.B.Portable.knows c.args.this.bytes.now c.args.this.pos _ _ _ c.in-Err.ensures.1 c.in-Err.ensures.2 c.requires.there in
    c.requires.takes_errors _ _ (outcome_ends g.A.Portable.shape g.B.Portable.shape c.args.this.pos _ c.in-Err.ensures.1).1 there c.requires.kept

pub returns-clause-value : goal.returns-clause-value
returns-clause-value g c =
    let there = payload_has _ g.B.Portable.shape _ g.B.Portable.knows c.args.this.bytes.now c.args.this.pos _ _ _ c.in-Err.ensures.1 c.in-Err.ensures.2 c.requires.there in
    err_read g.A.ReadBack.reads g.B.ReadBack.reads g.A.Portable.shape g.B.Portable.shape g.A.Portable.knows g.B.Portable.knows c.args.this.bytes.now c.args.this.pos _ _ c.in-Err.ensures.1 c.in-Err.ensures.2
    (c.requires.reads_errors _ _ _ _ there c.requires.kept c.in_ok-step_of_error-in-Err.ensures).0

pub returns-clause-keeps : goal.returns-clause-keeps
returns-clause-keeps g c =
    let there = payload_has _ g.B.Portable.shape _ g.B.Portable.knows c.args.this.bytes.now c.args.this.pos _ _ _ c.in-Err.ensures.1 c.in-Err.ensures.2 c.requires.there in
    (c.requires.reads_errors _ _ _ _ there c.requires.kept c.in_ok-step_of_error-in-Err.ensures).1

pub returns-in_err-step_of_error-in-Err-clause-value : goal.returns-in_err-step_of_error-in-Err-clause-value
returns-in_err-step_of_error-in-Err-clause-value g c =
    let there = payload_has _ g.B.Portable.shape _ g.B.Portable.knows c.args.this.bytes.now c.args.this.pos _ _ _ c.in-Err.ensures.1 c.in-Err.ensures.2 c.requires.there in
    let is = (c.requires.reads_errors _ _ _ _ there c.requires.kept c.in_err-step_of_error-in-Err.ensures).0 in
    search rules
