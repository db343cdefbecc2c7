use Rattle.std.proofs.Common.{rules}
use Rattle.archive_forms.proofs.Read.{some_has, some_ends, none_read, some_read}
use Rattle.archive_forms.proofs.deserializing.option.deserialize_option_each.Goals as goal

pub returns-in-None-clause-value : goal.returns-in-None-clause-value
returns-in-None-clause-value g c =
    none_read g.A.ReadBack.reads g.A.Portable.shape g.A.Portable.knows c.args.this.bytes.now c.args.this.pos c.in-None.ensures

pub step-requires : goal.step-requires
step-requires g c =
    c.requires.takes _ _ (some_ends g.A.Portable.shape c.args.this.pos _ c.in-Some.ensures.1)
    (some_has g.A.Portable.shape g.A.Portable.knows c.args.this.bytes.now c.args.this.pos _ c.in-Some.ensures.1 c.in-Some.ensures.2 c.requires.there)
    c.requires.kept

pub returns-clause-value : goal.returns-clause-value
returns-clause-value g c =
    let there = some_has g.A.Portable.shape g.A.Portable.knows c.args.this.bytes.now c.args.this.pos _ c.in-Some.ensures.1 c.in-Some.ensures.2 c.requires.there in
    some_read g.A.ReadBack.reads g.A.Portable.shape g.A.Portable.knows c.args.this.bytes.now c.args.this.pos _ _ c.in-Some.ensures.1 c.in-Some.ensures.2
    (c.requires.reads _ _ _ _ there c.requires.kept c.in_ok-step-in-Some.ensures).0

pub returns-clause-keeps : goal.returns-clause-keeps
returns-clause-keeps g c =
    let there = some_has g.A.Portable.shape g.A.Portable.knows c.args.this.bytes.now c.args.this.pos _ c.in-Some.ensures.1 c.in-Some.ensures.2 c.requires.there in
    (c.requires.reads _ _ _ _ there c.requires.kept c.in_ok-step-in-Some.ensures).1

pub returns-in_err-step-in-Some-clause-value : goal.returns-in_err-step-in-Some-clause-value
returns-in_err-step-in-Some-clause-value g c =
    let there = some_has g.A.Portable.shape g.A.Portable.knows c.args.this.bytes.now c.args.this.pos _ c.in-Some.ensures.1 c.in-Some.ensures.2 c.requires.there in
    let is = (c.requires.reads _ _ _ _ there c.requires.kept c.in_err-step-in-Some.ensures).0 in
    search rules
