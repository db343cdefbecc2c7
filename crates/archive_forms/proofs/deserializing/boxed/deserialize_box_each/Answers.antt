use Rattle.std.proofs.Common.{rules}
use Rattle.archive_forms.proofs.Read.{box_has, box_read}
use Rattle.archive_forms.proofs.deserializing.boxed.deserialize_box_each.Goals as goal

pub step-requires : goal.step-requires
step-requires g c =
    c.requires.takes _ _ (c.get.ensures.value.before c.requires.there)
    (box_has g.A.Portable.shape g.A.Portable.knows c.args.this.bytes.now c.args.this.pos _ c.get.ensures.value c.requires.there) c.requires.kept

pub returns-in_err-value-clause-value : goal.returns-in_err-value-clause-value
returns-in_err-value-clause-value g c =
    let there = box_has g.A.Portable.shape g.A.Portable.knows c.args.this.bytes.now c.args.this.pos _ c.get.ensures.value c.requires.there in
    let is = (c.requires.reads _ _ _ _ there c.requires.kept c.in_err-value.ensures).0 in
    search rules

pub returns-in-Ok-clause-value : goal.returns-in-Ok-clause-value
returns-in-Ok-clause-value g c =
    let there = box_has g.A.Portable.shape g.A.Portable.knows c.args.this.bytes.now c.args.this.pos _ c.get.ensures.value c.requires.there in
    box_read g.A.ReadBack.reads g.A.Portable.shape g.A.Portable.knows c.args.this.bytes.now c.args.this.pos _ c.in-Ok.boxed _ c.in-Ok.ensures.ok
    c.get.ensures.value (c.requires.reads _ _ _ _ there c.requires.kept c.in_ok-value.ensures).0

pub returns-in-Ok-clause-keeps : goal.returns-in-Ok-clause-keeps
returns-in-Ok-clause-keeps g c =
    let there = box_has g.A.Portable.shape g.A.Portable.knows c.args.this.bytes.now c.args.this.pos _ c.get.ensures.value c.requires.there in
    (c.requires.reads _ _ _ _ there c.requires.kept c.in_ok-value.ensures).1
