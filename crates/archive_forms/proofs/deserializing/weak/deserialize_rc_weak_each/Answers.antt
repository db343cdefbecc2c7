use Rattle.std.proofs.Common.{false}
use Rattle.std.specs.Global.{Global}
use Rattle.std.specs.declared.rc.Rc.{Rc}
use Rattle.archive_forms_rc.specs.declared.sharing.keyed.Shared.{Shared}
use Rattle.archive_shape_layout.specs.Shape.Pointee.{sized}
use Rattle.archive_forms.specs.Reading.{reads_in, reads_counted}
use Rattle.archive_forms_rc.proofs.Tags.{pointer_has}
use Rattle.archive_forms.proofs.ReadWeak.{nothing_read, pointer_read}
use Rattle.archive_forms.proofs.deserializing.weak.deserialize_rc_weak_each.Goals as goal

pub returns-in_default-clause-value : goal.returns-in_default-clause-value
returns-in_default-clause-value g c =
    nothing_read (sized g.A.Portable.shape) g.A.Portable.knows c.args.this.bytes.now c.args.this.pos (reads_in (λ (x : Shared (Rc g.row.T.Denot Global)). x.value.value) (reads_counted g.A.ReadBack.reads)) c.in_default.ensures

pub deserialize_rc_each-requires-clause-there : goal.deserialize_rc_each-requires-clause-there
deserialize_rc_each-requires-clause-there g c =
    rw (c.new-pointer.ensures.bytes, c.new-pointer.ensures.pos)
    (pointer_has false (sized g.A.Portable.shape) g.A.Portable.knows c.args.this.bytes.now c.args.this.pos c.in-Some.ensures.1 c.requires.there)

pub deserialize_rc_each-requires-clause-takes : goal.deserialize_rc_each-requires-clause-takes
deserialize_rc_each-requires-clause-takes g c = rw (c.new-pointer.ensures.bytes, c.new-pointer.ensures.pos) c.requires.takes

pub returns-clause-value : goal.returns-clause-value
returns-clause-value g c =
    pointer_read (sized g.A.Portable.shape) g.A.Portable.knows c.args.this.bytes.now c.args.this.pos (reads_in (λ (x : Shared (Rc g.row.T.Denot Global)). x.value.value) (reads_counted g.A.ReadBack.reads)) c.in-Some.ensures.1 c.in_ok-shared.shared
    (rw (← c.new-pointer.ensures.bytes, ← c.new-pointer.ensures.pos) c.in_ok-shared.ensures.value)

pub returns-clause-key : goal.returns-clause-key
returns-clause-key g c = (c.in-Some.ensures.1, rw (← c.new-pointer.ensures.bytes, ← c.new-pointer.ensures.pos) c.in_ok-shared.ensures.key)
