use Rattle.std.proofs.Common.{false}
use Rattle.std.specs.Prelude.{⊤}
use Rattle.archive_shape_layout.specs.Shape.Pointee.{str}
use Rattle.archive_forms_rc.specs.Counted.{shared_str_rc_spelling}
use Rattle.archive_forms.specs.Reading.{reads_as}
use Rattle.archive_forms_rc.proofs.Tags.{pointer_has}
use Rattle.archive_forms.proofs.ReadWeak.{nothing_read, pointer_read}
use Rattle.archive_forms.proofs.deserializing.weak_str.deserialize_rc_weak_str.Goals as goal

pub returns-in_default-clause-value : goal.returns-in_default-clause-value
returns-in_default-clause-value g c =
    nothing_read str (λ _. ⊤) c.args.this.bytes.now c.args.this.pos (reads_as shared_str_rc_spelling) c.in_default.ensures

pub deserialize_rc_str-requires-clause-there : goal.deserialize_rc_str-requires-clause-there
deserialize_rc_str-requires-clause-there g c =
    rw (c.new-pointer.ensures.bytes, c.new-pointer.ensures.pos)
    (pointer_has false str (λ _. ⊤) c.args.this.bytes.now c.args.this.pos c.in-Some.ensures.0 c.requires.there)

pub returns-clause-value : goal.returns-clause-value
returns-clause-value g c =
    pointer_read str (λ _. ⊤) c.args.this.bytes.now c.args.this.pos (reads_as shared_str_rc_spelling) c.in-Some.ensures.0 c.in_ok-shared.shared
    (rw (← c.new-pointer.ensures.bytes, ← c.new-pointer.ensures.pos) c.in_ok-shared.ensures.value)

pub returns-clause-key : goal.returns-clause-key
returns-clause-key g c = (c.in-Some.ensures.0, rw (← c.new-pointer.ensures.bytes, ← c.new-pointer.ensures.pos) c.in_ok-shared.ensures.key)
