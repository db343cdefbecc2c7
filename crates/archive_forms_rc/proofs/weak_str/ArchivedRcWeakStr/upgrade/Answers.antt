use Rattle.std.proofs.Common.{◌+◌}
use Rattle.std.specs.Prelude.{⊤}
use Rattle.archive_shape_layout.specs.Shape.Pointee.{str}
use Rattle.archive_forms_rc.proofs.Reached.{text_counts}
use Rattle.archive_forms_rc.proofs.Tags.{is_nothing, is_pointer, pointer_has}
use Rattle.archive_forms_rc.proofs.weak_str.ArchivedRcWeakStr.upgrade.Goals as goal

pub returns-then-bytes-pos-eq0 : goal.returns-then-bytes-pos-eq0
returns-then-bytes-pos-eq0 g c =
    is_nothing g.L.Flavor.ALLOW_CYCLES str (λ _. ⊤) c.args.this.bytes.now c.args.this.pos c.if-bytes-pos-eq0.true

pub get-requires : goal.get-requires
get-requires g c =
    let bytes = c.args.this.bytes.now in
    let pos = c.args.this.pos in
    rw (c.new-pointer.ensures.bytes, c.new-pointer.ensures.pos) (text_counts g.L.Flavor.ALLOW_CYCLES g.met.L.Acyclic.acyclic (λ _. ⊤) bytes (pos + 4)
    (pointer_has g.L.Flavor.ALLOW_CYCLES str (λ _. ⊤) bytes pos (is_pointer g.L.Flavor.ALLOW_CYCLES str (λ _. ⊤) bytes pos c.if-bytes-pos-eq0.false) c.requires))

pub returns : goal.returns
returns g c =
    let bytes = c.args.this.bytes.now in
    let pos = c.args.this.pos in (
      is_pointer g.L.Flavor.ALLOW_CYCLES str (λ _. ⊤) bytes pos c.if-bytes-pos-eq0.false,
      rw (← c.new-pointer.ensures.bytes, ← c.new-pointer.ensures.pos) c.get.ensures,
    )
