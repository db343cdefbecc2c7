use Rattle.std.proofs.Common.{refl}
use Rattle.archive_shape_layout.specs.Shape.Pointee.{slice}
use Rattle.archive_forms_rc.proofs.Tags.{is_nothing, is_pointer, pointer_has}
use Rattle.archive_forms_rc.proofs.weak_slice.ArchivedRcWeakSlice.upgrade.Goals as goal

pub returns-then-bytes-pos-eq0 : goal.returns-then-bytes-pos-eq0
returns-then-bytes-pos-eq0 g c =
    is_nothing g.L.Flavor.ALLOW_CYCLES (slice g.T.Portable.shape) g.T.Portable.knows c.args.this.bytes.now c.args.this.pos c.if-bytes-pos-eq0.true

pub elements_at-pos-requires : goal.elements_at-pos-requires
elements_at-pos-requires g c =
    let bytes = c.args.this.bytes.now in
    let pos = c.args.this.pos in
    pointer_has g.L.Flavor.ALLOW_CYCLES (slice g.T.Portable.shape) g.T.Portable.knows bytes pos
    (is_pointer g.L.Flavor.ALLOW_CYCLES (slice g.T.Portable.shape) g.T.Portable.knows bytes pos c.if-bytes-pos-eq0.false) c.requires

pub returns : goal.returns
returns g c =
    let bytes = c.args.this.bytes.now in
    let pos = c.args.this.pos in (
      refl,
      is_pointer g.L.Flavor.ALLOW_CYCLES (slice g.T.Portable.shape) g.T.Portable.knows bytes pos c.if-bytes-pos-eq0.false,
      c.elements_at-pos.ensures,
    )
