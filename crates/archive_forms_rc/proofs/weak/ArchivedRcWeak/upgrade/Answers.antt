use Rattle.std.proofs.Common.{subst, sym, ◌+◌}
use Rattle.archive_shape_layout.specs.Shape.Pointee.{sized}
use Rattle.archive_forms_rc.specs.Pointers.{IsRcAt}
use Rattle.archive_forms_rc.proofs.Tags.{is_nothing, is_pointer, pointer_has}
use Rattle.archive_forms_rc.proofs.weak.ArchivedRcWeak.upgrade.Goals as goal

pub value_at-requires : goal.value_at-requires
value_at-requires g c =
    let bytes = c.args.this.bytes.now in
    let pos = c.args.this.pos in
    pointer_has g.L.Flavor.ALLOW_CYCLES (sized g.T.Portable.shape) g.T.Portable.knows bytes pos
    (is_pointer g.L.Flavor.ALLOW_CYCLES (sized g.T.Portable.shape) g.T.Portable.knows bytes pos c.if-bytes-pos-eq0.false) c.requires

pub returns-then-bytes-pos-eq0 : goal.returns-then-bytes-pos-eq0
returns-then-bytes-pos-eq0 g c =
    is_nothing g.L.Flavor.ALLOW_CYCLES (sized g.T.Portable.shape) g.T.Portable.knows c.args.this.bytes.now c.args.this.pos c.if-bytes-pos-eq0.true

pub returns-else-bytes-pos-eq0 : goal.returns-else-bytes-pos-eq0
returns-else-bytes-pos-eq0 g c =
    let bytes = c.args.this.bytes.now in
    let pos = c.args.this.pos in (
      c.new.ensures.bytes,
      is_pointer g.L.Flavor.ALLOW_CYCLES (sized g.T.Portable.shape) g.T.Portable.knows bytes pos c.if-bytes-pos-eq0.false,
      subst (IsRcAt g.L.Flavor.ALLOW_CYCLES g.T.Portable.shape g.T.Portable.knows bytes (pos + 4)) (sym c.new.ensures.pos) c.value_at.ensures,
    )
