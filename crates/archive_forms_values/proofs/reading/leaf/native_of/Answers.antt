use Rattle.std.proofs.Common.{arith, ◌≡◌}
use Rattle.archive_shape_layout.specs.Bytes.{window}
use Rattle.archive_shape_layout.specs.Shape.{size_of}
use Rattle.archive_shape_layout.proofs.HeldNumbers.{held_reads, held_legal}
use Rattle.archive_shape_layout.proofs.NumberReading.{one_reading}
use Rattle.archive_forms_values.proofs.reading.leaf.native_of.Goals as goal

pub to_native-requires-clause-room : goal.to_native-requires-clause-room
to_native-requires-clause-room g c = omega (arith, g.met.L.Portable.sized, c.requires.held.own_within)

pub to_native-requires-clause-legal : goal.to_native-requires-clause-legal
to_native-requires-clause-legal g c =
    let sized : g.L.Portable.SIZE ≡ size_of g.L.Portable.shape = omega (arith, g.met.L.Portable.sized, c.requires.held.own_within, c.ranges.this) in
    (g.met.L.ArchivedLeaf.legal_by_shape (window c.args.this.bytes.now c.args.this.pos g.L.Portable.SIZE)).1
    (held_legal g.L.Portable.shape g.met.L.ArchivedLeaf.is_leaf g.L.Portable.SIZE sized c.requires.held.holds)

pub returns : goal.returns
returns g c = λ v h.
    let sized : g.L.Portable.SIZE ≡ size_of g.L.Portable.shape = omega (arith, g.met.L.Portable.sized, h.own_within, c.ranges.this) in
    one_reading g.L.Portable.shape (window c.args.this.bytes.now c.args.this.pos g.L.Portable.SIZE) _ _ c.to_native.ensures.value
    (held_reads g.L.Portable.shape g.met.L.ArchivedLeaf.is_leaf g.L.Portable.SIZE sized h.holds)
