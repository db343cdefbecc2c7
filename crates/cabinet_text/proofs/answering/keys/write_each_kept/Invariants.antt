use Rattle.std.proofs.Common.{flat_map, take}
use Rattle.archive_shape_layout.specs.Writing.{Written}
use Rattle.cabinet_text.proofs.Pieces.{key_piece}
use Rattle.cabinet_text.proofs.answering.keys.write_each_kept.Given as goal

-- the keys before those that are left were written
abbrev pub invariant-loop-key : goal.invariant-loop-key
invariant-loop-key g l = let w = g.W.Writer in Written w.OBSERVABLE w.COUNTS w.contents g.W.Positional.pos w.failures w.last_error g.W.Registry.known l.fn.writer l.writer (flat_map key_piece (take l.key-index l.pairs))
