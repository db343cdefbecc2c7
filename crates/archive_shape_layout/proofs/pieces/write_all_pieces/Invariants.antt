use Rattle.std.proofs.Common.{flat_map, take}
use Rattle.archive_shape_layout.specs.Writing.{Written}
use Rattle.archive_shape_layout.proofs.pieces.write_all_pieces.Given as goal

-- the pieces so far were written
abbrev pub invariant-loop-piece : goal.invariant-loop-piece
invariant-loop-piece g l = let w = g.W.Writer in Written w.OBSERVABLE w.COUNTS w.contents g.W.Positional.pos w.failures w.last_error g.W.Registry.known l.fn.writer l.writer (flat_map (λ piece. piece.now) (take l.piece-index l.pieces))
