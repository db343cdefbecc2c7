use Rattle.std.proofs.Common.{rules}
use Rattle.archive_shape_layout.proofs.Joined.{failed_among}
use Rattle.archive_shape_layout.proofs.pieces.write_all_pieces.Goals as goal

pub returns-in_err-write : goal.returns-in_err-write
returns-in_err-write g c = let h = failed_among _ _ _ _ c.loop-piece-test.true c.loop-piece.invariant c.in_err-write.ensures in search rules
