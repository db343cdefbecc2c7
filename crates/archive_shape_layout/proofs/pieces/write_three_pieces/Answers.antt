use Rattle.std.proofs.Common.{◌++◌}
use Rattle.archive_shape_layout.proofs.Joined.{appends_after}
use Rattle.archive_shape_layout.proofs.pieces.write_three_pieces.Goals as goal

pub returns : goal.returns
returns g c =
    appends_after c.write_two_pieces.new.writer (c.args.second.now ++ c.args.third.now) c.write_two_pieces.result c.in_ok-write.ensures c.write_two_pieces.ensures
