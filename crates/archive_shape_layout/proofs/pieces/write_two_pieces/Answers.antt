use Rattle.archive_shape_layout.proofs.Joined.{appends_after}
use Rattle.archive_shape_layout.proofs.pieces.write_two_pieces.Goals as goal

pub returns : goal.returns
returns g c = appends_after c.write-2.new.self c.args.second.now c.write-2.result c.in_ok-write.ensures c.write-2.ensures
