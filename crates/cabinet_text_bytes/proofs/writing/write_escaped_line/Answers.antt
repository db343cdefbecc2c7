use Rattle.std.specs.Prelude.{codes}
use Rattle.archive_shape_layout.proofs.Joined.{appends_after}
use Rattle.cabinet_text_bytes.proofs.writing.write_escaped_line.Goals as goal

pub returns : goal.returns
returns g c = appends_after c.write.new.self (codes "\n") c.write.result c.in_ok-write_escaped.ensures c.write.ensures
