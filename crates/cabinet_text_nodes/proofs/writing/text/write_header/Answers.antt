use Rattle.archive_shape_layout.proofs.Joined.{written_none}
use Rattle.cabinet_text_nodes.proofs.writing.text.write_header.Goals as goal

pub returns-in-0 : goal.returns-in-0
returns-in-0 g c = rw c.in-0.is (written_none c.args.writer.now)
