use Rattle.std.proofs.Common.{◌++◌, codes}
use Rattle.archive_shape_layout.proofs.Joined.{appends_after}
use Rattle.cabinet_text_grammar.specs.Spelling.{escaped}
use Rattle.cabinet_text_nodes.proofs.writing.head.write_text_line.Goals as goal

pub returns : goal.returns
returns g c =
    rw (← c.as_bytes.ensures.value) (appends_after c.write_escaped_line.new.writer (escaped c.as_bytes.result.now ++ codes "\n") c.write_escaped_line.result c.in_ok-write.ensures c.write_escaped_line.ensures)
