use Rattle.cabinet_text_nodes.proofs.writing.head.write_whole_line.Goals as goal

pub returns : goal.returns
returns g c = c.write_count_line.ensures
