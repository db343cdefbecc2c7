use Rattle.cabinet_text_nodes.specs.View.{table_of}
use Rattle.cabinet_text_nodes.proofs.Tables.{table_items, table_known}
use Rattle.cabinet_text_nodes.proofs.writing.text.write_wholes.Goals as goal

pub returns : goal.returns
returns g c is =
    let ns = c.args.wholes.now in
    rw (← table_items ns is) (c.write_nodes.ensures.lines (table_of ns) is (table_known ns is))
