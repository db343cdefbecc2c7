use Rattle.cabinet_text_nodes.specs.View.{node_tree, table_of}
use Rattle.cabinet_text_nodes.proofs.Restructures.{replaced}
use Rattle.cabinet_text_nodes.proofs.restructuring.replacing.replace.Goals as goal

pub returns : goal.returns
returns c table legal =
    let t = table_of c.args.wholes.now in
    rw c.if-not-fits.false (replaced (node_tree t c.args.node.now) (node_tree t c.args.new)
    ((c.has_no_whole.ensures table legal).0 c.if-not-has_no_whole.false))
