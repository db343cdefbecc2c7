use Rattle.archive_btree.proofs.node_writer.NodeWriterNodeStepTuple2RefRef.write_inner.Goals as goal

pub returns : goal.returns
returns g c = c.write_inner_each.ensures
