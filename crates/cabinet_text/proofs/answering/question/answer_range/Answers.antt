use Rattle.std.proofs.lemmas.Result.{err_from_is_err_and}
use Rattle.cabinet_text_nodes.proofs.Views.{node_tree-ordered}
use Rattle.cabinet_text.proofs.Pieces.{keys_same}
use Rattle.cabinet_text.proofs.answering.question.answer_range.Goals as goal

pub returns-in_err-write_keys_within-in-Ordered-clause-written : goal.returns-in_err-write_keys_within-in-Ordered-clause-written
returns-in_err-write_keys_within-in-Ordered-clause-written g c table =
    let p = err_from_is_err_and c.from_residual.result c.from_residual.ensures.1 in
    rw (p.1, p.2, c.in-Ordered.is, node_tree-ordered table c.in-Ordered.map, ← keys_same table c.in-Ordered.map.entries) c.in_err-write_keys_within-in-Ordered.ensures

pub returns-in_ok-write_keys_within-in-Ordered-clause-written : goal.returns-in_ok-write_keys_within-in-Ordered-clause-written
returns-in_ok-write_keys_within-in-Ordered-clause-written g c table =
    rw (c.in-Ordered.is, node_tree-ordered table c.in-Ordered.map, ← keys_same table c.in-Ordered.map.entries) c.in_ok-write_keys_within-in-Ordered.ensures
