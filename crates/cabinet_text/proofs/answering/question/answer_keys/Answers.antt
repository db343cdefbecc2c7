use Rattle.std.proofs.lemmas.Result.{err_from_is_err_and}
use Rattle.cabinet_text_nodes.proofs.Views.{node_tree-ordered, node_tree-kept}
use Rattle.cabinet_text.proofs.Pieces.{keys_same}
use Rattle.cabinet_text.proofs.answering.question.answer_keys.Goals as goal

pub returns-in_err-write_keys-in-Ordered-clause-written : goal.returns-in_err-write_keys-in-Ordered-clause-written
returns-in_err-write_keys-in-Ordered-clause-written g c table =
    let r = c.from_residual in
    let p = err_from_is_err_and r.result r.ensures.1 in
    rw (p.1, p.2, c.in-Ordered.is, node_tree-ordered table c.in-Ordered.map, ← keys_same table c.in-Ordered.map.entries) c.in_err-write_keys-in-Ordered.ensures

pub returns-in_ok-write_keys-in-Ordered-clause-written : goal.returns-in_ok-write_keys-in-Ordered-clause-written
returns-in_ok-write_keys-in-Ordered-clause-written g c table =
    rw (c.in-Ordered.is, node_tree-ordered table c.in-Ordered.map, ← keys_same table c.in-Ordered.map.entries) c.in_ok-write_keys-in-Ordered.ensures

pub returns-in_err-write_kept_keys-in-Kept-clause-written : goal.returns-in_err-write_kept_keys-in-Kept-clause-written
returns-in_err-write_kept_keys-in-Kept-clause-written g c table =
    let r = c.from_residual-in_err-write_kept_keys-in-Kept in
    let p = err_from_is_err_and r.result r.ensures.1 in
    rw (p.1, p.2, c.in-Kept.is, node_tree-kept table c.in-Kept.pairs, ← keys_same table c.in-Kept.pairs.items, ← c.deref.ensures.value) c.in_err-write_kept_keys-in-Kept.ensures

pub returns-in_ok-write_kept_keys-in-Kept-clause-written : goal.returns-in_ok-write_kept_keys-in-Kept-clause-written
returns-in_ok-write_kept_keys-in-Kept-clause-written g c table =
    rw (c.in-Kept.is, node_tree-kept table c.in-Kept.pairs, ← keys_same table c.in-Kept.pairs.items, ← c.deref.ensures.value) c.in_ok-write_kept_keys-in-Kept.ensures
