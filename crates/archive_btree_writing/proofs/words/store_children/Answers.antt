use Rattle.std.proofs.Common.{rules, arith, ◌∷◌, []}
use Rattle.archive_btree_writing.proofs.Pointers.{greater_stored, links_refused_first}
use Rattle.archive_btree_writing.proofs.Answered.{answers_error}
use Rattle.archive_btree_writing.proofs.words.store_children.Goals as goal

pub returns-in_err-store_links : goal.returns-in_err-store_links
returns-in_err-store_links c =
    let e = c.in_err-store_links.field-0.0 in
    answers_error c.from_residual.result e _ _ (search rules) (links_refused_first c.args.children.lesser.now (c.args.children.greater ∷ []) c.args.pos e c.in_err-store_links.ensures)

pub returns : goal.returns
returns c = greater_stored c.args.children.lesser.now c.args.children.greater c.args.buffer.now c.store_links.new.buffer c.store_link.new.buffer c.args.start c.args.pos _ c.store_link.result c.requires.room (omega arith) c.in_ok-store_links.ensures c.store_link.ensures
