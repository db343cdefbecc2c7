use Rattle.std.proofs.Common.{sym, subst, ◌++◌, arith}
use Rattle.std.proofs.lemmas.Result.{err_from_is_err_and}
use Rattle.archive_shape_layout.proofs.Joined.{failed_first, failed_after}
use Rattle.cabinet_text_grammar.specs.Item.{items_of_table}
use Rattle.cabinet_text_grammar.specs.Spelling.{lines_of, ended}
use Rattle.cabinet_text_grammar.specs.Wholes.{IsTable, wholes_of}
use Rattle.cabinet_text_grammar.proofs.Tables.{document_table}
use Rattle.cabinet_text_nodes.specs.View.{table_of}
use Rattle.cabinet_text_nodes.proofs.Pieces.{appends_last, failed_as}
use Rattle.cabinet_text_nodes.proofs.Tables.{document_text, root_known}
use Rattle.cabinet_text_nodes.proofs.Texts.{node_lines}
use Rattle.cabinet_text_nodes.proofs.writing.text.write_text.Goals as goal

pub returns-in_err-write_header : goal.returns-in_err-write_header
returns-in_err-write_header g c =
    let p = err_from_is_err_and c.from_residual.result c.from_residual.ensures.1 in
    let d = c.args.document.now in
    let ns = c.wholes-wholes.result.now in
    let rest = ended (lines_of (items_of_table (table_of ns))) ++ node_lines (wholes_of d) c.root-root.result.now in
    rw (p.1, p.2) (failed_as (document_text d ns c.root-root.result.now c.wholes-wholes.ensures c.root-root.ensures.tree) (failed_first rest c.in_err-write_header.ensures))

pub returns-in_err-write_wholes : goal.returns-in_err-write_wholes
returns-in_err-write_wholes g c =
    let p = err_from_is_err_and c.from_residual-in_err-write_wholes.result c.from_residual-in_err-write_wholes.ensures.1 in
    let d = c.args.document.now in
    let ns = c.wholes-wholes.result.now in
    let table = subst IsTable (sym c.wholes-wholes.ensures) (document_table d c.root-root.ensures.document) in
    rw (p.1, p.2) (failed_as (document_text d ns c.root-root.result.now c.wholes-wholes.ensures c.root-root.ensures.tree)
    (failed_after c.in_ok-write_header.ensures (failed_first (node_lines (wholes_of d) c.root-root.result.now) (c.in_err-write_wholes.ensures table))))

pub write_node-requires : goal.write_node-requires
write_node-requires g c =
    let table = subst IsTable (sym c.wholes-wholes.ensures) (document_table c.args.document.now c.root-root.ensures.document) in
    omega (arith, c.requires, c.in_ok-write_header.ensures.is_quiet, (c.in_ok-write_wholes.ensures table).is_quiet)

pub returns : goal.returns
returns g c =
    let d = c.args.document.now in
    let root = c.root-root.result.now in
    let table = document_table d c.root-root.ensures.document in
    let wholes = c.in_ok-write_wholes.ensures (subst IsTable (sym c.wholes-wholes.ensures) table) in
    let now = c.write_node.ensures.lines (wholes_of d) table (root_known d root c.root-root.ensures.document c.root-root.ensures.tree) in
    appends_last c.write_node.new.writer (node_lines (wholes_of d) root) c.write_node.result (document_text d c.wholes-wholes.result.now root c.wholes-wholes.ensures c.root-root.ensures.tree) c.in_ok-write_header.ensures wholes now
