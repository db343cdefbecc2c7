use Rattle.std.proofs.Common.{arith, refl}
use Rattle.std.specs.Prelude.{true, false}
use Rattle.std.specs.Int.{w64}
use Rattle.archive_shape_layout.specs.Shape.Shape.{number, truth, text, shared, option, box, vector, tree, table, index_map}
use Rattle.archive_shape_layout.specs.Shape.Pointee.{sized, str}
use Rattle.archive_forms_laws.proofs.Levels.{option_box_sized}
use Rattle.cabinet_documents.specs.Node.{node_shape, pair_shape, whole_shape}
use Rattle.cabinet_archived.proofs.Nodes.{payload_checked, other_refused}
use Rattle.cabinet_archived.proofs.check.+node.Goals as goal

pub check_maybe-check_option_each-requires-clause-fits :
    goal.check_maybe-check_option_each-requires-clause-fits
check_maybe-check_option_each-requires-clause-fits g t c = omega (arith, option_box_sized node_shape, c.requires.fits)

pub check_node-returns-in-0-clause-exact : goal.check_node-returns-in-0-clause-exact
check_node-returns-in-0-clause-exact g t c = λ names known.
    payload_checked names c.args.bytes.now c.args.pos known _ _ 0 truth _ c.in-0.is refl (omega arith) (c.check.ensures.exact names tt)

pub check_node-returns-in-1-clause-exact : goal.check_node-returns-in-1-clause-exact
check_node-returns-in-1-clause-exact g t c = λ names known.
    payload_checked names c.args.bytes.now c.args.pos known _ _ 1 (number w64 true) _ c.in-1.is refl (omega arith) (c.check-in-1.ensures.exact names tt)

pub check_node-returns-in-2-clause-exact : goal.check_node-returns-in-2-clause-exact
check_node-returns-in-2-clause-exact g t c = λ names known.
    payload_checked names c.args.bytes.now c.args.pos known _ _ 2 text _ c.in-2.is refl (omega arith) (c.check_text.ensures.exact names)

pub check_node-returns-in-3-clause-exact : goal.check_node-returns-in-3-clause-exact
check_node-returns-in-3-clause-exact g t c = λ names known.
    payload_checked names c.args.bytes.now c.args.pos known _ _ 3 (shared false str) _ c.in-3.is refl (omega arith) (c.check_shared.ensures.exact names)

pub check_node-returns-in-4-clause-exact : goal.check_node-returns-in-4-clause-exact
check_node-returns-in-4-clause-exact g t c = λ names known.
    payload_checked names c.args.bytes.now c.args.pos known _ _ 4 (option (box (sized node_shape))) _ c.in-4.is refl (omega arith) (c.check_maybe.ensures.exact names known)

pub check_node-returns-in-5-clause-exact : goal.check_node-returns-in-5-clause-exact
check_node-returns-in-5-clause-exact g t c = λ names known.
    payload_checked names c.args.bytes.now c.args.pos known _ _ 5 (vector node_shape) _ c.in-5.is refl (omega arith) (c.check_list.ensures.exact names known)

pub check_node-returns-in-6-clause-exact : goal.check_node-returns-in-6-clause-exact
check_node-returns-in-6-clause-exact g t c = λ names known.
    payload_checked names c.args.bytes.now c.args.pos known _ _ 6 (tree 5 text node_shape) _ c.in-6.is refl (omega arith) (c.check_ordered.ensures.exact names known)

pub check_node-returns-in-7-clause-exact : goal.check_node-returns-in-7-clause-exact
check_node-returns-in-7-clause-exact g t c = λ names known.
    payload_checked names c.args.bytes.now c.args.pos known _ _ 7 (table pair_shape) _ c.in-7.is refl (omega arith) (c.check_hashed.ensures.exact names known)

pub check_node-returns-in-8-clause-exact : goal.check_node-returns-in-8-clause-exact
check_node-returns-in-8-clause-exact g t c = λ names known.
    payload_checked names c.args.bytes.now c.args.pos known _ _ 8 (index_map text node_shape) _ c.in-8.is refl (omega arith) (c.check_kept.ensures.exact names known)

pub check_node-returns-in-9-clause-exact : goal.check_node-returns-in-9-clause-exact
check_node-returns-in-9-clause-exact g t c = λ names known.
    payload_checked names c.args.bytes.now c.args.pos known _ _ 9 whole_shape _ c.in-9.is refl (omega arith) (c.check_whole.ensures.exact names known)

pub check_node-returns-in_default-clause-exact : goal.check_node-returns-in_default-clause-exact
check_node-returns-in_default-clause-exact g t c = λ names known.
    let other = c.in_default in
    other_refused names c.args.bytes.now c.args.pos known _ (g.C.ArchiveContext.kept c.args.context.now) (λ e. omega arith, λ e. omega arith, λ e. omega arith, λ e. omega arith, λ e. omega arith, λ e. omega arith, λ e. omega arith, λ e. omega arith, λ e. omega arith) (λ e. omega arith)

pub check_hashed-returns-clause-exact : goal.check_hashed-returns-clause-exact
check_hashed-returns-clause-exact g t c = λ names known. c.check_table_each.ensures.exact names (tt, known)

pub check_kept-returns-clause-exact : goal.check_kept-returns-clause-exact
check_kept-returns-clause-exact g t c = λ names known. c.check_index_map_each.ensures.exact names text node_shape (tt, known) refl

pub check_kept-check_index_map_each-requires-clause-checks : goal.check_kept-check_index_map_each-requires-clause-checks
check_kept-check_index_map_each-requires-clause-checks g t c = λ old new pos result within fits h. (h.0, λ names known. h.1 names known.1)

pub check_pair-returns-clause-exact : goal.check_pair-returns-clause-exact
check_pair-returns-clause-exact g t c = λ names known. c.check_tuple2_each.ensures.exact names tt known

pub check_hashed-check_table_each-requires-clause-checks : goal.check_hashed-check_table_each-requires-clause-checks
check_hashed-check_table_each-requires-clause-checks g t c = λ old new pos result within fits h. (h.0, λ names known. h.1 names known.1)
