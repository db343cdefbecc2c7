use Rattle.std.proofs.Common.{rules, arith, ap, sym, ◌≢◌}
use Rattle.archive_shape_layout.specs.declared.error.Error.TheVariants.{InvalidSubtreePointer}
use Rattle.archive_btree_maps.proofs.Trees.{tree_empty, tree_astray, tree_refused, tree_counted, tree_mismatched}
use Rattle.archive_btree_maps.proofs.nodes.checking.maps.check_btree_each.Goals as goal

pub returns-then-len-eq0-clause-exact : goal.returns-then-len-eq0-clause-exact
returns-then-len-eq0-clause-exact g c names known_key known_value =
    tree_empty names c.args.bytes.now c.args.pos g.row.E g.K.Portable.shape g.V.Portable.shape (g.C.ArchiveContext.kept c.args.context.now) (omega (arith, c.read_word-len.ensures, c.if-len-eq0.true))

pub returns-in_default-clause-exact : goal.returns-in_default-clause-exact
returns-in_default-clause-exact g c names known_key known_value =
    let some : c.read_word-len.result ≢ 0 = λ e. omega (arith, e, c.if-len-eq0.false) in
    tree_astray names c.args.bytes.now c.args.pos g.row.E g.K.Portable.shape g.V.Portable.shape c.read_word-len.result (sym c.read_word-len.ensures) some
    (g.C.ArchiveContext.kept c.args.context.now) (g.C.ArchiveContext.kept c.args.context.now) _ (sym c.in_default.ensures) (ap InvalidSubtreePointer c.of-layout.ensures.parts.size)

pub returns-in_err-entries-clause-exact : goal.returns-in_err-entries-clause-exact
returns-in_err-entries-clause-exact g c names known_key known_value =
    let some : c.read_word-len.result ≢ 0 = λ e. omega (arith, e, c.if-len-eq0.false) in
    tree_refused names c.args.bytes.now c.args.pos g.row.E g.K.Portable.shape g.V.Portable.shape c.read_word-len.result (sym c.read_word-len.ensures) some c.in-Some.root (sym c.in-Some.ensures)
    _ _ _ c.in_err-entries.field-0.0 (search rules) (c.in_err-entries.ensures.exact names known_key known_value)

pub returns-then-entries-len-clause-exact : goal.returns-then-entries-len-clause-exact
returns-then-entries-len-clause-exact g c names known_key known_value =
    let some : c.read_word-len.result ≢ 0 = λ e. omega (arith, e, c.if-len-eq0.false) in
    tree_mismatched names c.args.bytes.now c.args.pos g.row.E g.K.Portable.shape g.V.Portable.shape c.read_word-len.result (sym c.read_word-len.ensures) some c.in-Some.root (sym c.in-Some.ensures)
    _ _ c.in_ok-entries.entries (c.in_ok-entries.ensures.exact names known_key known_value) (λ e. omega (arith, e, c.if-entries-len.true)) (omega arith)

pub returns-clause-exact : goal.returns-clause-exact
returns-clause-exact g c names known_key known_value =
    let some : c.read_word-len.result ≢ 0 = λ e. omega (arith, e, c.if-len-eq0.false) in
    tree_counted names c.args.bytes.now c.args.pos g.row.E g.K.Portable.shape g.V.Portable.shape c.read_word-len.result (sym c.read_word-len.ensures) some c.in-Some.root (sym c.in-Some.ensures)
    _ _ c.in_ok-entries.entries (c.in_ok-entries.ensures.exact names known_key known_value) (omega (arith, c.if-entries-len.false)) (omega arith)
