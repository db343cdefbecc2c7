use Rattle.std.proofs.Common.{rules, ◌≡◌, ℕ, suc, ◌+◌, ◌-◌, ◌^◌, min, length, subst, inl, inr}
use Rattle.archive_shape_layout.specs.Writing.{WriterMembers}
use Rattle.archive_shape_layout.specs.declared.error.Error.TheVariants.{IteratorLengthMismatch}
use Rattle.archive_btree_spelling.specs.Maps.{packed_spelling}
use Rattle.archive_forms_laws.specs.Taking.{GivesAs}
use Rattle.archive_btree_writing.specs.Built.{IsBuilt, IsCutShort}
use Rattle.archive_btree_writing.proofs.Taken.{on_err}
use Rattle.archive_btree_writing.proofs.Widths.{some_wide}
use Rattle.archive_btree_writing.proofs.Whole.{all_items, whole_cut, whole_built, came_all, exceeded}
use Rattle.archive_btree_writing.proofs.building.tree.build_tree_each.Goals as goal

pub returns-in_err-root : goal.returns-in_err-root
returns-in_err-root g c =
    let E = g.row.E in
    let m = g.N.NodeStep in
    let s : WriterMembers g.row.S.Denot = record { known = g.S.Registry.known; pos = g.S.Positional.pos; OBSERVABLE = g.S.Writer.OBSERVABLE; COUNTS = g.S.Writer.COUNTS; contents = g.S.Writer.contents; failures = g.S.Writer.failures; last_error = g.S.Writer.last_error } in
    let gives = GivesAs m.parts g.I.Iterator.next_gives in
    let levels = c.levels_above-above.ensures in
    let above = c.levels_above-above.result.0 in
    let wide = c.levels_above-above.result.1 in
    let tree = packed_spelling E m.key_shape m.value_shape m.keys (m.values c.args.nodes.now) (suc above) in
    let all = all_items E m.key_shape m.value_shape m.keys (m.values c.args.nodes.now) s gives above wide c.args.claimed c.requires.some.0 levels.wide levels.least levels.fits (some_wide E above wide levels.wide) in
    let e = c.in_err-root.field-0.0 in
    let IsCut : ℕ → Type 0 = λ n. IsCutShort tree s gives c.args.claimed 0 n 0 c.args.entries c.args.serializer.now c.build_tree.new.serializer e in
    on_err _ _ c.from_residual.result e (search rules)
    (inl (whole_cut E m.key_shape m.value_shape m.keys (m.values c.args.nodes.now) s gives above wide c.args.claimed c.requires.some.0 levels.wide levels.least levels.fits c.args.entries c.args.serializer.now c.build_tree.new.serializer e (subst IsCut all c.in_err-root.ensures.built)))

pub returns-in_err-finish : goal.returns-in_err-finish
returns-in_err-finish g c =
    let E = g.row.E in
    let m = g.N.NodeStep in
    let s : WriterMembers g.row.S.Denot = record { known = g.S.Registry.known; pos = g.S.Positional.pos; OBSERVABLE = g.S.Writer.OBSERVABLE; COUNTS = g.S.Writer.COUNTS; contents = g.S.Writer.contents; failures = g.S.Writer.failures; last_error = g.S.Writer.last_error } in
    let gives = GivesAs m.parts g.I.Iterator.next_gives in
    let levels = c.levels_above-above.ensures in
    let above = c.levels_above-above.result.0 in
    let wide = c.levels_above-above.result.1 in
    let tree = packed_spelling E m.key_shape m.value_shape m.keys (m.values c.args.nodes.now) (suc above) in
    let all = all_items E m.key_shape m.value_shape m.keys (m.values c.args.nodes.now) s gives above wide c.args.claimed c.requires.some.0 levels.wide levels.least levels.fits (some_wide E above wide levels.wide) in
    let Built : ℕ → Type 0 = λ n. IsBuilt tree s gives n c.args.entries c.build_tree.new.source.entries c.args.serializer.now c.build_tree.new.serializer c.in_ok-root.root in
    let built = whole_built E m.key_shape m.value_shape m.keys (m.values c.args.nodes.now) s gives above wide c.args.claimed c.requires.some.0 levels.wide levels.least levels.fits c.args.entries c.build_tree.new.source.entries c.args.serializer.now c.build_tree.new.serializer c.in_ok-root.root (subst Built all c.in_ok-root.ensures.built) in
    let e = c.in_err-finish.field-0.0 in
    let rest = c.in_err-finish.ensures in
    let Tells : ℕ → Type 0 = λ n. e ≡ IteratorLengthMismatch n (min (n + length rest.0) (2 ^ 64 - 1)) in
    on_err _ _ c.from_residual-in_err-finish.result e (search rules)
    (inr (exceeded E m.key_shape m.value_shape m.keys (m.values c.args.nodes.now) s m.parts g.I.Iterator.next_gives c.args.claimed c.args.entries c.build_tree.new.source.entries c.args.serializer.now c.build_tree.new.serializer c.in_ok-root.root built.0 built.1 built.2 built.3 rest.0 e rest.1 rest.2.0 (subst Tells c.in_ok-root.ensures.counts.0 rest.2.1)))

pub returns : goal.returns
returns g c =
    let E = g.row.E in
    let m = g.N.NodeStep in
    let s : WriterMembers g.row.S.Denot = record { known = g.S.Registry.known; pos = g.S.Positional.pos; OBSERVABLE = g.S.Writer.OBSERVABLE; COUNTS = g.S.Writer.COUNTS; contents = g.S.Writer.contents; failures = g.S.Writer.failures; last_error = g.S.Writer.last_error } in
    let gives = GivesAs m.parts g.I.Iterator.next_gives in
    let levels = c.levels_above-above.ensures in
    let above = c.levels_above-above.result.0 in
    let wide = c.levels_above-above.result.1 in
    let tree = packed_spelling E m.key_shape m.value_shape m.keys (m.values c.args.nodes.now) (suc above) in
    let all = all_items E m.key_shape m.value_shape m.keys (m.values c.args.nodes.now) s gives above wide c.args.claimed c.requires.some.0 levels.wide levels.least levels.fits (some_wide E above wide levels.wide) in
    let Built : ℕ → Type 0 = λ n. IsBuilt tree s gives n c.args.entries c.build_tree.new.source.entries c.args.serializer.now c.build_tree.new.serializer c.in_ok-root.root in
    let built = whole_built E m.key_shape m.value_shape m.keys (m.values c.args.nodes.now) s gives above wide c.args.claimed c.requires.some.0 levels.wide levels.least levels.fits c.args.entries c.build_tree.new.source.entries c.args.serializer.now c.build_tree.new.serializer c.in_ok-root.root (subst Built all c.in_ok-root.ensures.built) in
    let rest = c.in_ok-finish.ensures in
    (built.0, came_all E m.key_shape m.value_shape m.keys (m.values c.args.nodes.now) s m.parts g.I.Iterator.next_gives c.args.claimed c.args.entries c.build_tree.new.source.entries c.args.serializer.now c.build_tree.new.serializer c.in_ok-root.root built.0 built.1 built.2 built.3 rest.0 rest.1 rest.2, built.2, built.3)
