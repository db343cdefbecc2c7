use Rattle.std.proofs.Common.{rules, ◌≡◌, ℕ, suc, ◌+◌, ◌-◌, ◌*◌, ◌/◌, ◌^◌, ◌<◌, ◌≤◌, min, [], length-set, set, replicate, take, refl, ap, sym, subst, ◌∙◌, arith}
use Rattle.std.proofs.lemmas.List.{length-replicate}
use Rattle.archive_shape_layout.specs.Writing.{WriterMembers}
use Rattle.archive_shape_layout.specs.declared.error.Error.TheVariants.{IteratorLengthMismatch}
use Rattle.archive_btree_spelling.specs.Maps.{packed_spelling}
use Rattle.archive_forms_laws.specs.Taking.{GivesAs}
use Rattle.archive_btree_writing.proofs.Taken.{take_set, on_err}
use Rattle.archive_btree_writing.proofs.Closing.{none_built, ended_behind, cut_wider}
use Rattle.archive_btree_writing.proofs.Widths.{ToGo, some_wide, inner_above, below_is, child_size, togo_none, togo_more, togo_room, togo_end}
use Rattle.archive_btree_writing.proofs.Opening.{open_state, open_came}
use Rattle.archive_btree_writing.proofs.Stepping.{takes_later, takes_all}
use Rattle.archive_btree_writing.proofs.BuildingChildren.{opened_none, opened_more, cut_below, may_come_end, state_end, built_inner, cut_inner}
use Rattle.archive_btree_writing.proofs.building.tree.+tree.Goals as goal
use Rattle.archive_forms_writing.proofs.Arrays.{take_one}

-- ---- an inner node

pub build_inner-build_lesser-requires : goal.build_inner-build_lesser-requires
build_inner-build_lesser-requires g t c κs within =
    let E = g.row.E in
    let b = c.args.wide / (E + 1) in
    let up = inner_above E c.args.above c.args.wide c.args.last c.requires.some.0 c.requires.wide c.requires.fits c.requires.many in
    let go = togo_room E c.args.above c.args.wide c.args.last c.requires.some.0 c.requires.wide c.requires.fits c.requires.many 0 c.args.last 0 (omega arith) (togo_none E c.args.above c.args.wide c.args.last c.requires.some.0 c.requires.wide c.requires.fits c.requires.many) in
    let less : 3 * (c.args.above - 1) + 3 < t = omega (arith, up) in
    let below = below_is E c.args.above c.args.wide c.args.last c.requires.some.0 c.requires.wide c.requires.fits c.requires.many in
    let share : c.min.result ≤ E * b = omega (arith, c.min.ensures) in
    let wanted : c.args.source.now.taken + (b - 1 + c.min.result) < c.args.source.now.claimed = omega (arith, c.min.ensures, go, c.requires.wanted, c.requires.some) in
    let some = c.requires.some in
    let calls = c.requires.calls in
    let room = c.requires.room in
    let state = c.requires.state in
    let takes = c.requires.takes in
    search rules

pub build_inner-returns-in_err-child-clause-built : goal.build_inner-returns-in_err-child-clause-built
build_inner-returns-in_err-child-clause-built g t c =
    let E = g.row.E in
    let m = g.N.NodeStep in
    let s : WriterMembers g.row.S.Denot = record { known = g.S.Registry.known; pos = g.S.Positional.pos; OBSERVABLE = g.S.Writer.OBSERVABLE; COUNTS = g.S.Writer.COUNTS; contents = g.S.Writer.contents; failures = g.S.Writer.failures; last_error = g.S.Writer.last_error } in
    let up = inner_above E c.args.above c.args.wide c.args.last c.requires.some.0 c.requires.wide c.requires.fits c.requires.many in
    let n = c.args.wide - 1 + c.args.last in
    let b = c.args.wide / (E + 1) in
    let size = ap (λ z. b - 1 + z) c.min.ensures ∙ child_size E c.args.above c.args.wide c.args.last c.requires.some.0 c.requires.wide c.requires.fits c.requires.many 0 c.args.last (omega arith) (omega arith) in
    let go = togo_room E c.args.above c.args.wide c.args.last c.requires.some.0 c.requires.wide c.requires.fits c.requires.many 0 c.args.last 0 (omega arith) (togo_none E c.args.above c.args.wide c.args.last c.requires.some.0 c.requires.wide c.requires.fits c.requires.many) in
    on_err _ _ c.from_residual.result c.in_err-child.field-0.0 (search rules)
    (cut_below E m.key_shape m.value_shape m.keys (m.values c.args.nodes.now) s m.parts g.I.Iterator.next_gives c.args.source.now.entries c.args.serializer.now c.args.above up n c.requires.many 0 0 (b - 1 + c.min.result) 1 c.args.source.now.entries c.args.serializer.now c.build_lesser.new.serializer [] [] c.args.source.now.claimed c.args.source.now.taken c.args.source.now.claimed c.args.source.now.taken c.in_err-child.field-0.0
    size (omega (arith, go, c.min.ensures)) (λ z. absurd (omega (arith, z, c.requires.some))) (omega (arith, go, c.min.ensures, c.requires.some)) refl (omega arith)
    (opened_none E m.key_shape m.value_shape m.keys (m.values c.args.nodes.now) s m.parts g.I.Iterator.next_gives c.args.source.now.entries c.args.serializer.now c.args.above up n c.requires.many)
    c.in_err-child.ensures.built)

pub build_inner-loop-i-init : goal.build_inner-loop-i-init
build_inner-loop-i-init g t c =
    let E = g.row.E in
    let m = g.N.NodeStep in
    let s : WriterMembers g.row.S.Denot = record { known = g.S.Registry.known; pos = g.S.Positional.pos; OBSERVABLE = g.S.Writer.OBSERVABLE; COUNTS = g.S.Writer.COUNTS; contents = g.S.Writer.contents; failures = g.S.Writer.failures; last_error = g.S.Writer.last_error } in
    let up = inner_above E c.args.above c.args.wide c.args.last c.requires.some.0 c.requires.wide c.requires.fits c.requires.many in
    let n = c.args.wide - 1 + c.args.last in
    let b = c.args.wide / (E + 1) in
    let some = c.requires.some.0 in
    let told = c.in_ok-child.ensures.counts in
    let built = c.in_ok-child.ensures.built in
    let size = ap (λ z. b - 1 + z) c.min.ensures ∙ child_size E c.args.above c.args.wide c.args.last c.requires.some.0 c.requires.wide c.requires.fits c.requires.many 0 c.args.last (omega arith) (omega arith) in
    let more = togo_more E c.args.above c.args.wide c.args.last c.requires.some.0 c.requires.wide c.requires.fits c.requires.many 0 c.args.last 0 some (togo_none E c.args.above c.args.wide c.args.last c.requires.some.0 c.requires.wide c.requires.fits c.requires.many) in
    let came : c.build_lesser.new.source.taken - c.args.source.now.taken ≡ 0 + (b - 1 + min c.args.last (E * b)) + 1 = omega (arith, told.1, c.min.ensures) in
    let Left : ℕ → Type 0 = λ x. ToGo E c.args.above c.args.wide c.args.last c.requires.some.0 c.requires.wide c.requires.fits c.requires.many 1 x (c.build_lesser.new.source.taken - c.args.source.now.taken) in
    let Done : ℕ → Type 0 = λ x. ToGo E c.args.above c.args.wide c.args.last c.requires.some.0 c.requires.wide c.requires.fits c.requires.many 1 (c.args.last - E * b) x in
    record {
      pointers = length-replicate E c.in_ok-child.child;
      entries = length-replicate E c.in_ok-child.entry;
      within = some;
      left = omega (arith, c.saturating_sub-left.ensures);
      claims = told.0;
      further = omega (arith, told.1);
      togo = subst Left (sym c.saturating_sub-left.ensures) (subst Done (sym came) more);
      calls = c.in_ok-child.ensures.calls;
      opened =
          opened_more E m.key_shape m.value_shape m.keys (m.values c.args.nodes.now) s m.parts g.I.Iterator.next_gives c.args.source.now.entries c.args.serializer.now c.args.above up n c.requires.many 0 0 (b - 1 + c.min.result) (c.build_lesser.new.source.taken - c.args.source.now.taken) c.args.source.now.entries built.0 c.build_lesser.new.source.entries c.args.serializer.now c.build_lesser.new.serializer
          [] (take 1 (replicate E c.in_ok-child.child)) [] (take 1 (replicate E c.in_ok-child.entry)) c.in_ok-child.child c.in_ok-child.entry
          some size (omega (arith, told.1)) (take_one E c.in_ok-child.child some) (take_one E c.in_ok-child.entry some)
          (opened_none E m.key_shape m.value_shape m.keys (m.values c.args.nodes.now) s m.parts g.I.Iterator.next_gives c.args.source.now.entries c.args.serializer.now c.args.above up n c.requires.many)
          built.1 built.2;
    }

pub build_inner-overflow_sub-above-in-loop-i : goal.build_inner-overflow_sub-above-in-loop-i
build_inner-overflow_sub-above-in-loop-i g t c =
    let up = inner_above g.row.E c.args.above c.args.wide c.args.last c.requires.some.0 c.requires.wide c.requires.fits c.requires.many in
    omega (arith, up)

pub build_inner-build_lesser-requires-in-loop-i : goal.build_inner-build_lesser-requires-in-loop-i
build_inner-build_lesser-requires-in-loop-i g t c κs within =
    let E = g.row.E in
    let m = g.N.NodeStep in
    let s : WriterMembers g.row.S.Denot = record { known = g.S.Registry.known; pos = g.S.Positional.pos; OBSERVABLE = g.S.Writer.OBSERVABLE; COUNTS = g.S.Writer.COUNTS; contents = g.S.Writer.contents; failures = g.S.Writer.failures; last_error = g.S.Writer.last_error } in
    let up = inner_above E c.args.above c.args.wide c.args.last c.requires.some.0 c.requires.wide c.requires.fits c.requires.many in
    let n = c.args.wide - 1 + c.args.last in
    let b = c.args.wide / (E + 1) in
    let inv = c.loop-i.invariant in
    let done = c.loop-i.source.taken - c.args.source.now.taken in
    let child = packed_spelling E m.key_shape m.value_shape m.keys (m.values c.args.nodes.now) (suc (c.args.above - 1)) in
    let now = open_state E n child s m.parts g.I.Iterator.next_gives c.args.source.now.entries c.args.serializer.now c.loop-i.i (E - c.loop-i.i) done c.loop-i.source.entries c.loop-i.serializer (take c.loop-i.i c.loop-i.lesser) (take c.loop-i.i c.loop-i.own) inv.opened c.requires.state in
    let came = open_came E n child s m.parts g.I.Iterator.next_gives c.args.source.now.entries c.args.serializer.now c.loop-i.i (E - c.loop-i.i) done c.loop-i.source.entries c.loop-i.serializer (take c.loop-i.i c.loop-i.lesser) (take c.loop-i.i c.loop-i.own) inv.opened in
    let go = togo_room E c.args.above c.args.wide c.args.last c.requires.some.0 c.requires.wide c.requires.fits c.requires.many c.loop-i.i c.loop-i.left done inv.within inv.togo in
    let less : 3 * (c.args.above - 1) + 3 < t = omega (arith, up) in
    let below = below_is E c.args.above c.args.wide c.args.last c.requires.some.0 c.requires.wide c.requires.fits c.requires.many in
    let share : c.min-in-loop-i.result ≤ E * b = omega (arith, c.min-in-loop-i.ensures) in
    let wanted : c.loop-i.source.taken + (b - 1 + c.min-in-loop-i.result) < c.loop-i.source.claimed = omega (arith, c.min-in-loop-i.ensures, go, c.requires.wanted, inv.claims, inv.further, c.loop-i-test.true) in
    let some = c.requires.some in
    let calls = inv.calls in
    let room : s.failures c.loop-i.serializer < 2 ^ 64 - 1 = omega (arith, now.1, c.requires.room) in
    let state = now.0 in
    let takes = takes_later g.I.Iterator.next_gives (g.N.NodeStep.takes c.args.nodes.now) c.args.source.now.entries c.requires.takes c.loop-i.source.entries came.0 came.1 in
    search rules

pub build_inner-returns-in_err-child-2-clause-built : goal.build_inner-returns-in_err-child-2-clause-built
build_inner-returns-in_err-child-2-clause-built g t c =
    let E = g.row.E in
    let m = g.N.NodeStep in
    let s : WriterMembers g.row.S.Denot = record { known = g.S.Registry.known; pos = g.S.Positional.pos; OBSERVABLE = g.S.Writer.OBSERVABLE; COUNTS = g.S.Writer.COUNTS; contents = g.S.Writer.contents; failures = g.S.Writer.failures; last_error = g.S.Writer.last_error } in
    let up = inner_above E c.args.above c.args.wide c.args.last c.requires.some.0 c.requires.wide c.requires.fits c.requires.many in
    let n = c.args.wide - 1 + c.args.last in
    let b = c.args.wide / (E + 1) in
    let inv = c.loop-i.invariant in
    let done = c.loop-i.source.taken - c.args.source.now.taken in
    let size = ap (λ z. b - 1 + z) c.min-in-loop-i.ensures ∙ child_size E c.args.above c.args.wide c.args.last c.requires.some.0 c.requires.wide c.requires.fits c.requires.many c.loop-i.i c.loop-i.left inv.within inv.left in
    let go = togo_room E c.args.above c.args.wide c.args.last c.requires.some.0 c.requires.wide c.requires.fits c.requires.many c.loop-i.i c.loop-i.left done inv.within inv.togo in
    on_err _ _ c.from_residual-in_err-child-2.result c.in_err-child-2.field-0.0 (search rules)
    (cut_below E m.key_shape m.value_shape m.keys (m.values c.args.nodes.now) s m.parts g.I.Iterator.next_gives c.args.source.now.entries c.args.serializer.now c.args.above up n c.requires.many c.loop-i.i done (b - 1 + c.min-in-loop-i.result) 1 c.loop-i.source.entries c.loop-i.serializer c.build_lesser-in-loop-i.new.serializer (take c.loop-i.i c.loop-i.lesser) (take c.loop-i.i c.loop-i.own)
    c.args.source.now.claimed c.args.source.now.taken c.loop-i.source.claimed c.loop-i.source.taken c.in_err-child-2.field-0.0
    size (omega (arith, go, c.min-in-loop-i.ensures)) (λ z. absurd (omega (arith, z, c.loop-i-test.true))) (omega (arith, go, c.min-in-loop-i.ensures, c.loop-i-test.true)) inv.claims (omega (arith, inv.further))
    inv.opened c.in_err-child-2.ensures.built)

pub build_inner-loop-i-preserved : goal.build_inner-loop-i-preserved
build_inner-loop-i-preserved g t c =
    let E = g.row.E in
    let m = g.N.NodeStep in
    let s : WriterMembers g.row.S.Denot = record { known = g.S.Registry.known; pos = g.S.Positional.pos; OBSERVABLE = g.S.Writer.OBSERVABLE; COUNTS = g.S.Writer.COUNTS; contents = g.S.Writer.contents; failures = g.S.Writer.failures; last_error = g.S.Writer.last_error } in
    let up = inner_above E c.args.above c.args.wide c.args.last c.requires.some.0 c.requires.wide c.requires.fits c.requires.many in
    let n = c.args.wide - 1 + c.args.last in
    let b = c.args.wide / (E + 1) in
    let inv = c.loop-i.invariant in
    let done = c.loop-i.source.taken - c.args.source.now.taken in
    let told = c.in_ok-child-2.ensures.counts in
    let built = c.in_ok-child-2.ensures.built in
    let less = c.loop-i-test.true in
    let size = ap (λ z. b - 1 + z) c.min-in-loop-i.ensures ∙ child_size E c.args.above c.args.wide c.args.last c.requires.some.0 c.requires.wide c.requires.fits c.requires.many c.loop-i.i c.loop-i.left inv.within inv.left in
    let more = togo_more E c.args.above c.args.wide c.args.last c.requires.some.0 c.requires.wide c.requires.fits c.requires.many c.loop-i.i c.loop-i.left done less inv.togo in
    let after = c.build_lesser-in-loop-i.new.source.taken - c.args.source.now.taken in
    let came : after ≡ done + (b - 1 + min c.loop-i.left (E * b)) + 1 = omega (arith, told.1, c.min-in-loop-i.ensures, inv.further) in
    let Left : ℕ → Type 0 = λ x. ToGo E c.args.above c.args.wide c.args.last c.requires.some.0 c.requires.wide c.requires.fits c.requires.many (c.loop-i.i + 1) x after in
    let Done : ℕ → Type 0 = λ x. ToGo E c.args.above c.args.wide c.args.last c.requires.some.0 c.requires.wide c.requires.fits c.requires.many (c.loop-i.i + 1) (c.loop-i.left - E * b) x in
    record {
      pointers = length-set _ _ _ ∙ inv.pointers;
      entries = length-set _ _ _ ∙ inv.entries;
      within = omega (arith, less);
      left = omega (arith, c.saturating_sub-left-in-loop-i.ensures, inv.left);
      claims = told.0 ∙ inv.claims;
      further = omega (arith, told.1, inv.further);
      togo = subst Left (sym c.saturating_sub-left-in-loop-i.ensures) (subst Done (sym came) more);
      calls = c.in_ok-child-2.ensures.calls;
      opened =
          opened_more E m.key_shape m.value_shape m.keys (m.values c.args.nodes.now) s m.parts g.I.Iterator.next_gives c.args.source.now.entries c.args.serializer.now c.args.above up n c.requires.many c.loop-i.i done (b - 1 + c.min-in-loop-i.result) after c.loop-i.source.entries built.0 c.build_lesser-in-loop-i.new.source.entries c.loop-i.serializer c.build_lesser-in-loop-i.new.serializer
          (take c.loop-i.i c.loop-i.lesser) (take (c.loop-i.i + 1) (set c.loop-i.lesser c.loop-i.i c.in_ok-child-2.child)) (take c.loop-i.i c.loop-i.own) (take (c.loop-i.i + 1) (set c.loop-i.own c.loop-i.i c.in_ok-child-2.entry)) c.in_ok-child-2.child c.in_ok-child-2.entry
          less size (omega (arith, told.1, inv.further)) (take_set c.loop-i.lesser c.loop-i.i c.in_ok-child-2.child (omega (arith, less, inv.pointers))) (take_set c.loop-i.own c.loop-i.i c.in_ok-child-2.entry (omega (arith, less, inv.entries)))
          inv.opened built.1 built.2;
    }

pub build_inner-overflow_sub-above-2 : goal.build_inner-overflow_sub-above-2
build_inner-overflow_sub-above-2 g t c =
    let up = inner_above g.row.E c.args.above c.args.wide c.args.last c.requires.some.0 c.requires.wide c.requires.fits c.requires.many in
    omega (arith, up)

pub build_inner-build_tree-requires : goal.build_inner-build_tree-requires
build_inner-build_tree-requires g t c κs within =
    let E = g.row.E in
    let m = g.N.NodeStep in
    let s : WriterMembers g.row.S.Denot = record { known = g.S.Registry.known; pos = g.S.Positional.pos; OBSERVABLE = g.S.Writer.OBSERVABLE; COUNTS = g.S.Writer.COUNTS; contents = g.S.Writer.contents; failures = g.S.Writer.failures; last_error = g.S.Writer.last_error } in
    let up = inner_above E c.args.above c.args.wide c.args.last c.requires.some.0 c.requires.wide c.requires.fits c.requires.many in
    let n = c.args.wide - 1 + c.args.last in
    let b = c.args.wide / (E + 1) in
    let inv = c.loop-i.invariant in
    let done = c.loop-i.source.taken - c.args.source.now.taken in
    let child = packed_spelling E m.key_shape m.value_shape m.keys (m.values c.args.nodes.now) (suc (c.args.above - 1)) in
    let now = open_state E n child s m.parts g.I.Iterator.next_gives c.args.source.now.entries c.args.serializer.now c.loop-i.i (E - c.loop-i.i) done c.loop-i.source.entries c.loop-i.serializer (take c.loop-i.i c.loop-i.lesser) (take c.loop-i.i c.loop-i.own) inv.opened c.requires.state in
    let came = open_came E n child s m.parts g.I.Iterator.next_gives c.args.source.now.entries c.args.serializer.now c.loop-i.i (E - c.loop-i.i) done c.loop-i.source.entries c.loop-i.serializer (take c.loop-i.i c.loop-i.lesser) (take c.loop-i.i c.loop-i.own) inv.opened in
    let end : c.loop-i.i ≡ E = omega (arith, c.loop-i-test.false, inv.within) in
    let ends = togo_end E c.args.above c.args.wide c.args.last c.requires.some.0 c.requires.wide c.requires.fits c.requires.many c.loop-i.i c.loop-i.left done end inv.left inv.togo in
    let less : 3 * (c.args.above - 1) + 2 < t = omega (arith, up) in
    let below = below_is E c.args.above c.args.wide c.args.last c.requires.some.0 c.requires.wide c.requires.fits c.requires.many in
    let share : c.loop-i.left ≤ E * b = omega (arith, ends.0) in
    let wanted : c.loop-i.source.taken + (b - 1 + c.loop-i.left) ≤ c.loop-i.source.claimed = omega (arith, ends.1, c.requires.wanted, inv.claims, inv.further) in
    let some = c.requires.some in
    let calls = inv.calls in
    let room : s.failures c.loop-i.serializer < 2 ^ 64 - 1 = omega (arith, now.1, c.requires.room) in
    let state = now.0 in
    let takes = takes_later g.I.Iterator.next_gives (g.N.NodeStep.takes c.args.nodes.now) c.args.source.now.entries c.requires.takes c.loop-i.source.entries came.0 came.1 in
    search rules

pub build_inner-returns-in_err-greater-clause-built : goal.build_inner-returns-in_err-greater-clause-built
build_inner-returns-in_err-greater-clause-built g t c =
    let E = g.row.E in
    let m = g.N.NodeStep in
    let s : WriterMembers g.row.S.Denot = record { known = g.S.Registry.known; pos = g.S.Positional.pos; OBSERVABLE = g.S.Writer.OBSERVABLE; COUNTS = g.S.Writer.COUNTS; contents = g.S.Writer.contents; failures = g.S.Writer.failures; last_error = g.S.Writer.last_error } in
    let up = inner_above E c.args.above c.args.wide c.args.last c.requires.some.0 c.requires.wide c.requires.fits c.requires.many in
    let n = c.args.wide - 1 + c.args.last in
    let b = c.args.wide / (E + 1) in
    let inv = c.loop-i.invariant in
    let done = c.loop-i.source.taken - c.args.source.now.taken in
    let end : c.loop-i.i ≡ E = omega (arith, c.loop-i-test.false, inv.within) in
    let ends = togo_end E c.args.above c.args.wide c.args.last c.requires.some.0 c.requires.wide c.requires.fits c.requires.many c.loop-i.i c.loop-i.left done end inv.left inv.togo in
    let size = ap (λ z. b - 1 + z) (sym ends.0) ∙ child_size E c.args.above c.args.wide c.args.last c.requires.some.0 c.requires.wide c.requires.fits c.requires.many c.loop-i.i c.loop-i.left inv.within inv.left in
    on_err _ _ c.from_residual-in_err-greater.result c.in_err-greater.field-0.0 (search rules)
    (cut_below E m.key_shape m.value_shape m.keys (m.values c.args.nodes.now) s m.parts g.I.Iterator.next_gives c.args.source.now.entries c.args.serializer.now c.args.above up n c.requires.many c.loop-i.i done (b - 1 + c.loop-i.left) 0 c.loop-i.source.entries c.loop-i.serializer c.build_tree.new.serializer (take c.loop-i.i c.loop-i.lesser) (take c.loop-i.i c.loop-i.own)
    c.args.source.now.claimed c.args.source.now.taken c.loop-i.source.claimed c.loop-i.source.taken c.in_err-greater.field-0.0
    size (omega (arith, ends.1, end)) (λ z. ends.1) (omega (arith, ends.1)) inv.claims (omega (arith, inv.further))
    inv.opened c.in_err-greater.ensures.built)

pub build_inner-write_inner-requires-clause-full : goal.build_inner-write_inner-requires-clause-full
build_inner-write_inner-requires-clause-full g t c =
    let inv = c.loop-i.invariant in
    inv.entries

pub build_inner-write_inner-requires-clause-some : goal.build_inner-write_inner-requires-clause-some
build_inner-write_inner-requires-clause-some g t c =
    c.requires.some

pub build_inner-write_inner-requires-clause-pointers : goal.build_inner-write_inner-requires-clause-pointers
build_inner-write_inner-requires-clause-pointers g t c =
    let inv = c.loop-i.invariant in
    inv.pointers

pub build_inner-write_inner-requires-clause-taken : goal.build_inner-write_inner-requires-clause-taken
build_inner-write_inner-requires-clause-taken g t c =
    let E = g.row.E in
    let m = g.N.NodeStep in
    let s : WriterMembers g.row.S.Denot = record { known = g.S.Registry.known; pos = g.S.Positional.pos; OBSERVABLE = g.S.Writer.OBSERVABLE; COUNTS = g.S.Writer.COUNTS; contents = g.S.Writer.contents; failures = g.S.Writer.failures; last_error = g.S.Writer.last_error } in
    let up = inner_above E c.args.above c.args.wide c.args.last c.requires.some.0 c.requires.wide c.requires.fits c.requires.many in
    let n = c.args.wide - 1 + c.args.last in
    let b = c.args.wide / (E + 1) in
    let inv = c.loop-i.invariant in
    let done = c.loop-i.source.taken - c.args.source.now.taken in
    let end : c.loop-i.i ≡ E = omega (arith, c.loop-i-test.false, inv.within) in
    let ends = togo_end E c.args.above c.args.wide c.args.last c.requires.some.0 c.requires.wide c.requires.fits c.requires.many c.loop-i.i c.loop-i.left done end inv.left inv.togo in
    takes_all g.I.Iterator.next_gives (g.N.NodeStep.takes c.args.nodes.now) c.args.source.now.entries c.requires.takes c.loop-i.own (may_come_end E m.key_shape m.value_shape m.keys (m.values c.args.nodes.now) s m.parts g.I.Iterator.next_gives c.args.source.now.entries c.args.serializer.now c.args.above up n c.requires.many done (b - 1 + c.loop-i.left) c.loop-i.i c.loop-i.source.entries c.build_tree.new.source.entries c.loop-i.serializer c.build_tree.new.serializer c.build_tree.new.serializer c.loop-i.lesser c.loop-i.own c.in_ok-greater.greater end inv.pointers inv.entries ends.1 inv.opened c.in_ok-greater.ensures.built)

pub build_inner-write_inner-requires-clause-room : goal.build_inner-write_inner-requires-clause-room
build_inner-write_inner-requires-clause-room g t c =
    let E = g.row.E in
    let m = g.N.NodeStep in
    let s : WriterMembers g.row.S.Denot = record { known = g.S.Registry.known; pos = g.S.Positional.pos; OBSERVABLE = g.S.Writer.OBSERVABLE; COUNTS = g.S.Writer.COUNTS; contents = g.S.Writer.contents; failures = g.S.Writer.failures; last_error = g.S.Writer.last_error } in
    let up = inner_above E c.args.above c.args.wide c.args.last c.requires.some.0 c.requires.wide c.requires.fits c.requires.many in
    let n = c.args.wide - 1 + c.args.last in
    let b = c.args.wide / (E + 1) in
    let inv = c.loop-i.invariant in
    let done = c.loop-i.source.taken - c.args.source.now.taken in
    let end : c.loop-i.i ≡ E = omega (arith, c.loop-i-test.false, inv.within) in
    let ends = togo_end E c.args.above c.args.wide c.args.last c.requires.some.0 c.requires.wide c.requires.fits c.requires.many c.loop-i.i c.loop-i.left done end inv.left inv.togo in
    let state = state_end E m.key_shape m.value_shape m.keys (m.values c.args.nodes.now) s m.parts g.I.Iterator.next_gives c.args.source.now.entries c.args.serializer.now c.args.above up n c.requires.many done (b - 1 + c.loop-i.left) c.loop-i.i c.loop-i.source.entries c.build_tree.new.source.entries c.loop-i.serializer c.build_tree.new.serializer c.build_tree.new.serializer c.loop-i.lesser c.loop-i.own c.in_ok-greater.greater end inv.pointers inv.entries ends.1 inv.opened c.in_ok-greater.ensures.built c.requires.state in
    let room : s.failures c.build_tree.new.serializer < 2 ^ 64 - 1 = omega (arith, state.1, c.requires.room) in
    omega (arith, state.1, c.requires.room)

pub build_inner-write_inner-requires-clause-state : goal.build_inner-write_inner-requires-clause-state
build_inner-write_inner-requires-clause-state g t c =
    let E = g.row.E in
    let m = g.N.NodeStep in
    let s : WriterMembers g.row.S.Denot = record { known = g.S.Registry.known; pos = g.S.Positional.pos; OBSERVABLE = g.S.Writer.OBSERVABLE; COUNTS = g.S.Writer.COUNTS; contents = g.S.Writer.contents; failures = g.S.Writer.failures; last_error = g.S.Writer.last_error } in
    let up = inner_above E c.args.above c.args.wide c.args.last c.requires.some.0 c.requires.wide c.requires.fits c.requires.many in
    let n = c.args.wide - 1 + c.args.last in
    let b = c.args.wide / (E + 1) in
    let inv = c.loop-i.invariant in
    let done = c.loop-i.source.taken - c.args.source.now.taken in
    let end : c.loop-i.i ≡ E = omega (arith, c.loop-i-test.false, inv.within) in
    let ends = togo_end E c.args.above c.args.wide c.args.last c.requires.some.0 c.requires.wide c.requires.fits c.requires.many c.loop-i.i c.loop-i.left done end inv.left inv.togo in
    let state = state_end E m.key_shape m.value_shape m.keys (m.values c.args.nodes.now) s m.parts g.I.Iterator.next_gives c.args.source.now.entries c.args.serializer.now c.args.above up n c.requires.many done (b - 1 + c.loop-i.left) c.loop-i.i c.loop-i.source.entries c.build_tree.new.source.entries c.loop-i.serializer c.build_tree.new.serializer c.build_tree.new.serializer c.loop-i.lesser c.loop-i.own c.in_ok-greater.greater end inv.pointers inv.entries ends.1 inv.opened c.in_ok-greater.ensures.built c.requires.state in
    state.0

pub build_inner-returns-clause-built : goal.build_inner-returns-clause-built
build_inner-returns-clause-built g t c =
    let E = g.row.E in
    let m = g.N.NodeStep in
    let s : WriterMembers g.row.S.Denot = record { known = g.S.Registry.known; pos = g.S.Positional.pos; OBSERVABLE = g.S.Writer.OBSERVABLE; COUNTS = g.S.Writer.COUNTS; contents = g.S.Writer.contents; failures = g.S.Writer.failures; last_error = g.S.Writer.last_error } in
    let up = inner_above E c.args.above c.args.wide c.args.last c.requires.some.0 c.requires.wide c.requires.fits c.requires.many in
    let n = c.args.wide - 1 + c.args.last in
    let b = c.args.wide / (E + 1) in
    let inv = c.loop-i.invariant in
    let done = c.loop-i.source.taken - c.args.source.now.taken in
    let end : c.loop-i.i ≡ E = omega (arith, c.loop-i-test.false, inv.within) in
    let ends = togo_end E c.args.above c.args.wide c.args.last c.requires.some.0 c.requires.wide c.requires.fits c.requires.many c.loop-i.i c.loop-i.left done end inv.left inv.togo in
    built_inner E m.key_shape m.value_shape m.keys (m.values c.args.nodes.now) s m.parts g.I.Iterator.next_gives c.args.source.now.entries c.args.serializer.now c.args.above up n c.requires.many done (b - 1 + c.loop-i.left) c.loop-i.i c.loop-i.source.entries c.build_tree.new.source.entries c.loop-i.serializer c.build_tree.new.serializer c.write_inner.new.serializer c.loop-i.lesser c.loop-i.own c.in_ok-greater.greater end inv.pointers inv.entries ends.1 inv.opened c.in_ok-greater.ensures.built c.in_ok-pos.pos c.in_ok-pos.ensures

pub build_inner-returns-in_err-pos-clause-built : goal.build_inner-returns-in_err-pos-clause-built
build_inner-returns-in_err-pos-clause-built g t c =
    let E = g.row.E in
    let m = g.N.NodeStep in
    let s : WriterMembers g.row.S.Denot = record { known = g.S.Registry.known; pos = g.S.Positional.pos; OBSERVABLE = g.S.Writer.OBSERVABLE; COUNTS = g.S.Writer.COUNTS; contents = g.S.Writer.contents; failures = g.S.Writer.failures; last_error = g.S.Writer.last_error } in
    let up = inner_above E c.args.above c.args.wide c.args.last c.requires.some.0 c.requires.wide c.requires.fits c.requires.many in
    let n = c.args.wide - 1 + c.args.last in
    let b = c.args.wide / (E + 1) in
    let inv = c.loop-i.invariant in
    let done = c.loop-i.source.taken - c.args.source.now.taken in
    let end : c.loop-i.i ≡ E = omega (arith, c.loop-i-test.false, inv.within) in
    let ends = togo_end E c.args.above c.args.wide c.args.last c.requires.some.0 c.requires.wide c.requires.fits c.requires.many c.loop-i.i c.loop-i.left done end inv.left inv.togo in
    on_err _ _ c.from_residual-in_err-pos.result c.in_err-pos.field-0.0 (search rules)
    (cut_inner E m.key_shape m.value_shape m.keys (m.values c.args.nodes.now) s m.parts g.I.Iterator.next_gives c.args.source.now.entries c.args.serializer.now c.args.above up n c.requires.many done (b - 1 + c.loop-i.left) c.loop-i.i c.loop-i.source.entries c.build_tree.new.source.entries c.loop-i.serializer c.build_tree.new.serializer c.write_inner.new.serializer c.loop-i.lesser c.loop-i.own c.in_ok-greater.greater end inv.pointers inv.entries ends.1 inv.opened c.in_ok-greater.ensures.built c.args.source.now.claimed c.args.source.now.taken c.in_err-pos.field-0.0 c.in_err-pos.ensures)

-- ---- what is below a lesser pointer

pub build_lesser-returns-in_err-child-clause-built : goal.build_lesser-returns-in_err-child-clause-built
build_lesser-returns-in_err-child-clause-built g t c =
    let E = g.row.E in
    let m = g.N.NodeStep in
    let s : WriterMembers g.row.S.Denot = record { known = g.S.Registry.known; pos = g.S.Positional.pos; OBSERVABLE = g.S.Writer.OBSERVABLE; COUNTS = g.S.Writer.COUNTS; contents = g.S.Writer.contents; failures = g.S.Writer.failures; last_error = g.S.Writer.last_error } in
    on_err _ _ c.from_residual.result c.in_err-child.field-0.0 (search rules)
    (cut_wider (packed_spelling E m.key_shape m.value_shape m.keys (m.values c.args.nodes.now) (suc c.args.above)) s (GivesAs m.parts g.I.Iterator.next_gives) c.args.source.now.claimed c.args.source.now.taken (c.args.wide - 1 + c.args.last) c.args.source.now.entries c.args.serializer.now c.build_tree.new.serializer c.in_err-child.field-0.0 c.in_err-child.ensures.built)

pub build_lesser-returns-in_err-entry-clause-built : goal.build_lesser-returns-in_err-entry-clause-built
build_lesser-returns-in_err-entry-clause-built g t c =
    let E = g.row.E in
    let m = g.N.NodeStep in
    let s : WriterMembers g.row.S.Denot = record { known = g.S.Registry.known; pos = g.S.Positional.pos; OBSERVABLE = g.S.Writer.OBSERVABLE; COUNTS = g.S.Writer.COUNTS; contents = g.S.Writer.contents; failures = g.S.Writer.failures; last_error = g.S.Writer.last_error } in
    let told = c.in_ok-child.ensures.counts in
    let ended = c.in_err-entry.ensures.taken in
    on_err _ _ c.from_residual-in_err-entry.result c.in_err-entry.field-0.0 (search rules)
    (ended_behind (packed_spelling E m.key_shape m.value_shape m.keys (m.values c.args.nodes.now) (suc c.args.above)) s (GivesAs m.parts g.I.Iterator.next_gives) c.args.source.now.claimed c.args.source.now.taken (c.args.wide - 1 + c.args.last) c.args.source.now.entries c.args.serializer.now c.build_tree.new.source.entries c.take_entry.new.source.entries c.build_tree.new.serializer c.in_ok-child.child c.in_err-entry.field-0.0 c.in_ok-child.ensures.built ended.0
    (ended.1 ∙ ap (λ z. IteratorLengthMismatch z c.build_tree.new.source.taken) told.0 ∙ ap (λ z. IteratorLengthMismatch c.args.source.now.claimed z) told.1))

-- ---- what is below a pointer

pub build_tree-overflow_sub-count : goal.build_tree-overflow_sub-count
build_tree-overflow_sub-count g t c =
    some_wide g.row.E c.args.above c.args.wide c.requires.wide

pub build_tree-returns-then-count-eq0-clause-built : goal.build_tree-returns-then-count-eq0-clause-built
build_tree-returns-then-count-eq0-clause-built g t c =
    let E = g.row.E in
    let m = g.N.NodeStep in
    let s : WriterMembers g.row.S.Denot = record { known = g.S.Registry.known; pos = g.S.Positional.pos; OBSERVABLE = g.S.Writer.OBSERVABLE; COUNTS = g.S.Writer.COUNTS; contents = g.S.Writer.contents; failures = g.S.Writer.failures; last_error = g.S.Writer.last_error } in
    none_built E m.key_shape m.value_shape m.keys (m.values c.args.nodes.now) s m.parts g.I.Iterator.next_gives (packed_spelling E m.key_shape m.value_shape m.keys (m.values c.args.nodes.now) c.args.above) c.args.source.now.entries c.args.serializer.now
    (c.args.wide - 1 + c.args.last) (omega (arith, c.if-count-eq0.true))

pub build_tree-returns-then-count-clause-built : goal.build_tree-returns-then-count-clause-built
build_tree-returns-then-count-clause-built g t c =
    c.build_leaf.ensures.built c.args.above
