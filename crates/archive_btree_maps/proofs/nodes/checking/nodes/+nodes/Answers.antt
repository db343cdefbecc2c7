use Rattle.std.proofs.Common.{rules, arith, refl, ap, sym, subst, ◌≡◌, ◌≢◌, suc, ◌+◌, ◌-◌, ◌*◌, ◌<◌, ◌≤◌, length, max}
use Rattle.std.specs.Prelude.{slice_index}
use Rattle.archive_shape_layout.specs.Bytes.{word_at}
use Rattle.archive_shape_layout.specs.Shape.{size_of, align_of}
use Rattle.archive_shape_layout.specs.Content.{children, node_size, link_node_size}
use Rattle.archive_shape_layout.specs.Content.Part.{node, child}
use Rattle.archive_shape.specs.PartFault.PartFault.{fault_unanswered}
use Rattle.archive_shape.specs.Kept.{range_of}
use Rattle.archive_shape.specs.Steps.{StepTakes}
use Rattle.archive_shape_layout.specs.declared.error.Error.TheVariants.{InvalidSubtreePointer}
use Rattle.archive_shape.proofs.Ordered.{advances_then, advances_within, checked_records}
use Rattle.archive_btree_maps.specs.CheckingNodes.{BeginsNode}
use Rattle.archive_forms_values.proofs.Claimed.{answered, pushed_narrow, pushed_within, last_push}
use Rattle.archive_forms_values.proofs.Claiming.{pushes_of}
use Rattle.archive_btree_maps.proofs.Rooms.{room_of, link_aligned, node_some, one_fits}
use Rattle.archive_btree_maps.proofs.NodeContents.{begin_unanswered, kind_unanswered, absent_is, child_is, child_answered, level_unanswered, child_unanswered}
use Rattle.archive_btree_maps.proofs.Counting.{count_unanswered, none_counted, child_counted, children_next, children_none, all_count_left, one_counted, first_count_fault, none_count_left, all_count_refused}
use Rattle.archive_btree_maps.proofs.NodeChecks.{narrower_inside, narrower_after, realigned, inner_unclaimed, children_refused, entries_refused, inner_counted}
use Rattle.archive_btree_maps.proofs.nodes.checking.nodes.+nodes.Goals as goal

-- ---- a pointer to a child

pub check_child-returns-then-read_word-eq-NO_CHILD-clause-exact : goal.check_child-returns-then-read_word-eq-NO_CHILD-clause-exact
check_child-returns-then-read_word-eq-NO_CHILD-clause-exact g t c = λ names known_key known_value.
    none_counted names c.args.bytes.now (child c.args.level g.row.E g.K.Portable.shape g.V.Portable.shape c.args.pos) (g.C.ArchiveContext.kept c.args.context.now)
    (absent_is names c.args.bytes.now c.args.level g.row.E g.K.Portable.shape g.V.Portable.shape c.args.pos (omega (arith, c.read_word.ensures, c.if-read_word-eq-NO_CHILD.true)))

pub check_child-returns-then-level-gt-MAX_LEVELS-clause-exact : goal.check_child-returns-then-level-gt-MAX_LEVELS-clause-exact
check_child-returns-then-level-gt-MAX_LEVELS-clause-exact g t c = λ names known_key known_value inside before records other.
    let some : word_at c.args.bytes.now c.args.pos ≢ 1 = λ e. omega (arith, e, c.read_word.ensures, c.if-read_word-eq-NO_CHILD.false) in
    fault_unanswered (level_unanswered names c.args.bytes.now c.args.level g.row.E g.K.Portable.shape g.V.Portable.shape c.args.pos (range_of (g.C.ArchiveContext.kept c.args.context.now)) some c.if-level-gt-MAX_LEVELS.true)

pub check_child-returns-in_default-clause-exact : goal.check_child-returns-in_default-clause-exact
check_child-returns-in_default-clause-exact g t c = λ names known_key known_value inside before records other.
    let some : word_at c.args.bytes.now c.args.pos ≢ 1 = λ e. omega (arith, e, c.read_word.ensures, c.if-read_word-eq-NO_CHILD.false) in
    let low : c.args.level ≤ 32 = omega (arith, c.if-level-gt-MAX_LEVELS.false) in
    fault_unanswered (child_unanswered names c.args.bytes.now c.args.level g.row.E g.K.Portable.shape g.V.Portable.shape c.args.pos (range_of (g.C.ArchiveContext.kept c.args.context.now)) _ some low
    (sym c.in_default.ensures) (ap InvalidSubtreePointer c.requires.layout.size))

pub check_child-returns-clause-exact : goal.check_child-returns-clause-exact
check_child-returns-clause-exact g t c = λ names known_key known_value.
    let k = g.K.Portable.shape in
    let v = g.V.Portable.shape in
    let some : word_at c.args.bytes.now c.args.pos ≢ 1 = λ e. omega (arith, e, c.read_word.ensures, c.if-read_word-eq-NO_CHILD.false) in
    let low : c.args.level ≤ 32 = omega (arith, c.if-level-gt-MAX_LEVELS.false) in
    child_counted names c.args.bytes.now (child c.args.level g.row.E k v c.args.pos) (node c.args.level g.row.E k v c.in-Some.to) (g.C.ArchiveContext.kept c.args.context.now) _ _
    (child_is names c.args.bytes.now c.args.level g.row.E k v c.args.pos c.in-Some.to some low (sym c.in-Some.ensures))
    (child_answered names c.args.bytes.now c.args.level g.row.E k v c.args.pos (range_of (g.C.ArchiveContext.kept c.args.context.now)) c.in-Some.to some low (sym c.in-Some.ensures))
    (c.check_node.ensures.exact names known_key known_value)

pub check_child-check_node-requires : goal.check_child-check_node-requires
check_child-check_node-requires g t c κs within =
    let less : 4 * (33 - c.args.level) + 1 < t = omega arith in
    let low : c.args.level ≤ 32 = omega (arith, c.if-level-gt-MAX_LEVELS.false) in
    (less, (within.0, (within.1.0, (within.1.1.0, (within.1.1.1.0, (within.1.1.1.1, ((search rules), (low, (c.requires.layout, (c.requires.range, (c.requires.takes_key, (c.requires.takes_value, (c.requires.checks_key, c.requires.checks_value)))))))))))))

pub check_child-returns-clause-moves : goal.check_child-returns-clause-moves
check_child-returns-clause-moves g t c = c.check_node.ensures.moves

-- ---- children

pub check_children-check_child-requires : goal.check_children-check_child-requires
check_children-check_child-requires g t c κs within =
    let held = c.loop-i.invariant in
    let less : 4 * (33 - c.args.level) + 2 < t = omega arith in
    let here : c.loop-i.at + 4 ≤ length c.args.bytes.now = omega (arith, held.fits, c.loop-i-test.true) in
    let takes_key : StepTakes g.F.Fn g.C.ArchiveContext.kept c.args.bytes.now g.K.Portable.shape c.args.key_step.now (g.C.ArchiveContext.kept c.loop-i.context) g.K.Portable.SIZE =
    λ context pos narrower fits. c.requires.takes_key context pos (narrower_after _ held.advances _ narrower) fits in
    let takes_value : StepTakes g.G.Fn g.C.ArchiveContext.kept c.args.bytes.now g.V.Portable.shape c.args.value_step.now (g.C.ArchiveContext.kept c.loop-i.context) g.V.Portable.SIZE =
    λ context pos narrower fits. c.requires.takes_value context pos (narrower_after _ held.advances _ narrower) fits in
    (less, (within.0, (within.1.0, (within.1.1.0, (within.1.1.1.0, (within.1.1.1.1, ((search rules), (c.requires.level, (c.requires.layout, (here, (advances_within _ c.requires.range held.advances, (takes_key, (takes_value, (c.requires.checks_key, c.requires.checks_value))))))))))))))

pub check_children-returns-clause-moves : goal.check_children-returns-clause-moves
check_children-returns-clause-moves g t c = c.loop-i.invariant.advances

pub check_children-loop-i-init : goal.check_children-loop-i-init
check_children-loop-i-init g t c =
    let count : g.row.E + 1 - 0 ≡ g.row.E + 1 = omega arith in
    let fits = c.requires.fits in
    record {
      advances = record { begins = omega arith; ordered = c.requires.range.ordered; frame = refl };
      fits = subst (λ n. c.args.pos + n * 4 ≤ length c.args.bytes.now) (sym count) fits;
      left = λ names known_key known_value inside before records. (before, records, all_count_left names c.args.bytes.now inside before _ _ _ (ap (λ n. children n c.args.level g.row.E g.K.Portable.shape g.V.Portable.shape c.args.pos) count));
    }

pub check_children-returns-in_err-items-clause-exact : goal.check_children-returns-in_err-items-clause-exact
check_children-returns-in_err-items-clause-exact g t c = λ names known_key known_value.
    let k = g.K.Portable.shape in
    let v = g.V.Portable.shape in
    let held = c.loop-i.invariant in
    let next : g.row.E + 1 - c.loop-i.i ≡ suc (g.row.E + 1 - (c.loop-i.i + 1)) = omega (arith, c.loop-i-test.true) in
    all_count_refused names c.args.bytes.now (children (g.row.E + 1) c.args.level g.row.E k v c.args.pos) _ _ _ c.in_err-items.field-0.0 (search rules)
    (λ inside before records other.
    let mid = held.left names known_key known_value inside before records in
    first_count_fault names c.args.bytes.now inside before (children (g.row.E + 1) c.args.level g.row.E k v c.args.pos) (g.C.ArchiveContext.kept c.args.context.now) mid.2 (children_next _ _ c.args.level g.row.E k v _ next) (c.in_err-items.ensures.exact names known_key known_value inside mid.0 mid.1 other))

pub check_children-loop-i-preserved : goal.check_children-loop-i-preserved
check_children-loop-i-preserved g t c =
    let k = g.K.Portable.shape in
    let v = g.V.Portable.shape in
    let held = c.loop-i.invariant in
    let next : g.row.E + 1 - c.loop-i.i ≡ suc (g.row.E + 1 - (c.loop-i.i + 1)) = omega (arith, c.loop-i-test.true) in
    let checks = c.in_ok-items.ensures in
    let fits = held.fits in
    record {
      advances = advances_then held.advances checks.moves;
      fits = omega (arith, fits, next);
      left = λ names known_key known_value inside before records.
          let mid = held.left names known_key known_value inside before records in
          let here = checks.exact names known_key known_value inside mid.0 mid.1 in (
            here.checked.passes.after,
            checked_records names c.args.bytes.now inside mid.0 here.checked,
            one_counted names c.args.bytes.now inside before (children (g.row.E + 1) c.args.level g.row.E k v c.args.pos) (g.C.ArchiveContext.kept c.args.context.now) mid.2 (children_next _ _ c.args.level g.row.E k v _ next) here (search rules),
          );
    }

pub check_children-returns-clause-exact : goal.check_children-returns-clause-exact
check_children-returns-clause-exact g t c = λ names known_key known_value inside before records.
    let none : g.row.E + 1 - c.loop-i.i ≡ 0 = omega (arith, c.loop-i.auto.i-end, c.loop-i-test.false) in
    let mid = c.loop-i.invariant.left names known_key known_value inside before records in
    none_count_left names c.args.bytes.now inside before (children (g.row.E + 1) c.args.level g.row.E g.K.Portable.shape g.V.Portable.shape c.args.pos) (g.C.ArchiveContext.kept c.args.context.now) mid.2 (children_none _ _ _ _ _ _ none) mid.1

-- ---- an inner node

pub check_inner-claim_node-requires-clause-aligned : goal.check_inner-claim_node-requires-clause-aligned
check_inner-claim_node-requires-clause-aligned g t c = let some = link_aligned g.K.Portable.shape g.V.Portable.shape in omega (arith, some, c.requires.layout.link_align)

pub check_inner-returns-in_err-range-clause-exact : goal.check_inner-returns-in_err-range-clause-exact
check_inner-returns-in_err-range-clause-exact g t c = λ names known_key known_value.
    inner_unclaimed names c.args.bytes.now c.args.level g.row.E g.K.Portable.shape g.V.Portable.shape c.args.pos c.requires.level _ c.requires.begins _ _ c.in_err-range.field-0.0 c.args.layout.link_align (search rules) c.requires.layout.link_align
    (λ other. c.in_err-range.ensures (link_node_size (g.row.E + 1) g.row.E g.K.Portable.shape g.V.Portable.shape) c.requires.layout.inner other)

pub check_inner-overflow_add-pos : goal.check_inner-overflow_add-pos
check_inner-overflow_add-pos g t c =
    let k = g.K.Portable.shape in
    let v = g.V.Portable.shape in
    let claim = c.in_ok-range.ensures (link_node_size (g.row.E + 1) g.row.E k v) c.requires.layout.inner in
    let within = claim.answered.0 in
    let room = room_of g.row.E k v c.args.layout (g.row.E + 1) c.args.pos (length c.args.bytes.now) c.requires.layout (omega (arith, within.ends, c.requires.range.covered)) (omega arith) in
    omega (arith, room.links_end)

pub check_inner-check_children-requires : goal.check_inner-check_children-requires
check_inner-check_children-requires g t c κs within =
    let k = g.K.Portable.shape in
    let v = g.V.Portable.shape in
    let claim = c.in_ok-range.ensures (link_node_size (g.row.E + 1) g.row.E k v) c.requires.layout.inner in
    let within_range = claim.answered.0 in
    let room = room_of g.row.E k v c.args.layout (g.row.E + 1) c.args.pos (length c.args.bytes.now) c.requires.layout (omega (arith, within_range.ends, c.requires.range.covered)) (omega arith) in
    let less : 4 * (33 - (c.args.level + 1)) + 3 < t = omega (arith, c.requires.level) in
    let next : c.args.level + 1 ≤ 33 = omega (arith, c.requires.level) in
    let fits : c.args.pos + c.args.layout.links + (g.row.E + 1) * 4 ≤ length c.args.bytes.now = room.links_end in
    let range = pushed_within (pushes_of claim) _ c.requires.range in
    let takes_key : StepTakes g.F.Fn g.C.ArchiveContext.kept c.args.bytes.now k c.args.key_step.now (g.C.ArchiveContext.kept c.claim_node.new.context) g.K.Portable.SIZE =
    λ context pos narrower fits. c.requires.takes_key context pos (narrower_inside _ claim _ narrower) fits in
    let takes_value : StepTakes g.G.Fn g.C.ArchiveContext.kept c.args.bytes.now v c.args.value_step.now (g.C.ArchiveContext.kept c.claim_node.new.context) g.V.Portable.SIZE =
    λ context pos narrower fits. c.requires.takes_value context pos (narrower_inside _ claim _ narrower) fits in
    (less, (within.0, (within.1.0, (within.1.1.0, (within.1.1.1.0, (within.1.1.1.1, ((search rules), (next, (c.requires.layout, (fits, (range, (takes_key, (takes_value, (c.requires.checks_key, c.requires.checks_value))))))))))))))

pub check_inner-returns-in_err-below-clause-exact : goal.check_inner-returns-in_err-below-clause-exact
check_inner-returns-in_err-below-clause-exact g t c =
    let k = g.K.Portable.shape in
    let v = g.V.Portable.shape in
    let claim = c.in_ok-range.ensures (link_node_size (g.row.E + 1) g.row.E k v) c.requires.layout.inner in
    let within = claim.answered.0 in
    let room = room_of g.row.E k v c.args.layout (g.row.E + 1) c.args.pos (length c.args.bytes.now) c.requires.layout (omega (arith, within.ends, c.requires.range.covered)) (omega arith) in
    λ names known_key known_value.
    children_refused names c.args.bytes.now c.args.level g.row.E k v c.args.pos c.requires.level _ c.requires.begins (realigned c.requires.layout.link_align claim)
    (c.args.pos + c.args.layout.links) (c.args.pos + c.args.layout.keys) (c.args.pos + c.args.layout.values) (ap (λ n. c.args.pos + n) room.links) (ap (λ n. c.args.pos + n) room.keys) (ap (λ n. c.args.pos + n) room.values)
    _ _ c.in_err-below.field-0.0 (search rules) (λ inside before records other. c.in_err-below.ensures.exact names known_key known_value inside before records other)

pub check_inner-overflow_add-pos-2 : goal.check_inner-overflow_add-pos-2
check_inner-overflow_add-pos-2 g t c =
    let k = g.K.Portable.shape in
    let v = g.V.Portable.shape in
    let claim = c.in_ok-range.ensures (link_node_size (g.row.E + 1) g.row.E k v) c.requires.layout.inner in
    let within = claim.answered.0 in
    let room = room_of g.row.E k v c.args.layout (g.row.E + 1) c.args.pos (length c.args.bytes.now) c.requires.layout (omega (arith, within.ends, c.requires.range.covered)) (omega arith) in
    omega (arith, room.keys_end)

pub check_inner-overflow_add-pos-3 : goal.check_inner-overflow_add-pos-3
check_inner-overflow_add-pos-3 g t c =
    let k = g.K.Portable.shape in
    let v = g.V.Portable.shape in
    let claim = c.in_ok-range.ensures (link_node_size (g.row.E + 1) g.row.E k v) c.requires.layout.inner in
    let within = claim.answered.0 in
    let room = room_of g.row.E k v c.args.layout (g.row.E + 1) c.args.pos (length c.args.bytes.now) c.requires.layout (omega (arith, within.ends, c.requires.range.covered)) (omega arith) in
    omega (arith, room.values_end)

pub check_inner-check_entries-requires-clause-keys_fit : goal.check_inner-check_entries-requires-clause-keys_fit
check_inner-check_entries-requires-clause-keys_fit g t c =
    let k = g.K.Portable.shape in
    let v = g.V.Portable.shape in
    let claim = c.in_ok-range.ensures (link_node_size (g.row.E + 1) g.row.E k v) c.requires.layout.inner in
    let within = claim.answered.0 in
    let room = room_of g.row.E k v c.args.layout (g.row.E + 1) c.args.pos (length c.args.bytes.now) c.requires.layout (omega (arith, within.ends, c.requires.range.covered)) (omega arith) in
    room.keys_end

pub check_inner-check_entries-requires-clause-values_fit : goal.check_inner-check_entries-requires-clause-values_fit
check_inner-check_entries-requires-clause-values_fit g t c =
    let k = g.K.Portable.shape in
    let v = g.V.Portable.shape in
    let claim = c.in_ok-range.ensures (link_node_size (g.row.E + 1) g.row.E k v) c.requires.layout.inner in
    let within = claim.answered.0 in
    let room = room_of g.row.E k v c.args.layout (g.row.E + 1) c.args.pos (length c.args.bytes.now) c.requires.layout (omega (arith, within.ends, c.requires.range.covered)) (omega arith) in
    room.values_end

pub check_inner-check_entries-requires-clause-range : goal.check_inner-check_entries-requires-clause-range
check_inner-check_entries-requires-clause-range g t c =
    let claim = c.in_ok-range.ensures (link_node_size (g.row.E + 1) g.row.E g.K.Portable.shape g.V.Portable.shape) c.requires.layout.inner in
    advances_within _ (pushed_within (pushes_of claim) _ c.requires.range) c.in_ok-below.ensures.moves

pub check_inner-check_entries-requires-clause-checks_key : goal.check_inner-check_entries-requires-clause-checks_key
check_inner-check_entries-requires-clause-checks_key g t c = c.requires.checks_key

pub check_inner-check_entries-requires-clause-checks_value : goal.check_inner-check_entries-requires-clause-checks_value
check_inner-check_entries-requires-clause-checks_value g t c = c.requires.checks_value

pub check_inner-check_entries-requires-clause-takes_key : goal.check_inner-check_entries-requires-clause-takes_key
check_inner-check_entries-requires-clause-takes_key g t c some context pos narrower fits =
    let k = g.K.Portable.shape in
    let v = g.V.Portable.shape in
    let claim = c.in_ok-range.ensures (link_node_size (g.row.E + 1) g.row.E k v) c.requires.layout.inner in
    let within = claim.answered.0 in
    let room = room_of g.row.E k v c.args.layout (g.row.E + 1) c.args.pos (length c.args.bytes.now) c.requires.layout (omega (arith, within.ends, c.requires.range.covered)) (omega arith) in
    let one = one_fits g.row.E g.row.E (size_of k) _ some (omega arith) room.key_sizes in
    c.requires.takes_key context pos (pushed_narrow (pushes_of claim) _ (omega (arith, one, g.met.K.Portable.sized)) _ (narrower_after _ c.in_ok-below.ensures.moves _ narrower)) fits

pub check_inner-check_entries-requires-clause-takes_value : goal.check_inner-check_entries-requires-clause-takes_value
check_inner-check_entries-requires-clause-takes_value g t c some context pos narrower fits =
    let k = g.K.Portable.shape in
    let v = g.V.Portable.shape in
    let claim = c.in_ok-range.ensures (link_node_size (g.row.E + 1) g.row.E k v) c.requires.layout.inner in
    let within = claim.answered.0 in
    let room = room_of g.row.E k v c.args.layout (g.row.E + 1) c.args.pos (length c.args.bytes.now) c.requires.layout (omega (arith, within.ends, c.requires.range.covered)) (omega arith) in
    let one = one_fits g.row.E g.row.E (size_of v) _ some (omega arith) room.value_sizes in
    c.requires.takes_value context pos (pushed_narrow (pushes_of claim) _ (omega (arith, one, g.met.V.Portable.sized)) _ (narrower_after _ c.in_ok-below.ensures.moves _ narrower)) fits

pub check_inner-returns-in_err-check_entries-clause-exact : goal.check_inner-returns-in_err-check_entries-clause-exact
check_inner-returns-in_err-check_entries-clause-exact g t c =
    let k = g.K.Portable.shape in
    let v = g.V.Portable.shape in
    let claim = c.in_ok-range.ensures (link_node_size (g.row.E + 1) g.row.E k v) c.requires.layout.inner in
    let within = claim.answered.0 in
    let room = room_of g.row.E k v c.args.layout (g.row.E + 1) c.args.pos (length c.args.bytes.now) c.requires.layout (omega (arith, within.ends, c.requires.range.covered)) (omega arith) in
    λ names known_key known_value.
    entries_refused names c.args.bytes.now c.args.level g.row.E k v c.args.pos c.requires.level _ c.requires.begins (realigned c.requires.layout.link_align claim)
    (c.args.pos + c.args.layout.links) (c.args.pos + c.args.layout.keys) (c.args.pos + c.args.layout.values) (ap (λ n. c.args.pos + n) room.links) (ap (λ n. c.args.pos + n) room.keys) (ap (λ n. c.args.pos + n) room.values)
    _ c.in_ok-below.below (λ inside before records. c.in_ok-below.ensures.exact names known_key known_value inside before records)
    _ _ c.in_err-check_entries.field-0.0 (search rules) (λ inside before records other. c.in_err-check_entries.ensures.exact names known_key known_value inside before records other)

pub check_inner-returns-clause-exact : goal.check_inner-returns-clause-exact
check_inner-returns-clause-exact g t c =
    let k = g.K.Portable.shape in
    let v = g.V.Portable.shape in
    let claim = c.in_ok-range.ensures (link_node_size (g.row.E + 1) g.row.E k v) c.requires.layout.inner in
    let within = claim.answered.0 in
    let room = room_of g.row.E k v c.args.layout (g.row.E + 1) c.args.pos (length c.args.bytes.now) c.requires.layout (omega (arith, within.ends, c.requires.range.covered)) (omega arith) in
    let below = c.in_ok-below.ensures in
    let checks = c.in_ok-check_entries.ensures in
    let advances = advances_then below.moves checks.moves in
    let again = c.in_ok-pop_subtree_range.ensures.last _ (last_push (pushes_of claim) _ advances) in
    λ names known_key known_value.
    inner_counted names c.args.bytes.now c.args.level g.row.E k v c.args.pos c.requires.level _ c.requires.begins (realigned c.requires.layout.link_align claim)
    (c.args.pos + c.args.layout.links) (c.args.pos + c.args.layout.keys) (c.args.pos + c.args.layout.values) (ap (λ n. c.args.pos + n) room.links) (ap (λ n. c.args.pos + n) room.keys) (ap (λ n. c.args.pos + n) room.values)
    _ c.in_ok-below.below (λ inside before records. c.in_ok-below.ensures.exact names known_key known_value inside before records)
    _ _ _ (search rules) (λ inside before records. checks.exact names known_key known_value inside before records) advances again.1

-- ---- a node

pub check_node-returns-in_err-check_subtree_ptr-clause-exact : goal.check_node-returns-in_err-check_subtree_ptr-clause-exact
check_node-returns-in_err-check_subtree_ptr-clause-exact g t c = λ names known_key known_value.
    let told = c.check_subtree_ptr.ensures in
    let within = c.requires.range.covered in
    count_unanswered names c.args.bytes.now (node c.args.level g.row.E g.K.Portable.shape g.V.Portable.shape c.args.pos) _ _ _ c.in_err-check_subtree_ptr.field-0.0 (search rules)
    (λ other. begin_unanswered names c.args.bytes.now c.args.level g.row.E g.K.Portable.shape g.V.Portable.shape c.args.pos _ c.requires.level _ c.check_subtree_ptr.result c.args.layout.size c.args.layout.align
    c.requires.layout.size c.requires.layout.align (omega arith) told.outside told.unaligned told.accepted c.in_err-check_subtree_ptr.was)

pub check_node-bounds-bytes-pos : goal.check_node-bounds-bytes-pos
check_node-bounds-bytes-pos g t c =
    let claimable = c.in_ok-check_subtree_ptr.ensures.claimable refl in
    let within = claimable.0 in
    let some = node_some g.row.E g.K.Portable.shape g.V.Portable.shape in
    omega (arith, within.ends, c.requires.range.covered, c.requires.layout.size, some)

pub check_node-returns-in_default-clause-exact : goal.check_node-returns-in_default-clause-exact
check_node-returns-in_default-clause-exact g t c = λ names known_key known_value inside before records unlike.
    let k = g.K.Portable.shape in
    let v = g.V.Portable.shape in
    let within = c.requires.range.covered in
    let begins = answered _ (record { start = c.args.pos; size = node_size g.row.E k v; align = max (align_of k) (align_of v) }) c.args.layout.size c.args.layout.align c.requires.layout.size c.requires.layout.align (omega arith) (c.in_ok-check_subtree_ptr.ensures.claimable refl) in
    let other = c.in_default in
    fault_unanswered (kind_unanswered names c.args.bytes.now c.args.level g.row.E k v c.args.pos _ c.requires.level (slice_index c.args.bytes.now c.args.pos) (record { within = begins.0; aligned = begins.1; tag = refl }) (omega arith))

pub check_node-check_leaf-requires-clause-layout : goal.check_node-check_leaf-requires-clause-layout
check_node-check_leaf-requires-clause-layout g t c = c.requires.layout

pub check_node-check_leaf-requires-clause-range : goal.check_node-check_leaf-requires-clause-range
check_node-check_leaf-requires-clause-range g t c = c.requires.range

pub check_node-check_leaf-requires-clause-takes_key : goal.check_node-check_leaf-requires-clause-takes_key
check_node-check_leaf-requires-clause-takes_key g t c = c.requires.takes_key

pub check_node-check_leaf-requires-clause-takes_value : goal.check_node-check_leaf-requires-clause-takes_value
check_node-check_leaf-requires-clause-takes_value g t c = c.requires.takes_value

pub check_node-check_leaf-requires-clause-checks_key : goal.check_node-check_leaf-requires-clause-checks_key
check_node-check_leaf-requires-clause-checks_key g t c = c.requires.checks_key

pub check_node-check_leaf-requires-clause-checks_value : goal.check_node-check_leaf-requires-clause-checks_value
check_node-check_leaf-requires-clause-checks_value g t c = c.requires.checks_value

pub check_node-check_leaf-requires-clause-begins : goal.check_node-check_leaf-requires-clause-begins
check_node-check_leaf-requires-clause-begins g t c =
    let k = g.K.Portable.shape in
    let v = g.V.Portable.shape in
    let within = c.requires.range.covered in
    let begins = answered _ (record { start = c.args.pos; size = node_size g.row.E k v; align = max (align_of k) (align_of v) }) c.args.layout.size c.args.layout.align c.requires.layout.size c.requires.layout.align (omega arith) (c.in_ok-check_subtree_ptr.ensures.claimable refl) in
    let kind = c.in-0 in
    record { within = begins.0; aligned = begins.1; tag = omega arith }

pub check_node-check_inner-requires : goal.check_node-check_inner-requires
check_node-check_inner-requires g t c κs within =
    let k = g.K.Portable.shape in
    let v = g.V.Portable.shape in
    let less : 4 * (33 - c.args.level) < t = omega arith in
    let covered = c.requires.range.covered in
    let begins = answered _ (record { start = c.args.pos; size = node_size g.row.E k v; align = max (align_of k) (align_of v) }) c.args.layout.size c.args.layout.align c.requires.layout.size c.requires.layout.align (omega arith) (c.in_ok-check_subtree_ptr.ensures.claimable refl) in
    let kind = c.in-1 in
    let begun : BeginsNode (range_of (g.C.ArchiveContext.kept c.args.context.now)) c.args.bytes.now g.row.E k v c.args.pos 1 = record { within = begins.0; aligned = begins.1; tag = omega arith } in
    (less, (within.0, (within.1.0, (within.1.1.0, (within.1.1.1.0, (within.1.1.1.1, ((search rules), (c.requires.level, (c.requires.layout, (begun, (c.requires.range, (c.requires.takes_key, (c.requires.takes_value, (c.requires.checks_key, c.requires.checks_value))))))))))))))

pub check_node-returns-in-0-clause-moves : goal.check_node-returns-in-0-clause-moves
check_node-returns-in-0-clause-moves g t c = c.check_leaf.ensures.moves

pub check_node-returns-in-0-clause-exact : goal.check_node-returns-in-0-clause-exact
check_node-returns-in-0-clause-exact g t c = λ names. c.check_leaf.ensures.exact names c.args.level c.requires.level

pub check_node-returns-in-1-clause-moves : goal.check_node-returns-in-1-clause-moves
check_node-returns-in-1-clause-moves g t c = c.check_inner.ensures.moves

pub check_node-returns-in-1-clause-exact : goal.check_node-returns-in-1-clause-exact
check_node-returns-in-1-clause-exact g t c = c.check_inner.ensures.exact
