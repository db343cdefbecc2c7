use Rattle.std.proofs.Common.{rules, arith, ap, sym, ◌∙◌, ◌+◌, length}
use Rattle.archive_shape_layout.specs.Bytes.{word_at}
use Rattle.archive_shape_layout.specs.Shape.{size_of}
use Rattle.archive_shape_layout.specs.Content.{link_node_size}
use Rattle.archive_forms_values.proofs.Claimed.{pushed_narrow, last_push}
use Rattle.archive_forms_values.proofs.Claiming.{pushes_of}
use Rattle.archive_btree_maps.proofs.Rooms.{room_of, link_aligned, fewer_fit, one_fits}
use Rattle.archive_btree_maps.proofs.NodeChecks.{realigned, leaf_unclaimed, leaf_too_long, leaf_refused, leaf_counted}
use Rattle.archive_btree_maps.proofs.nodes.checking.nodes.check_leaf.Goals as goal

pub claim_node-requires-clause-aligned : goal.claim_node-requires-clause-aligned
claim_node-requires-clause-aligned g c = let some = link_aligned g.K.Portable.shape g.V.Portable.shape in omega (arith, some, c.requires.layout.link_align)

pub returns-in_err-range-clause-exact : goal.returns-in_err-range-clause-exact
returns-in_err-range-clause-exact g c names level low known_key known_value =
    leaf_unclaimed names c.args.bytes.now level g.row.E g.K.Portable.shape g.V.Portable.shape c.args.pos low _ c.requires.begins _ _ c.in_err-range.field-0.0 c.args.layout.link_align (search rules) c.requires.layout.link_align
    (λ other. c.in_err-range.ensures (link_node_size 1 g.row.E g.K.Portable.shape g.V.Portable.shape) c.requires.layout.leaf other)

pub overflow_add-pos : goal.overflow_add-pos
overflow_add-pos g c =
    let k = g.K.Portable.shape in
    let v = g.V.Portable.shape in
    let claim = c.in_ok-range.ensures (link_node_size 1 g.row.E k v) c.requires.layout.leaf in
    let within = claim.answered.0 in
    let room = room_of g.row.E k v c.args.layout 1 c.args.pos (length c.args.bytes.now) c.requires.layout (omega (arith, within.ends, c.requires.range.covered)) (omega arith) in
    omega (arith, room.links_end)

pub read_word-len-requires : goal.read_word-len-requires
read_word-len-requires g c =
    let k = g.K.Portable.shape in
    let v = g.V.Portable.shape in
    let claim = c.in_ok-range.ensures (link_node_size 1 g.row.E k v) c.requires.layout.leaf in
    let within = claim.answered.0 in
    let room = room_of g.row.E k v c.args.layout 1 c.args.pos (length c.args.bytes.now) c.requires.layout (omega (arith, within.ends, c.requires.range.covered)) (omega arith) in
    omega (arith, room.links_end)

pub returns-then-len-clause-exact : goal.returns-then-len-clause-exact
returns-then-len-clause-exact g c names level low known_key known_value =
    let k = g.K.Portable.shape in
    let v = g.V.Portable.shape in
    let claim = c.in_ok-range.ensures (link_node_size 1 g.row.E k v) c.requires.layout.leaf in
    let within = claim.answered.0 in
    let room = room_of g.row.E k v c.args.layout 1 c.args.pos (length c.args.bytes.now) c.requires.layout (omega (arith, within.ends, c.requires.range.covered)) (omega arith) in
    leaf_too_long names c.args.bytes.now level g.row.E k v c.args.pos low _ c.requires.begins (realigned c.requires.layout.link_align claim) c.read_word-len.result
    (ap (λ n. word_at c.args.bytes.now (c.args.pos + n)) (sym room.links) ∙ sym c.read_word-len.ensures) (g.C.ArchiveContext.kept c.args.context.now) c.if-len.true

pub overflow_add-pos-2 : goal.overflow_add-pos-2
overflow_add-pos-2 g c =
    let k = g.K.Portable.shape in
    let v = g.V.Portable.shape in
    let claim = c.in_ok-range.ensures (link_node_size 1 g.row.E k v) c.requires.layout.leaf in
    let within = claim.answered.0 in
    let room = room_of g.row.E k v c.args.layout 1 c.args.pos (length c.args.bytes.now) c.requires.layout (omega (arith, within.ends, c.requires.range.covered)) (omega arith) in
    omega (arith, room.keys_end)

pub overflow_add-pos-3 : goal.overflow_add-pos-3
overflow_add-pos-3 g c =
    let k = g.K.Portable.shape in
    let v = g.V.Portable.shape in
    let claim = c.in_ok-range.ensures (link_node_size 1 g.row.E k v) c.requires.layout.leaf in
    let within = claim.answered.0 in
    let room = room_of g.row.E k v c.args.layout 1 c.args.pos (length c.args.bytes.now) c.requires.layout (omega (arith, within.ends, c.requires.range.covered)) (omega arith) in
    omega (arith, room.values_end)

pub check_entries-requires-clause-keys_fit : goal.check_entries-requires-clause-keys_fit
check_entries-requires-clause-keys_fit g c =
    let k = g.K.Portable.shape in
    let v = g.V.Portable.shape in
    let claim = c.in_ok-range.ensures (link_node_size 1 g.row.E k v) c.requires.layout.leaf in
    let within = claim.answered.0 in
    let room = room_of g.row.E k v c.args.layout 1 c.args.pos (length c.args.bytes.now) c.requires.layout (omega (arith, within.ends, c.requires.range.covered)) (omega arith) in
    fewer_fit _ g.row.E (size_of k) _ _ (omega (arith, c.if-len.false)) room.keys_end

pub check_entries-requires-clause-values_fit : goal.check_entries-requires-clause-values_fit
check_entries-requires-clause-values_fit g c =
    let k = g.K.Portable.shape in
    let v = g.V.Portable.shape in
    let claim = c.in_ok-range.ensures (link_node_size 1 g.row.E k v) c.requires.layout.leaf in
    let within = claim.answered.0 in
    let room = room_of g.row.E k v c.args.layout 1 c.args.pos (length c.args.bytes.now) c.requires.layout (omega (arith, within.ends, c.requires.range.covered)) (omega arith) in
    fewer_fit _ g.row.E (size_of v) _ _ (omega (arith, c.if-len.false)) room.values_end

pub check_entries-requires-clause-takes_key : goal.check_entries-requires-clause-takes_key
check_entries-requires-clause-takes_key g c some context pos narrower fits =
    let k = g.K.Portable.shape in
    let v = g.V.Portable.shape in
    let claim = c.in_ok-range.ensures (link_node_size 1 g.row.E k v) c.requires.layout.leaf in
    let within = claim.answered.0 in
    let room = room_of g.row.E k v c.args.layout 1 c.args.pos (length c.args.bytes.now) c.requires.layout (omega (arith, within.ends, c.requires.range.covered)) (omega arith) in
    let one = one_fits c.read_word-len.result g.row.E (size_of k) _ some (omega (arith, c.if-len.false)) room.key_sizes in
    c.requires.takes_key context pos (pushed_narrow (pushes_of claim) _ (omega (arith, one, g.met.K.Portable.sized)) _ narrower) fits

pub check_entries-requires-clause-takes_value : goal.check_entries-requires-clause-takes_value
check_entries-requires-clause-takes_value g c some context pos narrower fits =
    let k = g.K.Portable.shape in
    let v = g.V.Portable.shape in
    let claim = c.in_ok-range.ensures (link_node_size 1 g.row.E k v) c.requires.layout.leaf in
    let within = claim.answered.0 in
    let room = room_of g.row.E k v c.args.layout 1 c.args.pos (length c.args.bytes.now) c.requires.layout (omega (arith, within.ends, c.requires.range.covered)) (omega arith) in
    let one = one_fits c.read_word-len.result g.row.E (size_of v) _ some (omega (arith, c.if-len.false)) room.value_sizes in
    c.requires.takes_value context pos (pushed_narrow (pushes_of claim) _ (omega (arith, one, g.met.V.Portable.sized)) _ narrower) fits

pub returns-in_err-check_entries-clause-exact : goal.returns-in_err-check_entries-clause-exact
returns-in_err-check_entries-clause-exact g c names level low known_key known_value =
    let k = g.K.Portable.shape in
    let v = g.V.Portable.shape in
    let claim = c.in_ok-range.ensures (link_node_size 1 g.row.E k v) c.requires.layout.leaf in
    let within = claim.answered.0 in
    let room = room_of g.row.E k v c.args.layout 1 c.args.pos (length c.args.bytes.now) c.requires.layout (omega (arith, within.ends, c.requires.range.covered)) (omega arith) in
    leaf_refused names c.args.bytes.now level g.row.E k v c.args.pos low _ c.requires.begins (realigned c.requires.layout.link_align claim) c.read_word-len.result
    (ap (λ n. word_at c.args.bytes.now (c.args.pos + n)) (sym room.links) ∙ sym c.read_word-len.ensures) (omega (arith, c.if-len.false)) _ _ (ap (λ n. c.args.pos + n) room.keys) (ap (λ n. c.args.pos + n) room.values)
    _ _ c.in_err-check_entries.field-0.0 (search rules)
    (λ inside before records other. c.in_err-check_entries.ensures.exact names known_key known_value inside before records other)

pub returns-clause-exact : goal.returns-clause-exact
returns-clause-exact g c names level low known_key known_value =
    let k = g.K.Portable.shape in
    let v = g.V.Portable.shape in
    let claim = c.in_ok-range.ensures (link_node_size 1 g.row.E k v) c.requires.layout.leaf in
    let within = claim.answered.0 in
    let room = room_of g.row.E k v c.args.layout 1 c.args.pos (length c.args.bytes.now) c.requires.layout (omega (arith, within.ends, c.requires.range.covered)) (omega arith) in
    let checks = c.in_ok-check_entries.ensures in
    let again = c.in_ok-pop_subtree_range.ensures.last _ (last_push (pushes_of claim) _ checks.moves) in
    leaf_counted names c.args.bytes.now level g.row.E k v c.args.pos low _ c.requires.begins (realigned c.requires.layout.link_align claim) c.read_word-len.result
    (ap (λ n. word_at c.args.bytes.now (c.args.pos + n)) (sym room.links) ∙ sym c.read_word-len.ensures) (omega (arith, c.if-len.false)) _ _ (ap (λ n. c.args.pos + n) room.keys) (ap (λ n. c.args.pos + n) room.values)
    _ _ (omega arith) (λ inside before records. checks.exact names known_key known_value inside before records) checks.moves again.1
