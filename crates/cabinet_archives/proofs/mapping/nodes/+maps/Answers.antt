use Rattle.std.proofs.Common.{◌≡◌, ◌∙◌, ℕ, ◌+◌, ◌-◌, ◌*◌, ◌<◌, ◌≤◌, List, map, Bor, Err, inl, inr, refl, sym, ap, subst, arith, rules, ◌≢◌, length, Ok}
use Rattle.std.specs.Prelude.{false, true, ⊤, All}
use Rattle.std.specs.Int.{w64}
use Rattle.std.proofs.lemmas.Result.{err_from_is_err_and}
use Rattle.archive_forms_rc.specs.Pointers.{HasCounted}
use Rattle.archive_forms_values.proofs.Inside.{some_says, some_unless}
use Rattle.archive_forms_values.specs.Parts.{IsBoxAt, HasElements, HasValue}
use Rattle.archive_hash_maps.proofs.Read.{table_is_read}
use Rattle.archive_hash_maps.specs.Tables.{item_positions}
use Rattle.archive_index.proofs.Read.{table_there}
use Rattle.archive_index.specs.Maps.{count_of, entry_positions}
use Rattle.archive_shape_layout.specs.Bytes.{align_up, word_at}
use Rattle.archive_shape_layout.specs.Shape.Pointee.{str}
use Rattle.archive_shape_layout.specs.Shape.Shape.{number, truth, text, option, vector, shared}
use Rattle.cabinet_archived.proofs.Shared.{counted_there}
use Rattle.cabinet_documents.specs.Node.{node_shape, whole_shape, pair_shape, KnowsNode}
use Rattle.cabinet_archives.specs.Hashed.{table_shape}
use Rattle.cabinet_archives.specs.Kept.{index_shape}
use Rattle.cabinet_archives.specs.Keyed.{knows_pairs}
use Rattle.cabinet_archives.specs.Loading.{IsEntry}
use Rattle.cabinet_archives.specs.MapPaths.{path_of}
use Rattle.cabinet_archives.specs.Ordered.{map_shape}
use Rattle.cabinet_archives.specs.declared.mapping.region.RegionKind.TheVariants as kind
use Rattle.cabinet_archives.proofs.Auditing.{value_as, elements_of}
use Rattle.cabinet_archives.proofs.ElementsMapped.{elements_begin, element_mapped, element_failed, elements_mapped, list_failed, list_mapped}
use Rattle.cabinet_archives.proofs.Failures.{fails_written, fails_after}
use Rattle.cabinet_archives.proofs.Loaded.{tree_value, inside_few, boxed_there, boxed_tree, inner_tree, element_there}
use Rattle.cabinet_archives.proofs.LoadedRoot.{tree_as, payload_as}
use Rattle.cabinet_archives.proofs.NodeListings.{nothing_listed, truth_listed, integer_listed, named}
use Rattle.cabinet_archives.proofs.NodeMapped.{payload_mapped, flat_mapped, boxed_listed, behind_failed, behind_mapped, key_failed, entry_mapped, later_mapped, first_listed}
use Rattle.cabinet_archives.proofs.Payloads.{text_has}
use Rattle.cabinet_archives.proofs.Tags.{tag_is, kind_is}
use Rattle.cabinet_archives.proofs.Tallied.{none_written}
use Rattle.cabinet_archives.proofs.Walked.{none_tag}
use Rattle.cabinet_archives.proofs.Ways.{Boxed}
use Rattle.cabinet_archives.proofs.mapping.nodes.+maps.Invariants.{members}
use Rattle.cabinet_archives.proofs.IndexPairs.{map_of_value}
use Rattle.cabinet_archives.proofs.LoadedEntries.{positions}
use Rattle.cabinet_archives.proofs.LoadedMaps.{hashed_there, kept_are}
use Rattle.cabinet_archives.proofs.MapsMapped.{hashed_failed, hashed_mapped, empty_mapped, table_failed, kept_failed, kept_mapped}
use Rattle.cabinet_archives.proofs.PairsMapped.{pairs_begin, key_bytes, node_bytes, first_there, pair_mapped, pair_failed, pairs_mapped}
use Rattle.cabinet_archives.proofs.mapping.nodes.+maps.Goals as goal
use Rattle.cabinet_archives.specs.Mapping.{listed_region}
use Rattle.cabinet_archives.specs.Mapped.{WritesListed, HasEntries, HasLink}
use Rattle.cabinet_archives.proofs.MapListings.{no_child_listed, child_listed, no_tree_listed, tree_listed}
use Rattle.cabinet_archives.proofs.Subtrees.{link_leads, link_subtree, node_fits, leaf_there, inner_there, offsets_of, root_leads, root_subtree}
use Rattle.cabinet_archives.proofs.SubtreesMapped.{entry_as, child_as, entries_as, no_entry_written, entry_failed, entry_passed, entries_mapped, no_child_written, child_failed, child_passed, parts_mapped, leaf_failed, leaf_mapped, inner_failed, inner_mapped}

-- ---- nodes

pub map_node-bounds-node-node : goal.map_node-bounds-node-node
map_node-bounds-node-node g t c = let within = c.requires.there.held.own_within in omega (arith, within)

pub map_node-kind-requires : goal.map_node-kind-requires
map_node-kind-requires g t c = tree_value c.requires.there

pub map_node-write_text-requires-clause-there : goal.map_node-write_text-requires-clause-there
map_node-write_text-requires-clause-there g t c =
    let is = c.in-Text.ensures in value_as text (λ _. ⊤) (sym is.0) refl is.2.there

pub map_node-write_shared-requires-clause-there : goal.map_node-write_shared-requires-clause-there
map_node-write_shared-requires-clause-there g t c =
    let is = c.in-Shared.ensures in
    subst (λ (b : Bor (List ℕ)). HasCounted false str (λ _. ⊤) b.now c.in-Shared.text.pos) (sym is.0)
    (counted_there str (λ _. ⊤) c.args.node.bytes.now c.in-Shared.text.pos is.2.there)

pub map_node-map_option-requires : goal.map_node-map_option-requires
map_node-map_option-requires g t c κs within =
    let is = c.in-Maybe.ensures in
    let there = payload_as is.0 is.2 c.requires.there in
    let room = c.requires.room in
    search rules

pub map_node-map_list-requires : goal.map_node-map_list-requires
map_node-map_list-requires g t c κs within =
    let is = c.in-List.ensures in
    let there = payload_as is.0 is.2 c.requires.there in
    let room = c.requires.room in
    search rules

pub map_node-map_ordered-requires : goal.map_node-map_ordered-requires
map_node-map_ordered-requires g t c κs within =
    let is = c.in-Ordered.ensures in
    let there = payload_as is.0 is.2 c.requires.there in
    let room = c.requires.room in
    search rules

pub map_node-map_hashed-requires : goal.map_node-map_hashed-requires
map_node-map_hashed-requires g t c κs within =
    let is = c.in-Hashed.ensures in
    let there = payload_as is.0 is.2 c.requires.there in
    let room = c.requires.room in
    search rules

pub map_node-map_kept-requires : goal.map_node-map_kept-requires
map_node-map_kept-requires g t c κs within =
    let is = c.in-Kept.ensures in
    let there = payload_as is.0 is.2 c.requires.there in
    let room = c.requires.room in
    search rules

pub map_node-map_whole-requires : goal.map_node-map_whole-requires
map_node-map_whole-requires g t c κs within =
    let is = c.in-Whole.ensures in
    let there = payload_as is.0 is.2 c.requires.there in
    let room = c.requires.room in
    search rules

pub map_node-returns-in-Bool-clause-mapped : goal.map_node-returns-in-Bool-clause-mapped
map_node-returns-in-Bool-clause-mapped g t c =
    let node = c.args.node in
    let there = tree_value c.requires.there in
    let path = path_of c.args.path.now in
    let old = c.args.tally.now in
    elim c.in-Bool.is [
      | inl is ↦
          let tag = tag_is node.bytes.now node.pos there (kind_is node.bytes node.pos is.1 c.kind.ensures).2 in
          flat_mapped (members g) node.bytes.now path old c.args.writer.now truth tag refl c.count_node.ensures (truth_listed node.bytes.now)
      | inr is ↦
          let tag = tag_is node.bytes.now node.pos there (kind_is node.bytes node.pos is.1 c.kind.ensures).2 in
          flat_mapped (members g) node.bytes.now path old c.args.writer.now (number w64 true) tag refl c.count_node.ensures (integer_listed node.bytes.now)
    ]

pub map_node-returns-in-Text-clause-mapped : goal.map_node-returns-in-Text-clause-mapped
map_node-returns-in-Text-clause-mapped g t c =
    let is = c.in-Text.ensures in
    let tag = tag_is c.args.node.bytes.now c.args.node.pos (tree_value c.requires.there) is.2 in
    payload_mapped (members g) c.args.tally.now c.write_text.new.tally c.args.writer.now c.write_text.new.writer text c.write_text.result
    is.0 is.1 tag refl refl c.count_node.ensures c.write_text.ensures.mapped

pub map_node-returns-in-Shared-clause-mapped : goal.map_node-returns-in-Shared-clause-mapped
map_node-returns-in-Shared-clause-mapped g t c =
    let is = c.in-Shared.ensures in
    let tag = tag_is c.args.node.bytes.now c.args.node.pos (tree_value c.requires.there) is.2 in
    payload_mapped (members g) c.args.tally.now c.write_shared.new.tally c.args.writer.now c.write_shared.new.writer (shared false str) c.write_shared.result
    is.0 is.1 tag refl refl c.count_node.ensures (c.write_shared.ensures.mapped kind.Text)

pub map_node-returns-in-Maybe-clause-mapped : goal.map_node-returns-in-Maybe-clause-mapped
map_node-returns-in-Maybe-clause-mapped g t c =
    let is = c.in-Maybe.ensures in
    let tag = tag_is c.args.node.bytes.now c.args.node.pos (tree_value c.requires.there) is.2 in
    payload_mapped (members g) c.args.tally.now c.map_option.new.tally c.args.writer.now c.map_option.new.writer (option Boxed) c.map_option.result
    is.0 is.1 tag refl refl c.count_node.ensures (c.map_option.ensures.mapped kind.Text)

pub map_node-returns-in-List-clause-mapped : goal.map_node-returns-in-List-clause-mapped
map_node-returns-in-List-clause-mapped g t c =
    let is = c.in-List.ensures in
    let tag = tag_is c.args.node.bytes.now c.args.node.pos (tree_value c.requires.there) is.2 in
    payload_mapped (members g) c.args.tally.now c.map_list.new.tally c.args.writer.now c.map_list.new.writer (vector node_shape) c.map_list.result
    is.0 is.1 tag refl refl c.count_node.ensures (c.map_list.ensures.mapped kind.Text)

pub map_node-returns-in-Ordered-clause-mapped : goal.map_node-returns-in-Ordered-clause-mapped
map_node-returns-in-Ordered-clause-mapped g t c =
    let is = c.in-Ordered.ensures in
    let tag = tag_is c.args.node.bytes.now c.args.node.pos (tree_value c.requires.there) is.2 in
    payload_mapped (members g) c.args.tally.now c.map_ordered.new.tally c.args.writer.now c.map_ordered.new.writer map_shape c.map_ordered.result
    is.0 is.1 tag refl refl c.count_node.ensures (c.map_ordered.ensures.mapped kind.Text)

pub map_node-returns-in-Hashed-clause-mapped : goal.map_node-returns-in-Hashed-clause-mapped
map_node-returns-in-Hashed-clause-mapped g t c =
    let is = c.in-Hashed.ensures in
    let tag = tag_is c.args.node.bytes.now c.args.node.pos (tree_value c.requires.there) is.2 in
    payload_mapped (members g) c.args.tally.now c.map_hashed.new.tally c.args.writer.now c.map_hashed.new.writer table_shape c.map_hashed.result
    is.0 is.1 tag refl refl c.count_node.ensures (c.map_hashed.ensures.mapped kind.Text)

pub map_node-returns-in-Kept-clause-mapped : goal.map_node-returns-in-Kept-clause-mapped
map_node-returns-in-Kept-clause-mapped g t c =
    let is = c.in-Kept.ensures in
    let tag = tag_is c.args.node.bytes.now c.args.node.pos (tree_value c.requires.there) is.2 in
    payload_mapped (members g) c.args.tally.now c.map_kept.new.tally c.args.writer.now c.map_kept.new.writer index_shape c.map_kept.result
    is.0 is.1 tag refl refl c.count_node.ensures (c.map_kept.ensures.mapped kind.Text)

pub map_node-returns-in-Whole-clause-mapped : goal.map_node-returns-in-Whole-clause-mapped
map_node-returns-in-Whole-clause-mapped g t c =
    let is = c.in-Whole.ensures in
    let tag = tag_is c.args.node.bytes.now c.args.node.pos (tree_value c.requires.there) is.2 in
    payload_mapped (members g) c.args.tally.now c.map_whole.new.tally c.args.writer.now c.map_whole.new.writer whole_shape c.map_whole.result
    is.0 is.1 tag refl refl c.count_node.ensures (c.map_whole.ensures.mapped kind.Text)

-- ---- options

pub map_option-as_ref-requires : goal.map_option-as_ref-requires
map_option-as_ref-requires g t c = tree_value c.requires.there

pub map_option-returns-in_default-clause-mapped : goal.map_option-returns-in_default-clause-mapped
map_option-returns-in_default-clause-mapped g t c = λ k listed m.
    none_written (members g) (tt {0}) c.args.tally.now c.args.writer.now
    (nothing_listed c.args.maybe.bytes.now m (none_tag c.args.maybe.bytes.now c.args.maybe.pos (tree_value c.requires.there) c.in_default.ensures))

pub map_option-get-node-requires : goal.map_option-get-node-requires
map_option-get-node-requires g t c =
    let says = c.in-Some.ensures in
    boxed_there c.args.maybe.bytes.now c.in-Some.boxed.bytes c.requires.there (ap (λ (b : Bor (List ℕ)). b.now) says.0) says.1 says.2

pub map_option-map_node-requires : goal.map_option-map_node-requires
map_option-map_node-requires g t c κs within =
    let says = c.in-Some.ensures in
    let boxed = subst (λ (b : Bor (List ℕ)). IsBoxAt node_shape KnowsNode b.now c.in-Some.boxed.pos c.get-node.result.pos) says.0 c.get-node.ensures.value in
    let there = tree_as (c.get-node.ensures.bytes ∙ says.0) refl (boxed_tree c.args.maybe.bytes.now says.2 says.1 boxed c.requires.there) in
    let few = inside_few c.args.maybe.bytes.now (omega arith) c.requires.there in
    let less : 200 * (64 - (c.args.outer + 1)) + 3 < t = omega (arith, few) in
    let room = c.requires.room in
    search rules

pub map_option-returns-in_err-map_node-clause-mapped : goal.map_option-returns-in_err-map_node-clause-mapped
map_option-returns-in_err-map_node-clause-mapped g t c =
    let p = err_from_is_err_and c.from_residual.result c.from_residual.ensures.1 in
    let says = c.in-Some.ensures in
    rw (p.1, p.2) (λ k listed m.
    behind_failed (members g) c.args.tally.now c.map_node.new.tally c.args.writer.now c.map_node.new.writer c.in_err-map_node.field-0.0 (c.get-node.ensures.bytes ∙ says.0)
    (boxed_listed (tree_value c.requires.there) says.0 says.1 says.2 c.get-node.ensures.value m) c.in_err-map_node.ensures.mapped)

pub map_option-returns-in_err-map_node-clause-counted : goal.map_option-returns-in_err-map_node-clause-counted
map_option-returns-in_err-map_node-clause-counted g t c =
    let p = err_from_is_err_and c.from_residual.result c.from_residual.ensures.1 in rw (p.1, p.2) c.in_err-map_node.ensures.counted

pub map_option-write_region-requires-clause-fits : goal.map_option-write_region-requires-clause-fits
map_option-write_region-requires-clause-fits g t c =
    let says = c.in-Some.ensures in
    let boxed = subst (λ (b : Bor (List ℕ)). IsBoxAt node_shape KnowsNode b.now c.in-Some.boxed.pos c.get-node.result.pos) says.0 c.get-node.ensures.value in
    let inner = boxed_tree c.args.maybe.bytes.now says.2 says.1 boxed c.requires.there in
    let within = inner.held.own_within in
    omega (arith, within, c.well_formed)

pub map_option-returns-clause-mapped : goal.map_option-returns-clause-mapped
map_option-returns-clause-mapped g t c = λ k listed m.
    let says = c.in-Some.ensures in
    behind_mapped (members g) c.args.tally.now c.map_node.new.tally c.write_region.new.tally c.args.writer.now c.map_node.new.writer c.write_region.new.writer c.write_region.result
    (c.get-node.ensures.bytes ∙ says.0) (boxed_listed (tree_value c.requires.there) says.0 says.1 says.2 c.get-node.ensures.value m)
    c.in_ok-map_node.ensures.mapped (c.write_region.ensures.written, c.write_region.ensures.tally)

pub map_option-returns-clause-counted : goal.map_option-returns-clause-counted
map_option-returns-clause-counted g t c =
    fails_after (members g) c.args.writer.now c.map_node.new.writer c.write_region.new.writer c.write_region.result c.in_ok-map_node.ensures.counted
    (fails_written (members g) c.map_node.new.writer c.write_region.new.writer _ c.write_region.result c.write_region.ensures.written)

-- ---- wholes

pub map_whole-get-node-requires : goal.map_whole-get-node-requires
map_whole-get-node-requires g t c = tree_value c.requires.there

pub map_whole-returns-then-node-tally-clause-mapped : goal.map_whole-returns-then-node-tally-clause-mapped
map_whole-returns-then-node-tally-clause-mapped g t c = λ k.
    later_mapped (members g) c.args.whole.bytes.now c.args.whole.pos c.get-node.result.pos (path_of c.args.path.now) c.args.tally.now c.args.writer.now k
    c.get-node.ensures.value.points c.if-node-tally.true

pub map_whole-map_node-requires : goal.map_whole-map_node-requires
map_whole-map_node-requires g t c κs within =
    let there = tree_as c.get-node.ensures.bytes refl (inner_tree c.args.whole.bytes.now c.get-node.ensures.value c.requires.there) in
    let few = inside_few c.args.whole.bytes.now (omega arith) c.requires.there in
    let less : 200 * (64 - (c.args.outer + 1)) + 3 < t = omega (arith, few) in
    let room = c.requires.room in
    search rules

pub map_whole-returns-in_err-map_node-clause-mapped : goal.map_whole-returns-in_err-map_node-clause-mapped
map_whole-returns-in_err-map_node-clause-mapped g t c =
    let p = err_from_is_err_and c.from_residual.result c.from_residual.ensures.1 in
    rw (p.1, p.2) (λ k listed m.
    behind_failed (members g) c.args.tally.now c.map_node.new.tally c.args.writer.now c.map_node.new.writer c.in_err-map_node.field-0.0 c.get-node.ensures.bytes
    (first_listed c.args.whole.bytes.now c.args.whole.pos c.get-node.result.pos c.get-node.ensures.value.points c.if-node-tally.false m) c.in_err-map_node.ensures.mapped)

pub map_whole-returns-in_err-map_node-clause-counted : goal.map_whole-returns-in_err-map_node-clause-counted
map_whole-returns-in_err-map_node-clause-counted g t c =
    let p = err_from_is_err_and c.from_residual.result c.from_residual.ensures.1 in rw (p.1, p.2) c.in_err-map_node.ensures.counted

pub map_whole-write_region-requires-clause-fits : goal.map_whole-write_region-requires-clause-fits
map_whole-write_region-requires-clause-fits g t c =
    let inner = inner_tree c.args.whole.bytes.now c.get-node.ensures.value c.requires.there in
    let within = inner.held.own_within in
    omega (arith, within, c.well_formed)

pub map_whole-returns-clause-mapped : goal.map_whole-returns-clause-mapped
map_whole-returns-clause-mapped g t c = λ k listed m.
    behind_mapped (members g) c.args.tally.now c.map_node.new.tally c.write_region.new.tally c.args.writer.now c.map_node.new.writer c.write_region.new.writer c.write_region.result
    c.get-node.ensures.bytes (first_listed c.args.whole.bytes.now c.args.whole.pos c.get-node.result.pos c.get-node.ensures.value.points c.if-node-tally.false m)
    c.in_ok-map_node.ensures.mapped (c.write_region.ensures.written, c.write_region.ensures.tally)

pub map_whole-returns-clause-counted : goal.map_whole-returns-clause-counted
map_whole-returns-clause-counted g t c =
    fails_after (members g) c.args.writer.now c.map_node.new.writer c.write_region.new.writer c.write_region.result c.in_ok-map_node.ensures.counted
    (fails_written (members g) c.map_node.new.writer c.write_region.new.writer _ c.write_region.result c.write_region.ensures.written)

-- ---- entries

pub map_entry-as_str-requires : goal.map_entry-as_str-requires
map_entry-as_str-requires g t c = text_has (λ _. ⊤) c.args.key.bytes.now c.args.key.pos c.requires.key

pub map_entry-returns-in_err-write_text-clause-mapped : goal.map_entry-returns-in_err-write_text-clause-mapped
map_entry-returns-in_err-write_text-clause-mapped g t c =
    let p = err_from_is_err_and c.from_residual.result c.from_residual.ensures.1 in
    rw (p.1, p.2) (λ k.
    key_failed (members g) (path_of c.args.path.now) c.args.key.pos c.args.node.pos c.args.tally.now c.write_text.new.tally c.args.writer.now c.write_text.new.writer
    c.requires.both c.as_str.ensures k c.in_err-write_text.field-0.0 c.in_err-write_text.ensures.mapped)

pub map_entry-returns-in_err-write_text-clause-counted : goal.map_entry-returns-in_err-write_text-clause-counted
map_entry-returns-in_err-write_text-clause-counted g t c =
    let p = err_from_is_err_and c.from_residual.result c.from_residual.ensures.1 in rw (p.1, p.2) c.in_err-write_text.ensures.counted

pub map_entry-map_node-requires : goal.map_entry-map_node-requires
map_entry-map_node-requires g t c κs within =
    let there = c.requires.there in
    let less : 200 * (64 - c.args.outer) + 3 < t = omega arith in
    let room : g.W.Writer.failures c.write_text.new.writer < 18446744073709551615 = omega (arith, c.requires.room, c.in_ok-write_text.ensures.counted) in
    search rules

pub map_entry-returns-clause-mapped : goal.map_entry-returns-clause-mapped
map_entry-returns-clause-mapped g t c = λ k.
    entry_mapped (members g) (path_of c.args.path.now) c.args.key.pos c.args.node.pos c.args.tally.now c.write_text.new.tally c.args.writer.now c.write_text.new.writer
    c.requires.both c.as_str.ensures k c.map_node.new.tally c.map_node.new.writer c.map_node.result c.in_ok-write_text.ensures.mapped c.map_node.ensures.mapped

pub map_entry-returns-clause-counted : goal.map_entry-returns-clause-counted
map_entry-returns-clause-counted g t c =
    fails_after (members g) c.args.writer.now c.write_text.new.writer c.map_node.new.writer c.map_node.result c.in_ok-write_text.ensures.counted c.map_node.ensures.counted

-- ---- lists

pub map_list-as_slice-nodes-requires : goal.map_list-as_slice-nodes-requires
map_list-as_slice-nodes-requires g t c = tree_value c.requires.there

pub map_list-loop-index-init : goal.map_list-loop-index-init
map_list-loop-index-init g t c = record {
  left = elements_begin (members g) c.args.list.bytes.now (path_of c.args.path.now) c.as_slice-nodes.result.pos c.as_slice-nodes.result.len c.args.tally.now c.args.writer.now;
  quiet = refl;
}

pub map_list-get-requires : goal.map_list-get-requires
map_list-get-requires g t c =
    let list = c.args.list in
    let nodes = c.as_slice-nodes.result in
    subst (λ (b : Bor (List ℕ)). HasElements node_shape KnowsNode b.now nodes.pos nodes.len) (sym c.as_slice-nodes.ensures.bytes)
    (elements_of list.bytes.now list.pos nodes.pos nodes.len (tree_value c.requires.there) c.as_slice-nodes.ensures.elements)

pub map_list-unwrap-node-requires : goal.map_list-unwrap-node-requires
map_list-unwrap-node-requires g t c = some_unless _ c.get.result c.get.ensures (λ past. omega (arith, past, c.loop-index-test.true))

pub map_list-map_node-requires : goal.map_list-map_node-requires
map_list-map_node-requires g t c κs within =
    let list = c.args.list in
    let at = some_says _ _ c.get.result c.unwrap-node.result c.get.ensures c.unwrap-node.ensures in
    let there = tree_as (at.1 ∙ c.as_slice-nodes.ensures.bytes) at.2
    (element_there list.bytes.now c.as_slice-nodes.ensures.elements c.loop-index.index at.0 c.requires.there) in
    let few = inside_few list.bytes.now (omega arith) c.requires.there in
    let less : 200 * (64 - (c.args.outer + 1)) + 3 < t = omega (arith, few) in
    let room : g.W.Writer.failures c.loop-index.writer < 18446744073709551615 = omega (arith, c.requires.room, c.loop-index.invariant.quiet) in
    search rules

pub map_list-returns-in_err-map_node-clause-mapped : goal.map_list-returns-in_err-map_node-clause-mapped
map_list-returns-in_err-map_node-clause-mapped g t c =
    let p = err_from_is_err_and c.from_residual.result c.from_residual.ensures.1 in
    let list = c.args.list in
    let nodes = c.as_slice-nodes.result in
    let path = path_of c.args.path.now in
    let at = some_says _ _ c.get.result c.unwrap-node.result c.get.ensures c.unwrap-node.ensures in
    let same = ap (λ (b : Bor (List ℕ)). b.now) (at.1 ∙ c.as_slice-nodes.ensures.bytes) in
    rw (p.1, p.2) (λ k.
    list_failed (members g) list.bytes.now path nodes.pos nodes.len (tree_value c.requires.there) c.as_slice-nodes.ensures.elements
    c.args.tally.now c.map_node.new.tally c.args.writer.now c.map_node.new.writer k
    c.in_err-map_node.field-0.0
    (element_failed (members g) list.bytes.now path nodes.pos nodes.len c.unwrap-node.result.bytes.now at.0 c.loop-index.invariant.left same at.2
    c.map_node.new.tally c.map_node.new.writer c.in_err-map_node.field-0.0 c.in_err-map_node.ensures.mapped))

pub map_list-returns-in_err-map_node-clause-counted : goal.map_list-returns-in_err-map_node-clause-counted
map_list-returns-in_err-map_node-clause-counted g t c =
    let p = err_from_is_err_and c.from_residual.result c.from_residual.ensures.1 in
    rw (p.1, p.2)
    (fails_after (members g) {A = Unit {0}} c.args.writer.now c.loop-index.writer c.map_node.new.writer (Err c.in_err-map_node.field-0.0)
    c.loop-index.invariant.quiet c.in_err-map_node.ensures.counted)

pub map_list-loop-index-preserved : goal.map_list-loop-index-preserved
map_list-loop-index-preserved g t c =
    let list = c.args.list in
    let nodes = c.as_slice-nodes.result in
    let at = some_says _ _ c.get.result c.unwrap-node.result c.get.ensures c.unwrap-node.ensures in
    let same = ap (λ (b : Bor (List ℕ)). b.now) (at.1 ∙ c.as_slice-nodes.ensures.bytes) in
    record {
      left =
          element_mapped (members g) list.bytes.now (path_of c.args.path.now) nodes.pos nodes.len c.unwrap-node.result.bytes.now at.0 c.loop-index.invariant.left
          same at.2 c.map_node.new.tally c.map_node.new.writer c.in_ok-map_node.ensures.mapped;
      quiet = c.in_ok-map_node.ensures.counted ∙ c.loop-index.invariant.quiet;
    }

pub map_list-overflow_mul-nodes : goal.map_list-overflow_mul-nodes
map_list-overflow_mul-nodes g t c =
    let list = c.args.list in
    let nodes = c.as_slice-nodes.result in
    let all = elements_of list.bytes.now list.pos nodes.pos nodes.len (tree_value c.requires.there) c.as_slice-nodes.ensures.elements in
    let within = all.stand.within in
    omega (arith, within, c.well_formed)

pub map_list-write_region-requires-clause-fits : goal.map_list-write_region-requires-clause-fits
map_list-write_region-requires-clause-fits g t c =
    let list = c.args.list in
    let nodes = c.as_slice-nodes.result in
    let all = elements_of list.bytes.now list.pos nodes.pos nodes.len (tree_value c.requires.there) c.as_slice-nodes.ensures.elements in
    let within = all.stand.within in
    omega (arith, within, c.well_formed)

pub map_list-write_region-requires-clause-room : goal.map_list-write_region-requires-clause-room
map_list-write_region-requires-clause-room g t c = omega (arith, c.requires.room, c.loop-index.invariant.quiet)

pub map_list-returns-clause-mapped : goal.map_list-returns-clause-mapped
map_list-returns-clause-mapped g t c =
    let list = c.args.list in
    let nodes = c.as_slice-nodes.result in
    let path = path_of c.args.path.now in
    let most : nodes.len ≤ c.loop-index.index = omega (arith, c.loop-index-test.false) in
    λ k.
    list_mapped (members g) list.bytes.now path nodes.pos nodes.len (tree_value c.requires.there) c.as_slice-nodes.ensures.elements
    c.args.tally.now c.write_region.new.tally c.args.writer.now c.write_region.new.writer k
    c.loop-index.tally c.loop-index.writer c.write_region.result
    (elements_mapped (members g) list.bytes.now path nodes.pos nodes.len most c.loop-index.invariant.left) (c.write_region.ensures.written, c.write_region.ensures.tally)

pub map_list-returns-clause-counted : goal.map_list-returns-clause-counted
map_list-returns-clause-counted g t c =
    fails_after (members g) c.args.writer.now c.loop-index.writer c.write_region.new.writer c.write_region.result c.loop-index.invariant.quiet
    (fails_written (members g) c.loop-index.writer c.write_region.new.writer _ c.write_region.result c.write_region.ensures.written)

-- ---- hashed maps

pub map_hashed-iter-key-items-requires : goal.map_hashed-iter-key-items-requires
map_hashed-iter-key-items-requires g t c = tree_value c.requires.there

pub map_hashed-loop-key-init : goal.map_hashed-loop-key-init
map_hashed-loop-key-init g t c = λ b is.
    let map_bytes = c.args.map.bytes in
    let gives = c.into_iter-key-iterator.ensures.into_iter_gives in
    let are = c.iter-key-items.ensures.entries in
    pairs_begin (members g) map_bytes (c.args.outer + 1) kind.Table (path_of c.args.path.now) (item_positions pair_shape b) c.args.tally.now c.args.writer.now
    (gives ∙ are b is) (subst (λ es. All (IsEntry map_bytes.now (c.args.outer + 1)) (map positions es)) (sym gives) (hashed_there map_bytes c.requires.there c.iter-key-items.result are))

pub map_hashed-map_entry-requires : goal.map_hashed-map_entry-requires
map_hashed-map_entry-requires g t c κs within =
    let map_bytes = c.args.map.bytes in
    let table = table_is_read pair_shape knows_pairs map_bytes.now c.args.map.pos c.requires.there.value c.requires.there.held in
    let left = c.loop-key.invariant table.buckets table.table in
    let path = path_of c.args.path.now in
    let first = first_there (members g) map_bytes (c.args.outer + 1) kind.Table path c.in-Some.ensures.steps left in
    let key = key_bytes (members g) map_bytes (c.args.outer + 1) kind.Table path c.in-Some.ensures.steps left in
    let node = node_bytes (members g) map_bytes (c.args.outer + 1) kind.Table path c.in-Some.ensures.steps left in
    let text_there = value_as text (λ _. ⊤) (sym key) refl first.0 in
    let there = tree_as node refl first.1 in
    let both = key ∙ sym node in
    let few = inside_few map_bytes.now (omega arith) c.requires.there in
    let less : 200 * (64 - (c.args.outer + 1)) + 4 < t = omega (arith, few) in
    let quiet = left.quiet in
    let room : g.W.Writer.failures c.loop-key.writer < 18446744073709551615 = omega (arith, c.requires.room, quiet) in
    search rules

pub map_hashed-returns-in_err-map_entry-clause-mapped : goal.map_hashed-returns-in_err-map_entry-clause-mapped
map_hashed-returns-in_err-map_entry-clause-mapped g t c =
    let p = err_from_is_err_and c.from_residual.result c.from_residual.ensures.1 in
    let map_bytes = c.args.map.bytes in
    let table = table_is_read pair_shape knows_pairs map_bytes.now c.args.map.pos c.requires.there.value c.requires.there.held in
    let left = c.loop-key.invariant table.buckets table.table in
    let path = path_of c.args.path.now in
    rw (p.1, p.2) (λ k.
    hashed_failed (members g) map_bytes.now path k table.buckets table.table
    c.args.tally.now c.map_entry.new.tally c.args.writer.now c.map_entry.new.writer c.in_err-map_entry.field-0.0
    (pair_failed (members g) map_bytes (c.args.outer + 1) kind.Table path c.in-Some.ensures.steps left c.map_entry.new.tally c.map_entry.new.writer
    c.in_err-map_entry.field-0.0 c.in_err-map_entry.ensures.mapped))

pub map_hashed-returns-in_err-map_entry-clause-counted : goal.map_hashed-returns-in_err-map_entry-clause-counted
map_hashed-returns-in_err-map_entry-clause-counted g t c =
    let p = err_from_is_err_and c.from_residual.result c.from_residual.ensures.1 in
    let table = table_is_read pair_shape knows_pairs c.args.map.bytes.now c.args.map.pos c.requires.there.value c.requires.there.held in
    let left = c.loop-key.invariant table.buckets table.table in
    rw (p.1, p.2)
    (fails_after (members g) {A = Unit {0}} c.args.writer.now c.loop-key.writer c.map_entry.new.writer (Err c.in_err-map_entry.field-0.0)
    left.quiet c.in_err-map_entry.ensures.counted)

pub map_hashed-loop-key-preserved : goal.map_hashed-loop-key-preserved
map_hashed-loop-key-preserved g t c = λ b is.
    pair_mapped (members g) c.args.map.bytes (c.args.outer + 1) kind.Table (path_of c.args.path.now) c.in-Some.ensures.steps (c.loop-key.invariant b is)
    c.map_entry.new.tally c.map_entry.new.writer c.in_ok-map_entry.ensures.mapped c.in_ok-map_entry.ensures.counted

pub map_hashed-write_table-requires-clause-there : goal.map_hashed-write_table-requires-clause-there
map_hashed-write_table-requires-clause-there g t c = tree_value c.requires.there

pub map_hashed-write_table-requires-clause-room : goal.map_hashed-write_table-requires-clause-room
map_hashed-write_table-requires-clause-room g t c =
    let table = table_is_read pair_shape knows_pairs c.args.map.bytes.now c.args.map.pos c.requires.there.value c.requires.there.held in
    let quiet = (c.loop-key.invariant table.buckets table.table).quiet in
    omega (arith, c.requires.room, quiet)

pub map_hashed-returns-clause-mapped : goal.map_hashed-returns-clause-mapped
map_hashed-returns-clause-mapped g t c =
    let map_bytes = c.args.map.bytes in
    let table = table_is_read pair_shape knows_pairs map_bytes.now c.args.map.pos c.requires.there.value c.requires.there.held in
    let left = c.loop-key.invariant table.buckets table.table in
    let path = path_of c.args.path.now in
    λ k.
    hashed_mapped (members g) map_bytes.now path k table.buckets table.table c.args.tally.now c.write_table.new.tally c.args.writer.now c.write_table.new.writer
    refl c.loop-key.tally c.loop-key.writer c.write_table.result
    (pairs_mapped (members g) map_bytes (c.args.outer + 1) kind.Table path c.in-None.ensures.steps.0 left) (c.write_table.ensures.mapped table.buckets table.table)

pub map_hashed-returns-clause-counted : goal.map_hashed-returns-clause-counted
map_hashed-returns-clause-counted g t c =
    let table = table_is_read pair_shape knows_pairs c.args.map.bytes.now c.args.map.pos c.requires.there.value c.requires.there.held in
    let left = c.loop-key.invariant table.buckets table.table in
    fails_after (members g) c.args.writer.now c.loop-key.writer c.write_table.new.writer c.write_table.result left.quiet c.write_table.ensures.counted

-- ---- kept maps

pub map_kept-len-count-requires : goal.map_kept-len-count-requires
map_kept-len-count-requires g t c = tree_value c.requires.there

pub map_kept-returns-then-count-eq0-clause-mapped : goal.map_kept-returns-then-count-eq0-clause-mapped
map_kept-returns-then-count-eq0-clause-mapped g t c =
    let r = map_of_value c.args.map.bytes.now c.args.map.pos c.requires.there.value c.requires.there.held in
    let none = sym (c.len-count.ensures r.map r.stands) ∙ c.if-count-eq0.true in
    λ k. empty_mapped (members g) c.args.map.bytes.now (path_of c.args.path.now) k r.map r.stands c.args.tally.now c.args.writer.now none

pub map_kept-write_table-requires-clause-there : goal.map_kept-write_table-requires-clause-there
map_kept-write_table-requires-clause-there g t c =
    let there = table_there text node_shape (λ _. ⊤) KnowsNode c.args.map.bytes.now c.args.map.pos c.requires.there.value c.requires.there.held in
    record { value = there.0; held = there.1 }

pub map_kept-returns-in_err-write_table-clause-mapped : goal.map_kept-returns-in_err-write_table-clause-mapped
map_kept-returns-in_err-write_table-clause-mapped g t c =
    let p = err_from_is_err_and c.from_residual.result c.from_residual.ensures.1 in
    let r = map_of_value c.args.map.bytes.now c.args.map.pos c.requires.there.value c.requires.there.held in
    let some : count_of r.map ≡ 0 → ⊥ = λ none. c.if-count-eq0.false (c.len-count.ensures r.map r.stands ∙ none) in
    rw (p.1, p.2) (λ k.
    table_failed (members g) c.args.map.bytes.now (path_of c.args.path.now) k r.map r.stands some
    c.args.tally.now c.write_table.new.tally c.args.writer.now c.write_table.new.writer c.in_err-write_table.field-0.0
    (c.in_err-write_table.ensures.mapped r.map.buckets r.stands.table))

pub map_kept-returns-in_err-write_table-clause-counted : goal.map_kept-returns-in_err-write_table-clause-counted
map_kept-returns-in_err-write_table-clause-counted g t c =
    let p = err_from_is_err_and c.from_residual.result c.from_residual.ensures.1 in rw (p.1, p.2) c.in_err-write_table.ensures.counted

pub map_kept-iter-key-items-requires : goal.map_kept-iter-key-items-requires
map_kept-iter-key-items-requires g t c = tree_value c.requires.there

pub map_kept-loop-key-init : goal.map_kept-loop-key-init
map_kept-loop-key-init g t c = λ i stands.
    let map_bytes = c.args.map.bytes in
    let gives = c.into_iter-key-iterator.ensures.into_iter_gives in
    let are = c.iter-key-items.ensures.entries in
    pairs_begin (members g) map_bytes (c.args.outer + 1) kind.Entries (path_of c.args.path.now) (entry_positions text node_shape i) c.write_table.new.tally c.write_table.new.writer
    (gives ∙ are i stands) (kept_are map_bytes c.requires.there (map positions c.into_iter-key-iterator.result) (λ j at. ap (map positions) (gives ∙ are j at))).0

pub map_kept-map_entry-requires : goal.map_kept-map_entry-requires
map_kept-map_entry-requires g t c κs within =
    let map_bytes = c.args.map.bytes in
    let r = map_of_value map_bytes.now c.args.map.pos c.requires.there.value c.requires.there.held in
    let left = c.loop-key.invariant r.map r.stands in
    let path = path_of c.args.path.now in
    let first = first_there (members g) map_bytes (c.args.outer + 1) kind.Entries path c.in-Some.ensures.steps left in
    let key = key_bytes (members g) map_bytes (c.args.outer + 1) kind.Entries path c.in-Some.ensures.steps left in
    let node = node_bytes (members g) map_bytes (c.args.outer + 1) kind.Entries path c.in-Some.ensures.steps left in
    let text_there = value_as text (λ _. ⊤) (sym key) refl first.0 in
    let there = tree_as node refl first.1 in
    let both = key ∙ sym node in
    let few = inside_few map_bytes.now (omega arith) c.requires.there in
    let less : 200 * (64 - (c.args.outer + 1)) + 4 < t = omega (arith, few) in
    let quiet = left.quiet in
    let room : g.W.Writer.failures c.loop-key.writer < 18446744073709551615 = omega (arith, c.requires.room, c.in_ok-write_table.ensures.counted, quiet) in
    search rules

pub map_kept-returns-in_err-map_entry-clause-mapped : goal.map_kept-returns-in_err-map_entry-clause-mapped
map_kept-returns-in_err-map_entry-clause-mapped g t c =
    let p = err_from_is_err_and c.from_residual-in_err-map_entry.result c.from_residual-in_err-map_entry.ensures.1 in
    let map_bytes = c.args.map.bytes in
    let r = map_of_value map_bytes.now c.args.map.pos c.requires.there.value c.requires.there.held in
    let some : count_of r.map ≡ 0 → ⊥ = λ none. c.if-count-eq0.false (c.len-count.ensures r.map r.stands ∙ none) in
    let left = c.loop-key.invariant r.map r.stands in
    let path = path_of c.args.path.now in
    rw (p.1, p.2) (λ k.
    kept_failed (members g) map_bytes.now path k r.map r.stands some c.args.tally.now c.write_table.new.tally c.args.writer.now c.write_table.new.writer
    (c.in_ok-write_table.ensures.mapped r.map.buckets r.stands.table) c.map_entry.new.tally c.map_entry.new.writer c.in_err-map_entry.field-0.0
    (pair_failed (members g) map_bytes (c.args.outer + 1) kind.Entries path c.in-Some.ensures.steps left c.map_entry.new.tally c.map_entry.new.writer
    c.in_err-map_entry.field-0.0 c.in_err-map_entry.ensures.mapped))

pub map_kept-returns-in_err-map_entry-clause-counted : goal.map_kept-returns-in_err-map_entry-clause-counted
map_kept-returns-in_err-map_entry-clause-counted g t c =
    let p = err_from_is_err_and c.from_residual-in_err-map_entry.result c.from_residual-in_err-map_entry.ensures.1 in
    let r = map_of_value c.args.map.bytes.now c.args.map.pos c.requires.there.value c.requires.there.held in
    let left = c.loop-key.invariant r.map r.stands in
    rw (p.1, p.2)
    (fails_after (members g) {A = Unit {0}} c.args.writer.now c.loop-key.writer c.map_entry.new.writer (Err c.in_err-map_entry.field-0.0)
    (left.quiet ∙ c.in_ok-write_table.ensures.counted) c.in_err-map_entry.ensures.counted)

pub map_kept-loop-key-preserved : goal.map_kept-loop-key-preserved
map_kept-loop-key-preserved g t c = λ i stands.
    pair_mapped (members g) c.args.map.bytes (c.args.outer + 1) kind.Entries (path_of c.args.path.now) c.in-Some.ensures.steps (c.loop-key.invariant i stands)
    c.map_entry.new.tally c.map_entry.new.writer c.in_ok-map_entry.ensures.mapped c.in_ok-map_entry.ensures.counted

pub map_kept-overflow_add-map : goal.map_kept-overflow_add-map
map_kept-overflow_add-map g t c = let within = c.requires.there.held.own_within in omega (arith, within, c.well_formed)

pub map_kept-target_of-start-requires-clause-fits : goal.map_kept-target_of-start-requires-clause-fits
map_kept-target_of-start-requires-clause-fits g t c = let within = c.requires.there.held.own_within in omega (arith, within)

pub map_kept-target_of-start-requires-clause-leads : goal.map_kept-target_of-start-requires-clause-leads
map_kept-target_of-start-requires-clause-leads g t c =
    let r = map_of_value c.args.map.bytes.now c.args.map.pos c.requires.there.value c.requires.there.held in
    (r.map.start, r.stands.leads (λ none. c.if-count-eq0.false (c.len-count.ensures r.map r.stands ∙ none)))

pub map_kept-overflow_mul-count : goal.map_kept-overflow_mul-count
unfolding align_up
map_kept-overflow_mul-count g t c =
    let r = map_of_value c.args.map.bytes.now c.args.map.pos c.requires.there.value c.requires.there.held in
    let within = r.stands.within in
    omega (arith, within, c.len-count.ensures r.map r.stands, c.well_formed)

pub map_kept-write_region-requires-clause-fits : goal.map_kept-write_region-requires-clause-fits
unfolding align_up
map_kept-write_region-requires-clause-fits g t c =
    let r = map_of_value c.args.map.bytes.now c.args.map.pos c.requires.there.value c.requires.there.held in
    let within = r.stands.within in
    let leads = r.stands.leads (λ none. c.if-count-eq0.false (c.len-count.ensures r.map r.stands ∙ none)) in
    let points = c.target_of-start.ensures in
    let same : c.target_of-start.result ≡ r.map.start = cc in
    omega (arith, same, within, c.len-count.ensures r.map r.stands, c.well_formed)

pub map_kept-write_region-requires-clause-room : goal.map_kept-write_region-requires-clause-room
map_kept-write_region-requires-clause-room g t c =
    let r = map_of_value c.args.map.bytes.now c.args.map.pos c.requires.there.value c.requires.there.held in
    let quiet = (c.loop-key.invariant r.map r.stands).quiet in
    omega (arith, c.requires.room, c.in_ok-write_table.ensures.counted, quiet)

pub map_kept-returns-clause-mapped : goal.map_kept-returns-clause-mapped
map_kept-returns-clause-mapped g t c =
    let map_bytes = c.args.map.bytes in
    let r = map_of_value map_bytes.now c.args.map.pos c.requires.there.value c.requires.there.held in
    let some : count_of r.map ≡ 0 → ⊥ = λ none. c.if-count-eq0.false (c.len-count.ensures r.map r.stands ∙ none) in
    let path = path_of c.args.path.now in
    λ k.
    kept_mapped (members g) map_bytes.now path k r.map r.stands some c.args.tally.now c.write_table.new.tally c.args.writer.now c.write_table.new.writer
    (c.in_ok-write_table.ensures.mapped r.map.buckets r.stands.table) c.write_region.new.tally c.write_region.new.writer c.loop-key.tally c.loop-key.writer
    c.target_of-start.result c.len-count.result c.write_region.result
    (pairs_mapped (members g) map_bytes (c.args.outer + 1) kind.Entries path c.in-None.ensures.steps.0 (c.loop-key.invariant r.map r.stands))
    c.target_of-start.ensures (c.len-count.ensures r.map r.stands) (c.write_region.ensures.written, c.write_region.ensures.tally)

pub map_kept-returns-clause-counted : goal.map_kept-returns-clause-counted
map_kept-returns-clause-counted g t c =
    let r = map_of_value c.args.map.bytes.now c.args.map.pos c.requires.there.value c.requires.there.held in
    let left = c.loop-key.invariant r.map r.stands in
    fails_after (members g) c.args.writer.now c.loop-key.writer c.write_region.new.writer c.write_region.result (left.quiet ∙ c.in_ok-write_table.ensures.counted)
    (fails_written (members g) c.loop-key.writer c.write_region.new.writer _ c.write_region.result c.write_region.ensures.written)

-- ---- search trees: pointers to nodes

pub map_child-returns-then-read_word-eq-NO_CHILD-clause-mapped : goal.map_child-returns-then-read_word-eq-NO_CHILD-clause-mapped
map_child-returns-then-read_word-eq-NO_CHILD-clause-mapped g t c = λ listed m.
    none_written (members g) {A = Unit {0}} tt c.args.tally.now c.args.writer.now (no_child_listed c.args.bytes.now m (sym c.read_word.ensures ∙ c.if-read_word-eq-NO_CHILD.true))

pub map_child-target_of-requires-clause-leads : goal.map_child-target_of-requires-clause-leads
map_child-target_of-requires-clause-leads g t c =
    link_leads c.args.bytes.now c.args.outer c.requires.there (λ e. c.if-read_word-eq-NO_CHILD.false (c.read_word.ensures ∙ e))

pub map_child-map_tree-requires : goal.map_child-map_tree-requires
map_child-map_tree-requires g t c κs within =
    let there =
    link_subtree c.args.bytes.now c.args.outer c.requires.there (λ e. c.if-read_word-eq-NO_CHILD.false (c.read_word.ensures ∙ e)) c.target_of.ensures in
    let less : 200 * (64 - c.args.outer) + 4 * (33 - c.args.level) + 8 < t = omega arith in
    search rules

pub map_child-returns-clause-mapped : goal.map_child-returns-clause-mapped
map_child-returns-clause-mapped g t c = λ listed m.
    let away : word_at c.args.bytes.now c.args.link ≢ 1 = λ e. c.if-read_word-eq-NO_CHILD.false (c.read_word.ensures ∙ e) in
    let there = link_subtree c.args.bytes.now c.args.outer c.requires.there away c.target_of.ensures in
    let deep = (node_fits c.args.bytes.now c.args.outer there).0 in
    c.map_tree.ensures.mapped listed (child_listed c.args.bytes.now m away deep c.target_of.ensures)

-- ---- search trees: nodes

pub map_tree-bounds-bytes-pos : goal.map_tree-bounds-bytes-pos
map_tree-bounds-bytes-pos g t c = let fits = (node_fits c.args.bytes.now c.args.outer c.requires.there).1 in omega (arith, fits)

pub map_tree-map_inner-requires : goal.map_tree-map_inner-requires
map_tree-map_inner-requires g t c κs within =
    let there = inner_there c.args.bytes.now c.args.outer c.requires.there c.if-bytes-pos-ne0.true in
    let is = there.is in
    let deep = there.deep in
    let less : 200 * (64 - c.args.outer) + 4 * (33 - c.args.level) + 7 < t = omega arith in
    search rules

pub map_tree-returns-then-bytes-pos-ne0-clause-mapped : goal.map_tree-returns-then-bytes-pos-ne0-clause-mapped
map_tree-returns-then-bytes-pos-ne0-clause-mapped g t c = c.map_inner.ensures.mapped

pub map_tree-overflow_add-pos : goal.map_tree-overflow_add-pos
map_tree-overflow_add-pos g t c =
    let fits = (node_fits c.args.bytes.now c.args.outer c.requires.there).1 in
    let links = (offsets_of c.tree_layout-layout.ensures.layout).links in
    search rules

pub map_tree-read_word-count-requires : goal.map_tree-read_word-count-requires
map_tree-read_word-count-requires g t c =
    let fits = (node_fits c.args.bytes.now c.args.outer c.requires.there).1 in
    let links = (offsets_of c.tree_layout-layout.ensures.layout).links in
    omega (arith, fits, links)

pub map_tree-map_tree_entries-requires : goal.map_tree-map_tree_entries-requires
map_tree-map_tree_entries-requires g t c κs within =
    let bytes = c.args.bytes.now in
    let links = (offsets_of c.tree_layout-layout.ensures.layout).links in
    let says : c.read_word-count.result ≡ word_at bytes (c.args.pos + 168) = c.read_word-count.ensures ∙ ap (λ n. word_at bytes (c.args.pos + n)) links in
    let leaf = leaf_there bytes c.args.outer c.requires.there c.if-bytes-pos-ne0.false in
    let there = subst (λ n. HasEntries bytes c.args.outer n (c.args.pos + 4) (c.args.pos + 48)) (sym says) leaf.entries in
    let less : 200 * (64 - c.args.outer) + 5 < t = omega arith in
    search rules

pub map_tree-returns-in_err-map_tree_entries-clause-mapped : goal.map_tree-returns-in_err-map_tree_entries-clause-mapped
map_tree-returns-in_err-map_tree_entries-clause-mapped g t c = λ listed m.
    let p = err_from_is_err_and c.from_residual.result c.from_residual.ensures.1 in
    let bytes = c.args.bytes.now in
    let new = c.map_tree_entries.new.tally in
    let links = (offsets_of c.tree_layout-layout.ensures.layout).links in
    let says : c.read_word-count.result ≡ word_at bytes (c.args.pos + 168) = c.read_word-count.ensures ∙ ap (λ n. word_at bytes (c.args.pos + n)) links in
    let leaf = leaf_there bytes c.args.outer c.requires.there c.if-bytes-pos-ne0.false in
    let few = subst (λ n. n ≤ 5) (sym says) leaf.few in
    rw (p.1, p.2)
    (leaf_failed (members g) bytes (path_of c.args.path.now) c.args.pos c.args.level c.args.tally.now new new c.if-bytes-pos-ne0.false leaf.deep (sym says) few
    c.in_err-map_tree_entries.field-0.0 (c.in_err-map_tree_entries.ensures.mapped c.args.level 0) listed m)

pub map_tree-returns-clause-mapped : goal.map_tree-returns-clause-mapped
map_tree-returns-clause-mapped g t c = λ listed m.
    let bytes = c.args.bytes.now in
    let path = path_of c.args.path.now in
    let mid = c.map_tree_entries.new.tally in
    let new = c.write_region.new.tally in
    let last = c.write_region.new.writer in
    let links = (offsets_of c.tree_layout-layout.ensures.layout).links in
    let says : c.read_word-count.result ≡ word_at bytes (c.args.pos + 168) = c.read_word-count.ensures ∙ ap (λ n. word_at bytes (c.args.pos + n)) links in
    let leaf = leaf_there bytes c.args.outer c.requires.there c.if-bytes-pos-ne0.false in
    let few = subst (λ n. n ≤ 5) (sym says) leaf.few in
    let region =
    subst (λ n. WritesListed (members g) (listed_region c.args.pos n (named kind.Tree path)) mid new c.map_tree_entries.new.writer last c.write_region.result)
    c.tree_layout-layout.ensures.leaf (c.write_region.ensures.written, c.write_region.ensures.tally) in
    leaf_mapped (members g) bytes path c.args.pos c.args.level c.args.tally.now mid new last c.if-bytes-pos-ne0.false leaf.deep (sym says) few
    c.write_region.result (c.in_ok-map_tree_entries.ensures.mapped c.args.level 0) region listed m

-- ---- ordered maps

pub map_ordered-returns-then-count_at-eq0-clause-mapped : goal.map_ordered-returns-then-count_at-eq0-clause-mapped
map_ordered-returns-then-count_at-eq0-clause-mapped g t c = λ k listed m.
    none_written (members g) {A = Unit {0}} tt c.args.tally.now c.args.writer.now (no_tree_listed c.args.map.bytes.now m (sym c.count_at.ensures ∙ c.if-count_at-eq0.true))

pub map_ordered-target_of-root-requires-clause-leads : goal.map_ordered-target_of-root-requires-clause-leads
map_ordered-target_of-root-requires-clause-leads g t c = root_leads c.args.map.bytes c.requires.there (λ e. c.if-count_at-eq0.false (c.count_at.ensures ∙ e))

pub map_ordered-map_tree-requires : goal.map_ordered-map_tree-requires
map_ordered-map_tree-requires g t c κs within =
    let there = root_subtree c.args.map.bytes c.requires.there (λ e. c.if-count_at-eq0.false (c.count_at.ensures ∙ e)) c.target_of-root.ensures in
    let few = inside_few c.args.map.bytes.now (omega arith) c.requires.there in
    let less : 200 * (64 - (c.args.outer + 1)) + 4 * (33 - 1) + 8 < t = omega (arith, few) in
    search rules

pub map_ordered-returns-clause-mapped : goal.map_ordered-returns-clause-mapped
map_ordered-returns-clause-mapped g t c = λ k listed m.
    c.map_tree.ensures.mapped listed (tree_listed c.args.map.bytes.now m (λ e. c.if-count_at-eq0.false (c.count_at.ensures ∙ e)) c.target_of-root.ensures)

-- ---- search trees: entries

pub map_tree_entries-loop-index-init : goal.map_tree_entries-loop-index-init
map_tree_entries-loop-index-init g t c = record {
  left = no_entry_written (members g) c.args.bytes.now (path_of c.args.path.now) c.args.pos c.args.count c.args.tally.now c.args.writer.now;
  quiet = refl;
}

pub map_tree_entries-map_entry-requires : goal.map_tree_entries-map_entry-requires
map_tree_entries-map_entry-requires g t c κs within =
    let o = offsets_of c.tree_layout-layout.ensures.layout in
    let is = c.requires.there c.loop-index.index c.loop-index-test.true in
    let key_at : c.new-key.result.pos ≡ c.args.pos + 4 + c.loop-index.index * 8 = rw (c.new-key.ensures.pos, o.keys, o.key_size) refl in
    let node_at : c.new-node.result.pos ≡ c.args.pos + 48 + c.loop-index.index * 24 = rw (c.new-node.ensures.pos, o.values, o.value_size) refl in
    let key =
    subst (λ (b : Bor (List ℕ)). HasValue text (λ _. ⊤) b.now c.new-key.result.pos) (sym c.new-key.ensures.bytes)
    (subst (HasValue text (λ _. ⊤) c.args.bytes.now) (sym key_at) is.0) in
    let there = tree_as c.new-node.ensures.bytes node_at is.1 in
    let both = c.new-key.ensures.bytes ∙ sym c.new-node.ensures.bytes in
    let quiet = c.loop-index.invariant.quiet in
    let less : 200 * (64 - c.args.outer) + 4 < t = omega arith in
    search rules

pub map_tree_entries-returns-in_err-map_entry-clause-mapped : goal.map_tree_entries-returns-in_err-map_entry-clause-mapped
map_tree_entries-returns-in_err-map_entry-clause-mapped g t c = λ level i listed m.
    let p = err_from_is_err_and c.from_residual.result c.from_residual.ensures.1 in
    let o = offsets_of c.tree_layout-layout.ensures.layout in
    let at = c.loop-index in
    let why = c.in_err-map_entry.field-0.0 in
    let key_at : c.new-key.result.pos ≡ c.args.pos + 4 + at.index * 8 = rw (c.new-key.ensures.pos, o.keys, o.key_size) refl in
    let node_at : c.new-node.result.pos ≡ c.args.pos + 48 + at.index * 24 = rw (c.new-node.ensures.pos, o.values, o.value_size) refl in
    let mapped = entry_as (members g) (path_of c.args.path.now) at.tally c.map_entry.new.tally at.writer c.map_entry.new.writer (Err why) c.new-node.ensures.bytes key_at node_at (c.in_err-map_entry.ensures.mapped kind.Tree) in
    rw (p.1, p.2)
    (entry_failed (members g) c.args.bytes.now (path_of c.args.path.now) c.args.pos c.args.count at.index c.args.tally.now at.tally c.args.writer.now at.writer at.invariant.left
    c.loop-index-test.true c.map_entry.new.tally why mapped level i listed m)

pub map_tree_entries-loop-index-preserved : goal.map_tree_entries-loop-index-preserved
map_tree_entries-loop-index-preserved g t c =
    let o = offsets_of c.tree_layout-layout.ensures.layout in
    let at = c.loop-index in
    let key_at : c.new-key.result.pos ≡ c.args.pos + 4 + at.index * 8 = rw (c.new-key.ensures.pos, o.keys, o.key_size) refl in
    let node_at : c.new-node.result.pos ≡ c.args.pos + 48 + at.index * 24 = rw (c.new-node.ensures.pos, o.values, o.value_size) refl in
    let mapped = entry_as (members g) (path_of c.args.path.now) at.tally c.map_entry.new.tally at.writer c.map_entry.new.writer (Ok tt) c.new-node.ensures.bytes key_at node_at (c.in_ok-map_entry.ensures.mapped kind.Tree) in
    record {
      left =
          entry_passed (members g) c.args.bytes.now (path_of c.args.path.now) c.args.pos c.args.count at.index c.args.tally.now at.tally c.args.writer.now at.writer at.invariant.left
          c.loop-index-test.true c.map_entry.new.tally c.map_entry.new.writer mapped;
      quiet = c.in_ok-map_entry.ensures.counted ∙ at.invariant.quiet;
    }

pub map_tree_entries-returns-clause-mapped : goal.map_tree_entries-returns-clause-mapped
map_tree_entries-returns-clause-mapped g t c =
    let at = c.loop-index in
    entries_mapped (members g) c.args.bytes.now (path_of c.args.path.now) c.args.pos c.args.count at.index c.args.tally.now at.tally c.args.writer.now at.writer at.invariant.left
    (omega (arith, c.loop-index-test.false))

-- ---- search trees: where entries lie

pub map_tree_entries-overflow_add-pos : goal.map_tree_entries-overflow_add-pos
map_tree_entries-overflow_add-pos g t c =
    let fits : c.args.pos + 4 + c.loop-index.index * 8 + 8 ≤ length c.args.bytes.now = (c.requires.there c.loop-index.index c.loop-index-test.true).0.held.own_within in
    let keys = (offsets_of c.tree_layout-layout.ensures.layout).keys in
    search rules

pub map_tree_entries-overflow_add-pos-in-loop-index : goal.map_tree_entries-overflow_add-pos-in-loop-index
map_tree_entries-overflow_add-pos-in-loop-index g t c =
    let o = offsets_of c.tree_layout-layout.ensures.layout in
    let fits : c.args.pos + 4 + c.loop-index.index * 8 + 8 ≤ length c.args.bytes.now = (c.requires.there c.loop-index.index c.loop-index-test.true).0.held.own_within in
    let keys = o.keys in
    let size = ap (λ n. c.loop-index.index * n) o.key_size in
    search rules

pub map_tree_entries-overflow_add-pos-in-loop-index-2 : goal.map_tree_entries-overflow_add-pos-in-loop-index-2
map_tree_entries-overflow_add-pos-in-loop-index-2 g t c =
    let fits : c.args.pos + 48 + c.loop-index.index * 24 + 24 ≤ length c.args.bytes.now = (c.requires.there c.loop-index.index c.loop-index-test.true).1.held.own_within in
    let values = (offsets_of c.tree_layout-layout.ensures.layout).values in
    search rules

pub map_tree_entries-overflow_mul-index-in-loop-index : goal.map_tree_entries-overflow_mul-index-in-loop-index
map_tree_entries-overflow_mul-index-in-loop-index g t c =
    let fits : c.args.pos + 48 + c.loop-index.index * 24 + 24 ≤ length c.args.bytes.now = (c.requires.there c.loop-index.index c.loop-index-test.true).1.held.own_within in
    let size = ap (λ n. c.loop-index.index * n) (offsets_of c.tree_layout-layout.ensures.layout).value_size in
    search rules

pub map_tree_entries-overflow_add-pos-in-loop-index-3 : goal.map_tree_entries-overflow_add-pos-in-loop-index-3
map_tree_entries-overflow_add-pos-in-loop-index-3 g t c =
    let o = offsets_of c.tree_layout-layout.ensures.layout in
    let fits : c.args.pos + 48 + c.loop-index.index * 24 + 24 ≤ length c.args.bytes.now = (c.requires.there c.loop-index.index c.loop-index-test.true).1.held.own_within in
    let values = o.values in
    let size = ap (λ n. c.loop-index.index * n) o.value_size in
    search rules

-- ---- search trees: inner nodes

pub map_inner-overflow_add-link : goal.map_inner-overflow_add-link
map_inner-overflow_add-link g t c =
    let fits = (node_fits c.args.bytes.now c.args.outer c.requires.there).1 in
    let links = (offsets_of c.tree_layout-layout.ensures.layout).links in
    search rules

pub map_inner-overflow_add-link-in-loop-index : goal.map_inner-overflow_add-link-in-loop-index
map_inner-overflow_add-link-in-loop-index g t c =
    let o = offsets_of c.tree_layout-layout.ensures.layout in
    let fits = (inner_there c.args.bytes.now c.args.outer c.requires.there (λ e. omega (arith, e, c.requires.inner))).fits in
    let few : c.loop-index.index ≤ 5 = omega (arith, c.loop-index-test.true, o.entries) in
    let links = o.links in
    search rules

pub map_inner-loop-index-init : goal.map_inner-loop-index-init
map_inner-loop-index-init g t c = record {
  left = no_child_written (members g) c.args.bytes.now (path_of c.args.path.now) c.args.pos c.args.level c.args.tally.now c.args.writer.now;
  quiet = refl;
}

pub map_inner-map_child-requires : goal.map_inner-map_child-requires
map_inner-map_child-requires g t c κs within =
    let o = offsets_of c.tree_layout-layout.ensures.layout in
    let inner = inner_there c.args.bytes.now c.args.outer c.requires.there (λ e. omega (arith, e, c.requires.inner)) in
    let few : c.loop-index.index ≤ 5 = omega (arith, c.loop-index-test.true, o.entries) in
    let there =
    subst (λ n. HasLink c.args.bytes.now c.args.outer (c.args.level + 1) (c.args.pos + n + 4 * c.loop-index.index)) (sym o.links) (inner.links c.loop-index.index few) in
    let inside = inner.fits in
    let links = o.links in
    let fits : c.args.pos + c.tree_layout-layout.result.links + 4 * c.loop-index.index + 4 ≤ length c.args.bytes.now = omega (arith, inside, links, few) in
    let deep = inner.deep in
    let quiet = c.loop-index.invariant.quiet in
    let less : 200 * (64 - c.args.outer) + 4 * (33 - (c.args.level + 1)) + 10 < t = omega (arith, deep) in
    search rules

pub map_inner-returns-in_err-map_child-clause-mapped : goal.map_inner-returns-in_err-map_child-clause-mapped
map_inner-returns-in_err-map_child-clause-mapped g t c = λ listed m.
    let p = err_from_is_err_and c.from_residual.result c.from_residual.ensures.1 in
    let bytes = c.args.bytes.now in
    let path = path_of c.args.path.now in
    let at = c.loop-index in
    let new = c.map_child.new.tally in
    let why = c.in_err-map_child.field-0.0 in
    let o = offsets_of c.tree_layout-layout.ensures.layout in
    let inner = inner_there bytes c.args.outer c.requires.there (λ e. omega (arith, e, c.requires.inner)) in
    let few : at.index < 6 = omega (arith, c.loop-index-test.true, o.entries) in
    let mapped = child_as (members g) bytes path c.args.pos c.args.level at.index at.tally new at.writer c.map_child.new.writer (Err why) o.links c.in_err-map_child.ensures.mapped in
    rw (p.1, p.2)
    (inner_failed (members g) bytes path c.args.pos c.args.level c.args.tally.now new new inner.is inner.deep why
    (child_failed (members g) bytes path c.args.pos c.args.level at.index c.args.tally.now at.tally c.args.writer.now at.writer at.invariant.left few new why mapped) listed m)

pub map_inner-loop-index-preserved : goal.map_inner-loop-index-preserved
map_inner-loop-index-preserved g t c =
    let bytes = c.args.bytes.now in
    let path = path_of c.args.path.now in
    let at = c.loop-index in
    let new = c.map_child.new.tally in
    let to = c.map_child.new.writer in
    let o = offsets_of c.tree_layout-layout.ensures.layout in
    let few : at.index < 6 = omega (arith, c.loop-index-test.true, o.entries) in
    let mapped = child_as (members g) bytes path c.args.pos c.args.level at.index at.tally new at.writer to (Ok tt) o.links c.in_ok-map_child.ensures.mapped in
    record {
      left = child_passed (members g) bytes path c.args.pos c.args.level at.index c.args.tally.now at.tally c.args.writer.now at.writer at.invariant.left few new to mapped;
      quiet = c.in_ok-map_child.ensures.counted ∙ at.invariant.quiet;
    }

pub map_inner-map_tree_entries-requires : goal.map_inner-map_tree_entries-requires
map_inner-map_tree_entries-requires g t c κs within =
    let o = offsets_of c.tree_layout-layout.ensures.layout in
    let inner = inner_there c.args.bytes.now c.args.outer c.requires.there (λ e. omega (arith, e, c.requires.inner)) in
    let there = subst (λ n. HasEntries c.args.bytes.now c.args.outer n (c.args.pos + 4) (c.args.pos + 48)) (sym o.entries) inner.entries in
    let quiet = c.loop-index.invariant.quiet in
    let less : 200 * (64 - c.args.outer) + 5 < t = omega arith in
    search rules

pub map_inner-returns-in_err-map_tree_entries-clause-mapped : goal.map_inner-returns-in_err-map_tree_entries-clause-mapped
map_inner-returns-in_err-map_tree_entries-clause-mapped g t c = λ listed m.
    let p = err_from_is_err_and c.from_residual-in_err-map_tree_entries.result c.from_residual-in_err-map_tree_entries.ensures.1 in
    let bytes = c.args.bytes.now in
    let path = path_of c.args.path.now in
    let at = c.loop-index in
    let new = c.map_tree_entries.new.tally in
    let to = c.map_tree_entries.new.writer in
    let why = c.in_err-map_tree_entries.field-0.0 in
    let o = offsets_of c.tree_layout-layout.ensures.layout in
    let inner = inner_there bytes c.args.outer c.requires.there (λ e. omega (arith, e, c.requires.inner)) in
    let all : 6 ≤ at.index = omega (arith, c.loop-index-test.false, o.entries) in
    rw (p.1, p.2)
    (inner_failed (members g) bytes path c.args.pos c.args.level c.args.tally.now new new inner.is inner.deep why
    (parts_mapped (members g) bytes path c.args.pos c.args.level at.index c.args.tally.now at.tally c.args.writer.now at.writer at.invariant.left
    all new to (Err why) (λ i. entries_as (members g) bytes path c.args.pos c.args.level i at.tally new at.writer to (Err why) o.entries (c.in_err-map_tree_entries.ensures.mapped c.args.level i)))
    listed m)

pub map_inner-returns-clause-mapped : goal.map_inner-returns-clause-mapped
map_inner-returns-clause-mapped g t c = λ listed m.
    let bytes = c.args.bytes.now in
    let path = path_of c.args.path.now in
    let at = c.loop-index in
    let mid = c.map_tree_entries.new.tally in
    let via = c.map_tree_entries.new.writer in
    let new = c.write_region.new.tally in
    let last = c.write_region.new.writer in
    let o = offsets_of c.tree_layout-layout.ensures.layout in
    let inner = inner_there bytes c.args.outer c.requires.there (λ e. omega (arith, e, c.requires.inner)) in
    let all : 6 ≤ at.index = omega (arith, c.loop-index-test.false, o.entries) in
    let region =
    subst (λ n. WritesListed (members g) (listed_region c.args.pos n (named kind.Tree path)) mid new via last c.write_region.result)
    c.tree_layout-layout.ensures.inner (c.write_region.ensures.written, c.write_region.ensures.tally) in
    inner_mapped (members g) bytes path c.args.pos c.args.level c.args.tally.now mid new last inner.is inner.deep c.write_region.result
    (parts_mapped (members g) bytes path c.args.pos c.args.level at.index c.args.tally.now at.tally c.args.writer.now at.writer at.invariant.left
    all mid via (Ok tt) (λ i. entries_as (members g) bytes path c.args.pos c.args.level i at.tally mid at.writer via (Ok tt) o.entries (c.in_ok-map_tree_entries.ensures.mapped c.args.level i)))
    region listed m
