use Rattle.std.proofs.Common.{◌≡◌, max, ℕ, ◌+◌, ◌-◌, ◌*◌, ◌<◌, List, Bor, Err, inr, refl, sym, subst, ◌∙◌, arith, rules}
use Rattle.std.specs.Prelude.{All}
use Rattle.std.proofs.lemmas.Result.{err_from_is_err_and}
use Rattle.archive_shape_layout.specs.Shape.Shape.{option, vector}
use Rattle.archive_forms_values.specs.Parts.{PointsTo}
use Rattle.archive_forms_values.proofs.Inside.{some_says}
use Rattle.cabinet_documents.specs.Node.{node_shape, whole_shape, KnowsNode}
use Rattle.archive_shape_layout.specs.Content.Part.{at}
use Rattle.cabinet_archives.specs.Hashed.{table_shape}
use Rattle.cabinet_archives.specs.Kept.{index_shape}
use Rattle.cabinet_archives.specs.Ordered.{map_shape}
use Rattle.cabinet_archives.specs.Sound.{HasHeight}
use Rattle.cabinet_archives.proofs.Tags.{tag_is}
use Rattle.cabinet_archives.proofs.Walked.{Boxed, payload_in}
use Rattle.cabinet_archives.proofs.Heights.{height_as, refuses_as, heights_as, kept_height, max_is}
use Rattle.cabinet_archives.proofs.Auditing.{own_reported, deep_option, deep_list, deep_whole, around_found, boxed_there, behind_tag, value_as, element_there, elements_of, leaf_height, none_height, some_height, some_refused, whole_height, whole_refused, refused_on, found_in, AreHighBefore, node_part, none_before, high_on, refused_at, list_height, list_refused, IsNodeOf, IsLeft, all_there, all_left, own_of_map, leaves_height, descending, left_height}
use Rattle.cabinet_archives.proofs.HashedAuditing.{own_of as own_of_table, unsound, all_nodes, all_left as table_left}
use Rattle.cabinet_archives.proofs.KeptAuditing.{own_of as own_of_index, unsound as unsound_kept, all_nodes as kept_nodes, all_left as kept_left}
use Rattle.cabinet_archives.proofs.MapsAuditing.{first_node, heights_first, node_passed, leaf_passed, node_refused}
use Rattle.cabinet_archives.proofs.Ways.{whole_there}
use Rattle.cabinet_archives.proofs.opening.audit.+audits.Goals as goal
use Rattle.cabinet_archives.proofs.opening.audit.+audits.Goals.{audit_list-then-not-is_leaf+in_ok-audit, audit_list-else-not-is_leaf}

-- ---- nodes

pub audit-returns-in-Bool-clause-height : goal.audit-returns-in-Bool-clause-height
audit-returns-in-Bool-clause-height g t c =
    let is = tag_is c.args.node.bytes.now c.args.node.pos c.requires.has c.in-Bool.ensures.2 in
    let low = c.requires.low in
    (omega (arith, low), leaf_height c.args.node.bytes.now c.args.node.pos (omega (arith, is)))

pub audit-returns-in-Int-clause-height : goal.audit-returns-in-Int-clause-height
audit-returns-in-Int-clause-height g t c =
    let is = tag_is c.args.node.bytes.now c.args.node.pos c.requires.has c.in-Int.ensures.2 in
    let low = c.requires.low in
    (omega (arith, low), leaf_height c.args.node.bytes.now c.args.node.pos (omega (arith, is)))

pub audit-returns-in-Text-clause-height : goal.audit-returns-in-Text-clause-height
audit-returns-in-Text-clause-height g t c =
    let is = tag_is c.args.node.bytes.now c.args.node.pos c.requires.has c.in-Text.ensures.2 in
    let low = c.requires.low in
    (omega (arith, low), leaf_height c.args.node.bytes.now c.args.node.pos (omega (arith, is)))

pub audit-returns-in-Shared-clause-height : goal.audit-returns-in-Shared-clause-height
audit-returns-in-Shared-clause-height g t c =
    let is = tag_is c.args.node.bytes.now c.args.node.pos c.requires.has c.in-Shared.ensures.2 in
    let low = c.requires.low in
    (omega (arith, low), leaf_height c.args.node.bytes.now c.args.node.pos (omega (arith, is)))

pub audit-returns-in-Maybe-clause-height : goal.audit-returns-in-Maybe-clause-height
audit-returns-in-Maybe-clause-height g t c =
    let node = c.args.node in
    let is = c.in-Maybe.ensures in
    found_in node.bytes.now c.args.depth c.audit_option.result (λ depth v walk h. payload_in node.bytes.now h 4 (tag_is node.bytes.now node.pos c.requires.has is.2) (omega arith))
    (refuses_as c.args.depth (option Boxed) c.audit_option.result is.0 is.1 c.audit_option.ensures.height)

pub audit-returns-in-List-clause-height : goal.audit-returns-in-List-clause-height
audit-returns-in-List-clause-height g t c =
    let node = c.args.node in
    let is = c.in-List.ensures in
    found_in node.bytes.now c.args.depth c.audit_list.result (λ depth v walk h. payload_in node.bytes.now h 5 (tag_is node.bytes.now node.pos c.requires.has is.2) (omega arith))
    (refuses_as c.args.depth (vector node_shape) c.audit_list.result is.0 is.1 c.audit_list.ensures.height)

pub audit-returns-in-Ordered-clause-height : goal.audit-returns-in-Ordered-clause-height
audit-returns-in-Ordered-clause-height g t c =
    let node = c.args.node in
    let is = c.in-Ordered.ensures in
    found_in node.bytes.now c.args.depth c.audit_ordered.result (λ depth v walk h. payload_in node.bytes.now h 6 (tag_is node.bytes.now node.pos c.requires.has is.2) (omega arith))
    (refuses_as c.args.depth map_shape c.audit_ordered.result is.0 is.1 c.audit_ordered.ensures.height)

pub audit-returns-in-Hashed-clause-height : goal.audit-returns-in-Hashed-clause-height
audit-returns-in-Hashed-clause-height g t c =
    let node = c.args.node in
    let is = c.in-Hashed.ensures in
    found_in node.bytes.now c.args.depth c.audit_hashed.result (λ depth v walk h. payload_in node.bytes.now h 7 (tag_is node.bytes.now node.pos c.requires.has is.2) (omega arith))
    (refuses_as c.args.depth table_shape c.audit_hashed.result is.0 is.1 c.audit_hashed.ensures.height)

pub audit-returns-in-Kept-clause-height : goal.audit-returns-in-Kept-clause-height
audit-returns-in-Kept-clause-height g t c =
    let node = c.args.node in
    let is = c.in-Kept.ensures in
    found_in node.bytes.now c.args.depth c.audit_kept.result (λ depth v walk h. payload_in node.bytes.now h 8 (tag_is node.bytes.now node.pos c.requires.has is.2) (omega arith))
    (refuses_as c.args.depth index_shape c.audit_kept.result is.0 is.1 c.audit_kept.ensures.height)

pub audit-returns-in-Whole-clause-height : goal.audit-returns-in-Whole-clause-height
audit-returns-in-Whole-clause-height g t c =
    let node = c.args.node in
    let is = c.in-Whole.ensures in
    found_in node.bytes.now c.args.depth c.audit_whole.result (λ depth v walk h. payload_in node.bytes.now h 9 (tag_is node.bytes.now node.pos c.requires.has is.2) (omega arith))
    (refuses_as c.args.depth whole_shape c.audit_whole.result is.0 is.1 c.audit_whole.ensures.height)

-- ---- options

pub audit_option-returns-in_err-inner-clause-height : goal.audit_option-returns-in_err-inner-clause-height
audit_option-returns-in_err-inner-clause-height g t c =
    let p = err_from_is_err_and c.from_residual.result c.from_residual.ensures.1 in
    let says = c.in_err-inner.ensures in
    rw (p.1, p.2) (inr (deep_option c.args.maybe.bytes.now c.args.depth _ says.0 says.1 c.args.maybe.pos))

pub audit_option-returns-in-None-clause-height : goal.audit_option-returns-in-None-clause-height
audit_option-returns-in-None-clause-height g t c =
    let says = c.in_ok-inner.ensures in
    (omega (arith, says.0, says.1), none_height c.args.maybe.bytes.now c.args.maybe.pos c.requires.has c.in-None.ensures)

pub audit_option-get-requires : goal.audit_option-get-requires
audit_option-get-requires g t c = let says = c.in-Some.ensures in boxed_there c.requires.has says.0 says.1 says.2

pub audit_option-audit-requires : goal.audit_option-audit-requires
audit_option-audit-requires g t c κs within =
    let says = c.in-Some.ensures in
    let boxed = boxed_there c.requires.has says.0 says.1 says.2 in
    let inner = c.in_ok-inner.ensures in
    let low = inner.1 in
    let same = c.get.ensures.bytes ∙ says.0 in
    let there = value_as node_shape KnowsNode (sym c.get.ensures.bytes) refl (record { value = boxed.value; held = c.get.ensures.value.value boxed.value boxed.held }) in
    let heights = heights_as c.args.heights.now (sym same) c.requires.kept in
    let less : 2 * (64 - c.in_ok-inner.inner) + 1 < t = omega (arith, inner.0, inner.1) in
    search rules

pub audit_option-returns-in_err-audit-in-Some-clause-height : goal.audit_option-returns-in_err-audit-in-Some-clause-height
audit_option-returns-in_err-audit-in-Some-clause-height g t c =
    let maybe = c.args.maybe in
    let says = c.in-Some.ensures in
    let inner = c.in_ok-inner.ensures in
    let bytes = c.get.ensures.bytes ∙ says.0 in
    let p = err_from_is_err_and c.from_residual-in_err-audit-in-Some.result c.from_residual-in_err-audit-in-Some.ensures.1 in
    let points = subst (λ (b : Bor (List ℕ)). PointsTo b.now c.in-Some.boxed.pos c.get.result.pos) says.0 c.get.ensures.value.points in
    rw (p.1, p.2)
    (refused_on c.in_err-audit-in-Some.field-0.0
    (some_refused maybe.bytes.now maybe.pos c.requires.has c.get.result.pos says.2 (subst (λ n. PointsTo maybe.bytes.now n c.get.result.pos) (says.1 ∙ behind_tag maybe.pos) points) c.in_err-audit-in-Some.field-0.0 c.args.depth c.in_ok-inner.inner inner.0 inner.1)
    (refuses_as c.in_ok-inner.inner node_shape (Err c.in_err-audit-in-Some.field-0.0) bytes refl c.in_err-audit-in-Some.ensures.height))

pub audit_option-returns-in_ok-audit-in-Some-clause-height : goal.audit_option-returns-in_ok-audit-in-Some-clause-height
audit_option-returns-in_ok-audit-in-Some-clause-height g t c =
    let maybe = c.args.maybe in
    let says = c.in-Some.ensures in
    let inner = c.in_ok-inner.ensures in
    let bytes = c.get.ensures.bytes ∙ says.0 in
    let found = c.in_ok-audit-in-Some.ensures.height in
    let points = subst (λ (b : Bor (List ℕ)). PointsTo b.now c.in-Some.boxed.pos c.get.result.pos) says.0 c.get.ensures.value.points in (
      omega (arith, inner.0, found.0),
      some_height maybe.bytes.now maybe.pos c.requires.has c.get.result.pos says.2 (subst (λ n. PointsTo maybe.bytes.now n c.get.result.pos) (says.1 ∙ behind_tag maybe.pos) points) _
          (height_as node_shape _ bytes refl found.1),
    )

-- ---- lists

pub audit_list-returns-in_err-inner-clause-height : goal.audit_list-returns-in_err-inner-clause-height
audit_list-returns-in_err-inner-clause-height g t c =
    let p = err_from_is_err_and c.from_residual.result c.from_residual.ensures.1 in
    let says = c.in_err-inner.ensures in
    rw (p.1, p.2) (inr (deep_list c.args.list.bytes.now c.args.depth _ says.0 says.1 c.args.list.pos))

pub audit_list-loop-index-init : goal.audit_list-loop-index-init
audit_list-loop-index-init g t c =
    let low = c.in_ok-inner.ensures.1 in
    record { high = none_before c.as_slice-nodes.result.bytes.now c.as_slice-nodes.result.pos c.as_slice-nodes.result.len; low = omega (arith, low); kept = c.requires.kept }

pub audit_list-is_leaf-requires : goal.audit_list-is_leaf-requires
audit_list-is_leaf-requires g t c =
    let list = c.args.list in
    let nodes = c.as_slice-nodes.result in
    let at = some_says _ _ c.get.result c.unwrap-node.result c.get.ensures c.unwrap-node.ensures in
    value_as node_shape KnowsNode (sym (at.1 ∙ c.as_slice-nodes.ensures.bytes)) (sym at.2)
    (element_there list.bytes.now nodes.pos nodes.len (elements_of list.bytes.now list.pos nodes.pos nodes.len c.requires.has c.as_slice-nodes.ensures.elements) c.loop-index.index at.0)

pub audit_list-audit-requires : goal.audit_list-audit-requires
audit_list-audit-requires g t c κs within =
    let list = c.args.list in
    let nodes = c.as_slice-nodes.result in
    let inner = c.in_ok-inner.ensures in
    let low = inner.1 in
    let at = some_says _ _ c.get.result c.unwrap-node.result c.get.ensures c.unwrap-node.ensures in
    let same = at.1 ∙ c.as_slice-nodes.ensures.bytes in
    let there = value_as node_shape KnowsNode (sym same) (sym at.2)
    (element_there list.bytes.now nodes.pos nodes.len (elements_of list.bytes.now list.pos nodes.pos nodes.len c.requires.has c.as_slice-nodes.ensures.elements) c.loop-index.index at.0) in
    let heights = heights_as c.loop-index.heights (sym same) c.loop-index.invariant.kept in
    let less : 2 * (64 - c.in_ok-inner.inner) + 1 < t = omega (arith, inner.0, inner.1) in
    search rules

pub audit_list-returns-in_err-audit-clause-height : goal.audit_list-returns-in_err-audit-clause-height
audit_list-returns-in_err-audit-clause-height g t c =
    let list = c.args.list in
    let nodes = c.as_slice-nodes.result in
    let inner = c.in_ok-inner.ensures in
    let at = some_says _ _ c.get.result c.unwrap-node.result c.get.ensures c.unwrap-node.ensures in
    let p = err_from_is_err_and c.from_residual-in_err-audit.result c.from_residual-in_err-audit.ensures.1 in
    let told = refuses_as c.in_ok-inner.inner node_shape (Err c.in_err-audit.field-0.0) (at.1 ∙ c.as_slice-nodes.ensures.bytes) at.2 c.in_err-audit.ensures.height in
    let before = subst (λ (b : Bor (List ℕ)). AreHighBefore b.now nodes.pos nodes.len c.loop-index.height c.loop-index.index) c.as_slice-nodes.ensures.bytes c.loop-index.invariant.high in
    rw (p.1, p.2)
    (refused_on c.in_err-audit.field-0.0
    (λ r. list_refused list.bytes.now list.pos nodes.pos nodes.len c.requires.has c.as_slice-nodes.ensures.elements c.in_err-audit.field-0.0 c.args.depth c.in_ok-inner.inner inner.0 inner.1
    (refused_at list.bytes.now nodes.pos nodes.len c.loop-index.height c.loop-index.index at.0 before c.in_ok-inner.inner c.loop-index.invariant.low c.in_err-audit.field-0.0 r))
    told)

pub audit_list-loop-index-preserved : goal.audit_list-loop-index-preserved
audit_list-loop-index-preserved g t c =
    let nodes = c.as_slice-nodes.result in
    let height = c.loop-index.height in
    let inner = c.in_ok-inner.inner in
    let low = c.loop-index.invariant.low in
    let at = some_says _ _ c.get.result c.unwrap-node.result c.get.ensures c.unwrap-node.ensures in
    let on : (other : ℕ) → HasHeight nodes.bytes.now (node_part nodes.bytes.now nodes.pos nodes.len c.loop-index.index) other → AreHighBefore nodes.bytes.now nodes.pos nodes.len (max height other) (c.loop-index.index + 1) =
    λ other is. high_on nodes.bytes.now nodes.pos nodes.len height c.loop-index.index at.0 c.loop-index.invariant.high other (c.loop-index.index + 1) refl is in
    elim c.if-not-is_leaf.branch [
      | audit_list-then-not-is_leaf+in_ok-audit w ↦
          let found = w.in_ok-audit.ensures in
          let fits = found.height.0 in
          let greater = w.height-is ∙ max_is height w.in_ok-audit.field-0 w.max-height.result w.max-height.ensures in
          record {
            high = rw greater (on w.in_ok-audit.field-0 (height_as node_shape w.in_ok-audit.field-0 at.1 at.2 found.height.1));
            low = omega (arith, greater, low, fits);
            kept = rw w.heights-is (heights_as w.audit.new.heights (at.1 ∙ c.as_slice-nodes.ensures.bytes) found.keeps);
          }
      | audit_list-else-not-is_leaf w ↦
          let leaf = leaf_height c.unwrap-node.result.bytes.now c.unwrap-node.result.pos (c.is_leaf.ensures.0 w.if-not-is_leaf.false) in
          let same : max height 0 ≡ c.if-not-is_leaf.height = omega (arith, w.height-is) in
          record {
            high = rw (sym same) (on 0 (height_as node_shape 0 at.1 at.2 leaf));
            low = omega (arith, same, low);
            kept = rw w.heights-is c.loop-index.invariant.kept;
          }
    ]

pub audit_list-returns-clause-height : goal.audit_list-returns-clause-height
audit_list-returns-clause-height g t c =
    let list = c.args.list in
    let nodes = c.as_slice-nodes.result in
    let inner = c.in_ok-inner.ensures in
    let low = c.loop-index.invariant.low in
    let before = subst (λ (b : Bor (List ℕ)). AreHighBefore b.now nodes.pos nodes.len c.loop-index.height c.loop-index.index) c.as_slice-nodes.ensures.bytes c.loop-index.invariant.high in (
      omega (arith, inner.0, low),
      list_height list.bytes.now list.pos nodes.pos nodes.len c.requires.has c.as_slice-nodes.ensures.elements c.loop-index.height c.loop-index.index
          (omega (arith, c.loop-index-test.false, c.len-index-end.ensures, c.loop-index.auto.index-end)) before,
    )

-- ---- ordered maps

pub audit_ordered-returns-in_err-inner-clause-height : goal.audit_ordered-returns-in_err-inner-clause-height
audit_ordered-returns-in_err-inner-clause-height g t c =
    let p = err_from_is_err_and c.from_residual.result c.from_residual.ensures.1 in
    let says = c.in_err-inner.ensures in
    rw (p.1, p.2) (inr (λ v walk w. own_reported c.args.map.bytes.now c.args.depth _ walk says.0 says.1 (own_of_map c.args.map.bytes c.args.map.pos c.requires.has c.args.depth v walk w)))

pub audit_ordered-returns-in-NotAscending-clause-height : goal.audit_ordered-returns-in-NotAscending-clause-height
audit_ordered-returns-in-NotAscending-clause-height g t c =
    let says = c.in_ok-inner.ensures in
    inr (descending c.args.map.bytes c.args.map.pos c.requires.has c.args.depth c.in_ok-inner.inner says.0 says.1 c.in-NotAscending.ensures)

pub audit_ordered-returns-in-Leaves-clause-height : goal.audit_ordered-returns-in-Leaves-clause-height
audit_ordered-returns-in-Leaves-clause-height g t c =
    let says = c.in_ok-inner.ensures in
    (omega (arith, says.0, says.1), leaves_height c.args.map.bytes c.args.map.pos c.requires.has c.in-Leaves.ensures)

pub audit_ordered-loop-node-init : goal.audit_ordered-loop-node-init
audit_ordered-loop-node-init g t c =
    let says = c.in_ok-inner.ensures in
    let map = c.args.map in
    let gives = c.into_iter-node-iterator.ensures.into_iter_gives in
    let low = says.1 in
    record {
      there = subst (All (IsNodeOf map.bytes)) (sym gives) (all_there map.bytes map.pos c.requires.has _ c.values-node-items.ensures);
      left_of =
          subst (IsLeft map.bytes (at map.pos map_shape) 0) (sym gives)
          (all_left map.bytes map.pos c.requires.has _ (λ depth v walk w. (c.in-Containers.ensures depth v walk w).0) c.values-node-items.ensures);
      low = omega (arith, low);
      kept = c.requires.kept;
    }

pub audit_ordered-is_leaf-requires : goal.audit_ordered-is_leaf-requires
audit_ordered-is_leaf-requires g t c = (first_node c.in-Some.ensures.steps c.loop-node.invariant).1

pub audit_ordered-audit-requires : goal.audit_ordered-audit-requires
audit_ordered-audit-requires g t c κs within =
    let inner = c.in_ok-inner.ensures in
    let low = inner.1 in
    let there = (first_node c.in-Some.ensures.steps c.loop-node.invariant).1 in
    let heights = heights_first c.in-Some.ensures.steps c.loop-node.invariant in
    let less : 2 * (64 - c.in_ok-inner.inner) + 1 < t = omega (arith, inner.0, inner.1) in
    search rules

pub audit_ordered-returns-in_err-audit-clause-height : goal.audit_ordered-returns-in_err-audit-clause-height
audit_ordered-returns-in_err-audit-clause-height g t c =
    let p = err_from_is_err_and c.from_residual-in_err-audit.result c.from_residual-in_err-audit.ensures.1 in
    rw (p.1, p.2) (node_refused c.in-Some.ensures.steps c.loop-node.invariant c.args.depth c.in_err-audit.field-0.0 c.in_ok-inner.ensures.0 c.in_err-audit.ensures.height)

pub audit_ordered-loop-node-preserved-then-not-is_leaf : goal.audit_ordered-loop-node-preserved-then-not-is_leaf
audit_ordered-loop-node-preserved-then-not-is_leaf g t c =
    let found = c.in_ok-audit.ensures in
    node_passed c.in-Some.ensures.steps c.loop-node.invariant c.in_ok-audit.field-0 c.max-height.result c.audit.new.heights c.max-height.ensures found.height.0 found.height.1 found.keeps

pub audit_ordered-loop-node-preserved : goal.audit_ordered-loop-node-preserved
audit_ordered-loop-node-preserved g t c = leaf_passed c.in-Some.ensures.steps c.loop-node.invariant (c.is_leaf.ensures.0 c.if-not-is_leaf.false)

pub audit_ordered-returns-clause-height : goal.audit_ordered-returns-clause-height
audit_ordered-returns-clause-height g t c =
    let inner = c.in_ok-inner.ensures in
    let low = c.loop-node.invariant.low in (
      omega (arith, inner.0, low),
      left_height c.args.map.bytes (at c.args.map.pos map_shape) c.loop-node.height c.in-None.ensures.steps.0 c.loop-node.invariant.left_of (own_of_map c.args.map.bytes c.args.map.pos c.requires.has),
    )

-- ---- hashed maps

pub audit_hashed-returns-in_err-inner-clause-height : goal.audit_hashed-returns-in_err-inner-clause-height
audit_hashed-returns-in_err-inner-clause-height g t c =
    let p = err_from_is_err_and c.from_residual.result c.from_residual.ensures.1 in
    let says = c.in_err-inner.ensures in
    rw (p.1, p.2) (inr (λ v walk w. own_reported c.args.map.bytes.now c.args.depth _ walk says.0 says.1 (own_of_table c.args.map.bytes c.args.map.pos c.requires.has c.args.depth v walk w)))

pub audit_hashed-returns-in_err-hashed_sound-clause-height : goal.audit_hashed-returns-in_err-hashed_sound-clause-height
audit_hashed-returns-in_err-hashed_sound-clause-height g t c =
    let p = err_from_is_err_and c.from_residual-in_err-hashed_sound.result c.from_residual-in_err-hashed_sound.ensures.1 in
    let says = c.in_ok-inner.ensures in
    rw (p.1, p.2) (inr (unsound c.args.map.bytes c.args.map.pos c.requires.has c.args.depth c.in_ok-inner.inner says.0 says.1 c.in_err-hashed_sound.field-0.0 c.in_err-hashed_sound.ensures))

pub audit_hashed-loop-node-init : goal.audit_hashed-loop-node-init
audit_hashed-loop-node-init g t c =
    let says = c.in_ok-inner.ensures in
    let map = c.args.map in
    let gives = c.into_iter-node-iterator.ensures.into_iter_gives in
    let low = says.1 in
    record {
      there = subst (All (IsNodeOf map.bytes)) (sym gives) (all_nodes map.bytes map.pos c.requires.has _ c.values-node-items.ensures.values);
      left_of =
          subst (IsLeft map.bytes (at map.pos table_shape) 0) (sym gives)
          (table_left map.bytes map.pos c.requires.has _ c.in_ok-hashed_sound.ensures c.values-node-items.ensures.values);
      low = omega (arith, low);
      kept = c.requires.kept;
    }

pub audit_hashed-is_leaf-requires : goal.audit_hashed-is_leaf-requires
audit_hashed-is_leaf-requires g t c = (first_node c.in-Some.ensures.steps c.loop-node.invariant).1

pub audit_hashed-audit-requires : goal.audit_hashed-audit-requires
audit_hashed-audit-requires g t c κs within =
    let inner = c.in_ok-inner.ensures in
    let low = inner.1 in
    let there = (first_node c.in-Some.ensures.steps c.loop-node.invariant).1 in
    let heights = heights_first c.in-Some.ensures.steps c.loop-node.invariant in
    let less : 2 * (64 - c.in_ok-inner.inner) + 1 < t = omega (arith, inner.0, inner.1) in
    search rules

pub audit_hashed-returns-in_err-audit-clause-height : goal.audit_hashed-returns-in_err-audit-clause-height
audit_hashed-returns-in_err-audit-clause-height g t c =
    let p = err_from_is_err_and c.from_residual-in_err-audit.result c.from_residual-in_err-audit.ensures.1 in
    rw (p.1, p.2) (node_refused c.in-Some.ensures.steps c.loop-node.invariant c.args.depth c.in_err-audit.field-0.0 c.in_ok-inner.ensures.0 c.in_err-audit.ensures.height)

pub audit_hashed-loop-node-preserved-then-not-is_leaf : goal.audit_hashed-loop-node-preserved-then-not-is_leaf
audit_hashed-loop-node-preserved-then-not-is_leaf g t c =
    let found = c.in_ok-audit.ensures in
    node_passed c.in-Some.ensures.steps c.loop-node.invariant c.in_ok-audit.field-0 c.max-height.result c.audit.new.heights c.max-height.ensures found.height.0 found.height.1 found.keeps

pub audit_hashed-loop-node-preserved : goal.audit_hashed-loop-node-preserved
audit_hashed-loop-node-preserved g t c = leaf_passed c.in-Some.ensures.steps c.loop-node.invariant (c.is_leaf.ensures.0 c.if-not-is_leaf.false)

pub audit_hashed-returns-clause-height : goal.audit_hashed-returns-clause-height
audit_hashed-returns-clause-height g t c =
    let inner = c.in_ok-inner.ensures in
    let low = c.loop-node.invariant.low in (
      omega (arith, inner.0, low),
      left_height c.args.map.bytes (at c.args.map.pos table_shape) c.loop-node.height c.in-None.ensures.steps.0 c.loop-node.invariant.left_of (own_of_table c.args.map.bytes c.args.map.pos c.requires.has),
    )

-- ---- kept maps

pub audit_kept-returns-in_err-inner-clause-height : goal.audit_kept-returns-in_err-inner-clause-height
audit_kept-returns-in_err-inner-clause-height g t c =
    let p = err_from_is_err_and c.from_residual.result c.from_residual.ensures.1 in
    let says = c.in_err-inner.ensures in
    rw (p.1, p.2) (inr (λ v walk w. own_reported c.args.map.bytes.now c.args.depth _ walk says.0 says.1 (own_of_index c.args.map.bytes c.args.map.pos c.requires.has c.args.depth v walk w)))

pub audit_kept-returns-in_err-kept_sound-clause-height : goal.audit_kept-returns-in_err-kept_sound-clause-height
audit_kept-returns-in_err-kept_sound-clause-height g t c =
    let p = err_from_is_err_and c.from_residual-in_err-kept_sound.result c.from_residual-in_err-kept_sound.ensures.1 in
    let says = c.in_ok-inner.ensures in
    rw (p.1, p.2) (inr (unsound_kept c.args.map.bytes c.args.map.pos c.requires.has c.args.depth c.in_ok-inner.inner says.0 says.1 c.in_err-kept_sound.field-0.0 c.in_err-kept_sound.ensures))

pub audit_kept-loop-node-init : goal.audit_kept-loop-node-init
audit_kept-loop-node-init g t c =
    let says = c.in_ok-inner.ensures in
    let map = c.args.map in
    let gives = c.into_iter-node-iterator.ensures.into_iter_gives in
    let low = says.1 in
    record {
      there = subst (All (IsNodeOf map.bytes)) (sym gives) (kept_nodes map.bytes map.pos c.requires.has _ c.values-node-items.ensures.values);
      left_of =
          subst (IsLeft map.bytes (at map.pos index_shape) 0) (sym gives)
          (kept_left map.bytes map.pos c.requires.has _ c.in_ok-kept_sound.ensures c.values-node-items.ensures.values);
      low = omega (arith, low);
      kept = c.requires.kept;
    }

pub audit_kept-is_leaf-requires : goal.audit_kept-is_leaf-requires
audit_kept-is_leaf-requires g t c = (first_node c.in-Some.ensures.steps c.loop-node.invariant).1

pub audit_kept-audit-requires : goal.audit_kept-audit-requires
audit_kept-audit-requires g t c κs within =
    let inner = c.in_ok-inner.ensures in
    let low = inner.1 in
    let there = (first_node c.in-Some.ensures.steps c.loop-node.invariant).1 in
    let heights = heights_first c.in-Some.ensures.steps c.loop-node.invariant in
    let less : 2 * (64 - c.in_ok-inner.inner) + 1 < t = omega (arith, inner.0, inner.1) in
    search rules

pub audit_kept-returns-in_err-audit-clause-height : goal.audit_kept-returns-in_err-audit-clause-height
audit_kept-returns-in_err-audit-clause-height g t c =
    let p = err_from_is_err_and c.from_residual-in_err-audit.result c.from_residual-in_err-audit.ensures.1 in
    rw (p.1, p.2) (node_refused c.in-Some.ensures.steps c.loop-node.invariant c.args.depth c.in_err-audit.field-0.0 c.in_ok-inner.ensures.0 c.in_err-audit.ensures.height)

pub audit_kept-loop-node-preserved-then-not-is_leaf : goal.audit_kept-loop-node-preserved-then-not-is_leaf
audit_kept-loop-node-preserved-then-not-is_leaf g t c =
    let found = c.in_ok-audit.ensures in
    node_passed c.in-Some.ensures.steps c.loop-node.invariant c.in_ok-audit.field-0 c.max-height.result c.audit.new.heights c.max-height.ensures found.height.0 found.height.1 found.keeps

pub audit_kept-loop-node-preserved : goal.audit_kept-loop-node-preserved
audit_kept-loop-node-preserved g t c = leaf_passed c.in-Some.ensures.steps c.loop-node.invariant (c.is_leaf.ensures.0 c.if-not-is_leaf.false)

pub audit_kept-returns-clause-height : goal.audit_kept-returns-clause-height
audit_kept-returns-clause-height g t c =
    let inner = c.in_ok-inner.ensures in
    let low = c.loop-node.invariant.low in (
      omega (arith, inner.0, low),
      left_height c.args.map.bytes (at c.args.map.pos index_shape) c.loop-node.height c.in-None.ensures.steps.0 c.loop-node.invariant.left_of (own_of_index c.args.map.bytes c.args.map.pos c.requires.has),
    )

-- ---- wholes

pub audit_whole-returns-in-Some-clause-height : goal.audit_whole-returns-in-Some-clause-height
audit_whole-returns-in-Some-clause-height g t c =
    let whole = c.args.whole in
    let node = c.get-node.result in
    let value = c.in-Some.ensures.value in
    let kept = kept_height whole.bytes.now c.args.heights.now c.requires.kept node.pos c.in-Some.height.now (rw (sym c.pos.ensures) (sym value)) in
    around_found whole.bytes.now whole.pos node.pos c.get-node.ensures.value.points c.height_around.result c.in-Some.height.now c.args.depth c.requires.low kept.1 c.height_around.ensures

pub audit_whole-returns-in_err-inner-clause-height : goal.audit_whole-returns-in_err-inner-clause-height
audit_whole-returns-in_err-inner-clause-height g t c =
    let p = err_from_is_err_and c.from_residual.result c.from_residual.ensures.1 in
    let says = c.in_err-inner.ensures in
    rw (p.1, p.2) (inr (deep_whole c.args.whole.bytes.now c.args.depth _ says.0 says.1 c.args.whole.pos))

pub audit_whole-audit-requires : goal.audit_whole-audit-requires
audit_whole-audit-requires g t c κs within =
    let inner = c.in_ok-inner.ensures in
    let low = inner.1 in
    let there = whole_there c.requires.has c.get-node.ensures.bytes c.get-node.ensures.value in
    let heights = heights_as c.args.heights.now (sym c.get-node.ensures.bytes) c.requires.kept in
    let less : 2 * (64 - c.in_ok-inner.inner) + 1 < t = omega (arith, inner.0, inner.1) in
    search rules

pub audit_whole-returns-in_err-height-clause-height : goal.audit_whole-returns-in_err-height-clause-height
audit_whole-returns-in_err-height-clause-height g t c =
    let whole = c.args.whole in
    let inner = c.in_ok-inner.ensures in
    let p = err_from_is_err_and c.from_residual-in_err-height.result c.from_residual-in_err-height.ensures.1 in
    rw (p.1, p.2)
    (refused_on c.in_err-height.field-0.0
    (whole_refused whole.bytes.now whole.pos c.get-node.result.pos c.get-node.ensures.value.points c.in_err-height.field-0.0 c.args.depth c.in_ok-inner.inner inner.0 inner.1)
    (refuses_as c.in_ok-inner.inner node_shape (Err c.in_err-height.field-0.0) c.get-node.ensures.bytes refl c.in_err-height.ensures.height))

pub audit_whole-returns-in-Ok-clause-height : goal.audit_whole-returns-in-Ok-clause-height
audit_whole-returns-in-Ok-clause-height g t c =
    let whole = c.args.whole in
    let inner = c.in_ok-inner.ensures in
    let found = c.in_ok-height.ensures.height in
    let fits = found.0 in (
      omega (arith, inner.0, fits),
      whole_height whole.bytes.now whole.pos c.get-node.result.pos c.get-node.ensures.value.points c.in_ok-height.height
          (height_as node_shape c.in_ok-height.height c.get-node.ensures.bytes refl found.1),
    )
