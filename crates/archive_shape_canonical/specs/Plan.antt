-- The plan of a value: what its own bytes lead to, without positions, regardless of the widths of fields.
use Rattle.std.specs.Prelude.{◌≡◌, ℕ, ◌+◌, ◌*◌, ◌<◌, ◌≤◌, Bool, max, List, [], ◌∷◌, ◌++◌, length, take, Some}
use Rattle.std.specs.Int.{Width}
use Rattle.archive_shape_layout.specs.Bytes.{align_up}
use Rattle.archive_shape_layout.specs.Shape.{Shape, Shapes, Pointee, Alignment, align_of, size_of}
use Rattle.archive_shape_layout.specs.Shape.Shape.{number, nonzero, truth, character, text, tuple, array, option, result, choice, box, vector, shared, weak, tree, table, index_map, named}
use Rattle.archive_shape_layout.specs.Shape.Shapes.{no_shapes, more_shapes}
use Rattle.archive_shape_layout.specs.Shape.Pointee.{sized, slice, str}
use Rattle.archive_shape_layout.specs.Value.{Value, Values, count_values}
use Rattle.archive_shape_layout.specs.Value.Value.{string, group, chosen, counted}
use Rattle.archive_shape_layout.specs.Value.Values.{no_values, more_values}
use Rattle.archive_shape_layout.specs.Content.{Names, Part, shape_named, shape_tagged, fields, elements, entries, children, tagged_items, weave, first_values, other_values, keys_offset, values_offset, links_offset, node_span, control_count}
use Rattle.archive_shape_layout.specs.Content.Part.{at, entry, child}
use Rattle.archive_shape_layout.specs.Content.Item.{item}
use Rattle.archive_shape_canonical.specs.Packed.{IsPacked}
use Rattle.archive_shape_canonical.specs.Seen.{keys_alone}
use Rattle.archive_shape_canonical.specs.Settled.{Fit}
use Rattle.archive_shape_canonical.specs.Sharing.{erased, all_erased}

-- a region that a pointer leads to: its size and alignment, and the number of bytes from its start to the pointer's
-- target
pub record Target : Type 0 where
  pub size : ℕ
  pub align : ℕ
  pub lead : ℕ

mutual
  pub data Plan : Type 0 where
    -- it leads to nothing
    flat : Plan
    -- what its parts lead to, in order
    parts : Plans → Plan
    -- a pointer, with the lengths that are stored beside it, and what is led to from its target
    leads : List ℕ → Target → Plan → Plan
    -- a text of n bytes out of line
    leads_to_text : ℕ → Plan
    -- a counted pointer to a value, which is written once for each pointee and value
    counts : Pointee → Value → List ℕ → Target → Plan → Plan

  -- the offset of each part, and its plan
  pub data Plans : Type 0 where
    no_plans : Plans
    more_plans : ℕ → Plan → Plans → Plans

-- of what one value, or n elements, take
abbrev pub whole_target : (size align : ℕ) → Target
whole_target size align = record { size = size; align = align; lead = 0 }

-- a shape whose own bytes lead to nothing
pub data IsFlat : Shape → Type 0 where
  number_is_flat : {w : Width} {signed : Bool} → IsFlat (number w signed)
  nonzero_is_flat : {w : Width} {signed : Bool} → IsFlat (nonzero w signed)
  truth_is_flat : IsFlat truth
  character_is_flat : IsFlat character

mutual
  -- a value of a shape has a plan
  pub data HasPlan (fit : Fit) (names : Names) : Shape → Value → Plan → Type 0 where
    plan_flat : {s : Shape} {v : Value} → IsFlat s → HasPlan fit names s v flat
    plan_inline : {bs : List ℕ} → length bs ≤ 8 → HasPlan fit names text (string bs) flat
    plan_text : {bs : List ℕ} {n : ℕ} → 8 < n → n ≡ length bs → HasPlan fit names text (string bs) (leads_to_text n)
    plan_tuple : {ss : Shapes} {vs : Values} {ps : Plans} → HavePlans fit names (fields 0 0 ss) vs ps → HasPlan fit names (tuple ss) (group vs) (parts ps)
    plan_array : {n : ℕ} {s : Shape} {vs : Values} {ps : Plans} → HavePlans fit names (elements 0 n s) vs ps → HasPlan fit names (array n s) (group vs) (parts ps)
    plan_none : {s : Shape} → HasPlan fit names (option s) (chosen 0 no_values) flat
    plan_some :
        {s : Shape} {vs : Values} {ps : Plans} → HavePlans fit names (at (align_up 1 (align_of s)) s ∷ []) vs ps → HasPlan fit names (option s) (chosen 1 vs) (parts ps)
    plan_ok :
        {s t : Shape} {vs : Values} {ps : Plans} → HavePlans fit names (at (align_up 1 (max (align_of s) (align_of t))) s ∷ []) vs ps
        → HasPlan fit names (result s t) (chosen 0 vs) (parts ps)
    plan_err :
        {s t : Shape} {vs : Values} {ps : Plans} → HavePlans fit names (at (align_up 1 (max (align_of s) (align_of t))) t ∷ []) vs ps
        → HasPlan fit names (result s t) (chosen 1 vs) (parts ps)
    plan_choice :
        {ss : Shapes} {tag : ℕ} {s : Shape} {vs : Values} {ps : Plans} → shape_tagged tag ss ≡ Some s → HavePlans fit names (at (align_up 1 (align_of s)) s ∷ []) vs ps
        → HasPlan fit names (choice ss) (chosen tag vs) (parts ps)
    plan_box : {q : Pointee} {v : Value} {numbers : List ℕ} {t : Target} {p : Plan} → PointeePlan fit names q v numbers t p → HasPlan fit names (box q) v (leads numbers t p)
    plan_vector : {s : Shape} {v : Value} {numbers : List ℕ} {t : Target} {p : Plan} → PointeePlan fit names (slice s) v numbers t p → HasPlan fit names (vector s) v (leads numbers t p)
    plan_shared :
        {cyclic : Bool} {q : Pointee} {pos : ℕ} {v u : Value} {numbers : List ℕ} {t : Target} {p : Plan} → PointeePlan fit names q v numbers t p → u ≡ erased v
        → HasPlan fit names (shared cyclic q) (counted pos v) (counts q u numbers t p)
    plan_no_weak : {cyclic : Bool} {q : Pointee} → HasPlan fit names (weak cyclic q) (chosen 0 no_values) flat
    plan_weak :
        {cyclic : Bool} {q : Pointee} {vs : Values} {ps : Plans} → HavePlans fit names (at 4 (shared cyclic q) ∷ []) vs ps
        → HasPlan fit names (weak cyclic q) (chosen 1 vs) (parts ps)
    plan_no_tree : {most : ℕ} {k v : Shape} → HasPlan fit names (tree most k v) (group no_values) flat
    plan_tree :
        {most : ℕ} {k v : Shape} {items : Values} {n : ℕ} {t : Target} {p : Plan} → 1 ≤ n → n ≡ count_values items → NodePlan fit names most k v items t p
        → HasPlan fit names (tree most k v) (group items) (leads (n ∷ []) t p)
    plan_no_table : {s : Shape} → HasPlan fit names (table s) (group no_values) flat
    -- its items are in the places of the fit; its pointer leads to the end of the buckets
    plan_table :
        {s : Shape} {items keys : Values} {n cap : ℕ} {ps : Plans} → 1 ≤ n → n ≡ count_values items → cap ≡ fit.capacity n → keys ≡ all_erased (keys_alone items)
        → HavePlans fit names (tagged_items (cap * size_of s) (item s) 0 (take cap (fit.table_controls keys))) items ps
        → HasPlan fit names (table s) (group items)
        (leads (n ∷ (cap ∷ [])) (record { size = cap * size_of s + control_count cap; align = align_of s; lead = cap * size_of s }) (parts ps))
    plan_no_map : {k v : Shape} → HasPlan fit names (index_map k v) (group no_values) flat
    -- the table of the numbers of its entries, then the entries, whose pointer is at byte 12
    plan_map :
        {k v : Shape} {items : Values} {n cap : ℕ} {numbers : List ℕ} {t : Target} {p : Plan} → 1 ≤ n → n ≡ count_values items → cap ≡ fit.capacity n
        → PointeePlan fit names (slice (tuple (more_shapes k (more_shapes v no_shapes)))) (group items) numbers t p
        → HasPlan fit names (index_map k v) (group items)
        (parts (more_plans 0 (leads (n ∷ (cap ∷ [])) (record { size = cap * 4 + control_count cap; align = 4; lead = cap * 4 }) flat) (more_plans 12 (leads [] t p) no_plans)))
    plan_named :
        {name size : ℕ} {align : Alignment} {s : Shape} {v : Value} {p : Plan} → shape_named names name ≡ Some s → HasPlan fit names s v p
        → HasPlan fit names (named name size align) v p

  -- what a pointer leads to: the lengths beside it, the region, and what its contents lead to
  pub data PointeePlan (fit : Fit) (names : Names) : Pointee → Value → List ℕ → Target → Plan → Type 0 where
    plan_sized : {s : Shape} {v : Value} {p : Plan} → HasPlan fit names s v p → PointeePlan fit names (sized s) v [] (whole_target (size_of s) (align_of s)) p
    plan_slice :
        {s : Shape} {vs : Values} {n : ℕ} {ps : Plans} → n ≡ count_values vs → HavePlans fit names (elements 0 n s) vs ps
        → PointeePlan fit names (slice s) (group vs) (n ∷ []) (whole_target (n * size_of s) (align_of s)) (parts ps)
    plan_str : {bs : List ℕ} {n : ℕ} → n ≡ length bs → PointeePlan fit names str (string bs) (n ∷ []) (whole_target n 1) flat

  -- items lie in a search tree's node, and in those below it
  pub data NodePlan (fit : Fit) (names : Names) : ℕ → Shape → Shape → Values → Target → Plan → Type 0 where
    plan_leaf_node :
        {most : ℕ} {k v : Shape} {items : Values} {ps : Plans} → count_values items ≤ most
        → HavePlans fit names (entries (count_values items) k (keys_offset k) v (values_offset most k v)) items ps
        → NodePlan fit names most k v items (whole_target (node_span 1 most k v 0).size (node_span 1 most k v 0).align) (parts ps)
    -- children, and the entries between them
    plan_inner_node :
        {most : ℕ} {k v : Shape} {items vs : Values} {ps : Plans} → most < count_values items → items ≡ weave (first_values (most + 1) vs) (other_values (most + 1) vs) → IsPacked most 1 vs
        → HavePlans fit names (children (most + 1) 0 most k v (links_offset most k v) ++ entries most k (keys_offset k) v (values_offset most k v)) vs ps
        → NodePlan fit names most k v items (whole_target (node_span (most + 1) most k v 0).size (node_span (most + 1) most k v 0).align) (parts ps)

  -- parts with their values, each at its offset
  pub data HavePlans (fit : Fit) (names : Names) : List Part → Values → Plans → Type 0 where
    plans_none : HavePlans fit names [] no_values no_plans
    plans_at :
        {offset : ℕ} {s : Shape} {parts : List Part} {v : Value} {vs : Values} {p : Plan} {ps : Plans} → HasPlan fit names s v p → HavePlans fit names parts vs ps
        → HavePlans fit names (at offset s ∷ parts) (more_values v vs) (more_plans offset p ps)
    plans_entry :
        {k_offset v_offset : ℕ} {k v : Shape} {parts : List Part} {x y : Value} {vs : Values} {p q : Plan} {ps : Plans} → HasPlan fit names k x p → HasPlan fit names v y q
        → HavePlans fit names parts vs ps
        → HavePlans fit names (entry k k_offset v v_offset ∷ parts) (more_values (group (more_values x (more_values y no_values))) vs) (more_plans k_offset p (more_plans v_offset q ps))
    plans_no_child :
        {offset level most : ℕ} {k v : Shape} {parts : List Part} {vs : Values} {ps : Plans} → HavePlans fit names parts vs ps
        → HavePlans fit names (child level most k v offset ∷ parts) (more_values (group no_values) vs) ps
    plans_child :
        {offset level most : ℕ} {k v : Shape} {parts : List Part} {items vs : Values} {t : Target} {p : Plan} {ps : Plans} → 1 ≤ count_values items
        → NodePlan fit names most k v items t p → HavePlans fit names parts vs ps
        → HavePlans fit names (child level most k v offset ∷ parts) (more_values (group items) vs) (more_plans offset (leads [] t p) ps)
