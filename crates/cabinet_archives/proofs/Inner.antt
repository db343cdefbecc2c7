-- What is held in a node that is held: its payload, and the nodes in an option and in a list.
use Rattle.std.proofs.Common.{◌≡◌, ℕ, ◌+◌, ◌*◌, ◌<◌, ◌≤◌, ◌==◌, Bool, true, false, List, slice_index, Some, refl, sym, ap, subst, ◌∙◌, arith}
use Rattle.std.specs.Prelude.{MatchBool}
use Rattle.archive_shape_layout.specs.Bytes.{window, word_at, align_up}
use Rattle.archive_shape_layout.specs.Shape.{Shape, align_of, size_of}
use Rattle.archive_shape_layout.specs.Shape.Shape.{option, vector}
use Rattle.archive_shape_layout.specs.Value.{Value, Values}
use Rattle.archive_shape_layout.specs.Value.Value.{group, chosen}
use Rattle.archive_shape_layout.specs.Value.Values.{no_values}
use Rattle.archive_shape_layout.specs.Content.{Names, shape_tagged}
use Rattle.archive_shape.specs.Key.{HeldAt}
use Rattle.archive_shape_layout.specs.Path.{value_in}
use Rattle.archive_forms_values.specs.Parts.{IsNoneAt, IsSomeAt, PointsTo}
use Rattle.archive_forms_laws.proofs.Levels.{option_box_sized}
use Rattle.archive_shape_layout.proofs.Paths.{below_count}
use Rattle.archive_forms_values.proofs.Payloads.{option_by_tag}
use Rattle.archive_forms_values.proofs.Pointed.{box_there, vec_there}
use Rattle.cabinet_documents.specs.Node.{node_shape, payloads, KnowsNode}
use Rattle.cabinet_documents.specs.Denotes.{tagged_value}
use Rattle.cabinet_archived.proofs.Nodes.{tagged_at}
use Rattle.cabinet_archives.specs.Keyed.{knows_pairs}
use Rattle.cabinet_archives.specs.Hashed.{table_shape}
use Rattle.cabinet_archives.specs.Kept.{index_shape}
use Rattle.cabinet_archives.specs.Ordered.{map_shape}
use Rattle.cabinet_archives.proofs.Ways.{Boxed}

module _ (bytes : List ℕ) where
  module _ (pos : ℕ) (v : Value) (h : HeldAt node_shape KnowsNode bytes pos v) where
    payload_held : (tag : ℕ) (s : Shape) (knows : Names → Type 0) (w : Value)
        → v ≡ tagged_value tag w
        → slice_index bytes pos ≡ tag
        → shape_tagged tag payloads ≡ Some s
        → 0 < align_of s
        → align_of s + size_of s ≤ 24
        → ((names : Names) → KnowsNode names → knows names)
        → HeldAt s knows bytes (pos + align_of s) w
    payload_held tag s knows w is tag_is has some fits known =
        let p = (tagged_at bytes pos (record { value = v; held = h }) tag s knows (pos + align_of s) refl tag_is has some fits known).payload v h in
        let p_is = p.is in
        let same : p.payload ≡ w = cc in
        subst (HeldAt s knows bytes (pos + align_of s)) same p.held

    -- of the map that a node is
    pub map_held : (w : Value) → v ≡ tagged_value 6 w → slice_index bytes pos ≡ 6 → HeldAt map_shape knows_pairs bytes (pos + 4) w
    map_held w is tag_is = payload_held 6 map_shape knows_pairs w is tag_is refl (omega arith) (omega arith) (λ names known. (tt, known))

    pub table_held : (w : Value) → v ≡ tagged_value 7 w → slice_index bytes pos ≡ 7 → HeldAt table_shape knows_pairs bytes (pos + 4) w
    table_held w is tag_is = payload_held 7 table_shape knows_pairs w is tag_is refl (omega arith) (omega arith) (λ names known. (tt, known))

    pub index_held : (w : Value) → v ≡ tagged_value 8 w → slice_index bytes pos ≡ 8 → HeldAt index_shape knows_pairs bytes (pos + 4) w
    index_held w is tag_is = payload_held 8 index_shape knows_pairs w is tag_is refl (omega arith) (omega arith) (λ names known. (tt, known))

    -- the box in an option that is some
    some_held : (w : Value) → HeldAt (option Boxed) KnowsNode bytes (pos + 4) (tagged_value 1 w) → HeldAt Boxed KnowsNode bytes (pos + 8) w
    unfolding align_up
    some_held w o = by (slice_index bytes (pos + 4) == 0) (option_by_tag Boxed KnowsNode bytes (pos + 4) 4 refl (omega arith))
      where
        by : (b : Bool) → MatchBool b (IsNoneAt Boxed KnowsNode bytes (pos + 4)) (IsSomeAt Boxed KnowsNode bytes (pos + 4)) → HeldAt Boxed KnowsNode bytes (pos + 8) w
        by true none = let both : tagged_value 1 w ≡ chosen 0 no_values = none (tagged_value 1 w) o in absurd (cc)
        by false some =
            let p = some (tagged_value 1 w) o in
            let p_is = p.is in
            let same : p.payload ≡ w = cc in
            let eight : pos + 4 + 4 ≡ pos + 8 = omega arith in
            subst (HeldAt Boxed KnowsNode bytes (pos + 8)) same (subst (λ n. HeldAt Boxed KnowsNode bytes n p.payload) eight p.held)

    pub inside_held : (w : Value) (to : ℕ) → v ≡ tagged_value 4 (tagged_value 1 w) → slice_index bytes pos ≡ 4 → PointsTo bytes (pos + 8) to → HeldAt node_shape KnowsNode bytes to w
    inside_held w to is tag_is points =
        let o = payload_held 4 (option Boxed) KnowsNode (tagged_value 1 w) is tag_is refl (omega arith) (omega (arith, option_box_sized node_shape)) (λ names known. known) in
        (box_there node_shape KnowsNode bytes (pos + 8) to points).value w (some_held w o)

    -- an element
    pub element_held : (vs : Values) (i first : ℕ) (u : Value) → v ≡ tagged_value 5 (group vs) → slice_index bytes pos ≡ 5 → PointsTo bytes (pos + 4) first → value_in i vs ≡ Some u
        → HeldAt node_shape KnowsNode bytes (first + i * 24) u
    element_held vs i first u is tag_is points there =
        let o = payload_held 5 (vector node_shape) KnowsNode (group vs) is tag_is refl (omega arith) (omega arith) (λ names known. known) in
        let all = (vec_there node_shape KnowsNode bytes (pos + 4) first (word_at (window bytes (pos + 4) 8) 4) points refl).value (group vs) o in
        let all_is = all.is in
        let values : vs ≡ all.elements = cc in
        let has : value_in i all.elements ≡ Some u = ap (value_in i) (sym values) ∙ there in
        let count = all.count in
        let less = below_count i all.elements u has in
        let x = all.each i (omega (arith, count, less)) in
        let x_is = x.1 in
        let same : x.0 ≡ u = cc in
        subst (HeldAt node_shape KnowsNode bytes (first + i * 24)) same x.2
