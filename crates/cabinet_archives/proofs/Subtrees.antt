-- The nodes of a search tree in a map of nodes: their entries, and the pointers to their children.
use Rattle.std.proofs.Common.{◌≡◌, ◌∙◌, ℕ, zero, suc, ◌+◌, ◌*◌, ◌≤◌, Bor, List, [], ◌∷◌, ◌++◌, map, sym, ap, subst, arith}
use Rattle.std.specs.Prelude.{⊤, All, length, slice_index}
use Rattle.std.proofs.lemmas.List.Elements.{All-head, All-tail}
use Rattle.archive_shape_layout.specs.Bytes.{word_at, align_up}
use Rattle.archive_shape_layout.specs.Shape.Shape.{text}
use Rattle.archive_shape_layout.specs.Content.{keys_offset, values_offset, node_size, links_offset, link_node_align, link_node_size}
use Rattle.archive_forms_values.specs.Parts.{PointsTo}
use Rattle.archive_btree_layout.specs.Reading.{Place, places, HasNode, HasBranches, HasChild}
use Rattle.archive_btree_layout.specs.Reading.HasNode.{has_leaf, has_inner}
use Rattle.archive_btree_layout.specs.Reading.HasBranches.{has_greater, has_lesser}
use Rattle.archive_btree_layout.specs.Reading.HasChild.{no_child, a_child}
use Rattle.archive_btree_layout.specs.Tree.{Tree, Branches, items, items_of}
use Rattle.archive_btree_maps.specs.Layout.{IsLayout}
use Rattle.archive_btree_maps.specs.Maps.{IsMapAt, IsMapOf}
use Rattle.archive_btree_maps.specs.Maps.IsMapAt.{has_none, has_root}
use Rattle.archive_btree_maps.specs.declared.nodes.layout.NodeLayout.{NodeLayout}
use Rattle.archive_btree_maps.proofs.One.{one_map}
use Rattle.archive_btree_maps.proofs.Roots.{tree_of_value}
use Rattle.cabinet_documents.specs.Denotes.{tagged_value}
use Rattle.cabinet_documents.specs.Node.{node_shape, KnowsNode}
use Rattle.cabinet_archives.specs.Keyed.{knows_pairs}
use Rattle.cabinet_archives.specs.Loading.{HasTree, IsEntry}
use Rattle.cabinet_archives.specs.Mapped.{AreEntries, HasEntries, HasSubtree, HasLink}
use Rattle.cabinet_archives.specs.Ordered.{map_shape}
use Rattle.cabinet_archives.proofs.LoadedEntries.{positions, position_of, positions_are}
use Rattle.cabinet_archives.proofs.LoadedMaps.{entries_at, ordered_are}

module _ (bytes : List ℕ) (outer : ℕ) where
  -- ---- entries one after the other

  are_entries : (ps : List Place) → All (IsEntry bytes outer) (map position_of ps) → AreEntries bytes outer ps
  are_entries [] all = tt
  are_entries (p ∷ ps) all = (All-head (IsEntry bytes outer) (position_of p) (map position_of ps) all, are_entries ps (All-tail (IsEntry bytes outer) (position_of p) (map position_of ps) all))

  first_entries : (ps qs : List Place) → AreEntries bytes outer (ps ++ qs) → AreEntries bytes outer ps
  first_entries [] qs h = tt
  first_entries (p ∷ ps) qs h = (h.0, first_entries ps qs h.1)

  other_entries : (ps qs : List Place) → AreEntries bytes outer (ps ++ qs) → AreEntries bytes outer qs
  other_entries [] qs h = h
  other_entries (p ∷ ps) qs h = other_entries ps qs h.1

  first_entry : (key value : ℕ) → IsEntry bytes outer (key, value) → IsEntry bytes outer (key + 0 * 8, value + 0 * 24)
  first_entry key value h =
      let k : key ≡ key + 0 * 8 = omega arith in
      let v : value ≡ value + 0 * 24 = omega arith in
      subst (λ n. IsEntry bytes outer (n, value + 0 * 24)) k (subst (λ m. IsEntry bytes outer (key, m)) v h)

  -- those that lie side by side
  pub side_by_side : (n key value : ℕ) → AreEntries bytes outer (places n text key node_shape value) → HasEntries bytes outer n key value
  side_by_side zero key value h i less = absurd (omega (arith, less))
  side_by_side (suc n) key value h zero less = first_entry key value h.0
  side_by_side (suc n) key value h (suc i) less =
      let there = side_by_side n (key + 8) (value + 24) h.1 i (omega (arith, less)) in
      let k : key + 8 + i * 8 ≡ key + suc i * 8 = omega arith in
      let v : value + 24 + i * 24 ≡ value + suc i * 24 = omega arith in
      subst (λ n. IsEntry bytes outer (n, value + suc i * 24)) k (subst (λ m. IsEntry bytes outer (key + 8 + i * 8, m)) v there)

  -- ---- the branches of an inner node

  pub branch_entries : {n level link key value : ℕ} {bs : Branches Place} → HasBranches bytes 5 text node_shape n level link key value bs → AreEntries bytes outer (items_of bs) → HasEntries bytes outer n key value
  branch_entries (has_greater none here is) h i less = absurd (omega (arith, less, none))
  branch_entries {key = key} {value = value} (has_lesser {t = t} {cs = cs} more here below is) h zero less =
      let all = subst (λ b. AreEntries bytes outer (items_of b)) is h in
      let rest = other_entries (items t) (record { key = key; value = value } ∷ items_of cs) all in
      first_entry key value rest.0
  branch_entries {key = key} {value = value} (has_lesser {t = t} {cs = cs} more here below is) h (suc i) less =
      let all = subst (λ b. AreEntries bytes outer (items_of b)) is h in
      let rest = other_entries (items t) (record { key = key; value = value } ∷ items_of cs) all in
      let there = branch_entries below rest.1 i (omega (arith, less, more)) in
      let k : key + 8 + i * 8 ≡ key + suc i * 8 = omega arith in
      let v : value + 24 + i * 24 ≡ value + suc i * 24 = omega arith in
      subst (λ n. IsEntry bytes outer (n, value + suc i * 24)) k (subst (λ m. IsEntry bytes outer (key + 8 + i * 8, m)) v there)

  pub branch_link : {n level link key value : ℕ} {bs : Branches Place} → HasBranches bytes 5 text node_shape n level link key value bs → AreEntries bytes outer (items_of bs) → (i : ℕ) → i ≤ n → HasLink bytes outer level (link + 4 * i)
  branch_link {level = level} {link = link} (has_greater {t = t} none here is) h i less =
      let same : link ≡ link + 4 * i = omega (arith, less, none) in
      subst (HasLink bytes outer level) same (record { subtree = t; child = here; entries = subst (λ b. AreEntries bytes outer (items_of b)) is h })
  branch_link {level = level} {link = link} {key = key} {value = value} (has_lesser {t = t} {cs = cs} more here below is) h zero less =
      let same : link ≡ link + 4 * 0 = omega arith in
      let all = subst (λ b. AreEntries bytes outer (items_of b)) is h in
      subst (HasLink bytes outer level) same (record { subtree = t; child = here; entries = first_entries (items t) (record { key = key; value = value } ∷ items_of cs) all })
  branch_link {level = level} {link = link} {key = key} {value = value} (has_lesser {t = t} {cs = cs} more here below is) h (suc i) less =
      let all = subst (λ b. AreEntries bytes outer (items_of b)) is h in
      let rest = other_entries (items t) (record { key = key; value = value } ∷ items_of cs) all in
      let same : link + 4 + 4 * i ≡ link + 4 * suc i = omega arith in
      subst (HasLink bytes outer level) same (branch_link below rest.1 i (omega (arith, less, more)))

  -- ---- a node, by its first byte

  pub record LeafThere (level pos : ℕ) : Type 0 where
    pub deep : level ≤ 32
    pub fits : pos + 176 ≤ length bytes
    pub few : word_at bytes (pos + 168) ≤ 5
    pub entries : HasEntries bytes outer (word_at bytes (pos + 168)) (pos + 4) (pos + 48)

  pub record InnerThere (level pos : ℕ) : Type 0 where
    pub deep : level ≤ 32
    pub fits : pos + 192 ≤ length bytes
    pub is : slice_index bytes pos ≡ 1
    pub entries : HasEntries bytes outer 5 (pos + 4) (pos + 48)
    pub links : (i : ℕ) → i ≤ 5 → HasLink bytes outer (level + 1) (pos + 168 + 4 * i)

  pub leaf_there : {level pos : ℕ} → HasSubtree bytes outer level pos → slice_index bytes pos ≡ 0 → LeafThere level pos
  unfolding keys_offset values_offset node_size links_offset link_node_align link_node_size align_up
  leaf_there {level = level} {pos = pos} there leaf = by there.subtree there.node there.entries
    where
      by : (t : Tree Place) → HasNode bytes 5 text node_shape level pos t → AreEntries bytes outer (items t) → LeafThere level pos
      by t (has_leaf {len = len} deep fits kind says few is) entries =
          let all = subst (λ (x : Tree Place). AreEntries bytes outer (items x)) is entries in
          let same : len ≡ word_at bytes (pos + 168) = sym says in
          record { deep = deep; fits = fits; few = subst (λ n. n ≤ 5) same few; entries = subst (λ n. HasEntries bytes outer n (pos + 4) (pos + 48)) same (side_by_side len (pos + 4) (pos + 48) all) }
      by t (has_inner deep fits kind below is) entries = absurd (omega (arith, kind, leaf))

  pub inner_there : {level pos : ℕ} → HasSubtree bytes outer level pos → (slice_index bytes pos ≡ 0 → ⊥) → InnerThere level pos
  unfolding keys_offset values_offset node_size links_offset link_node_align link_node_size align_up
  inner_there {level = level} {pos = pos} there inner = by there.subtree there.node there.entries
    where
      by : (t : Tree Place) → HasNode bytes 5 text node_shape level pos t → AreEntries bytes outer (items t) → InnerThere level pos
      by t (has_leaf deep fits kind says few is) entries = absurd (inner kind)
      by t (has_inner {bs = bs} deep fits kind below is) entries =
          let all = subst (λ (x : Tree Place). AreEntries bytes outer (items x)) is entries in
          let next : suc level ≡ level + 1 = omega arith in
          record { deep = deep; fits = fits; is = kind; entries = branch_entries below all; links = λ i less. subst (λ n. HasLink bytes outer n (pos + 168 + 4 * i)) next (branch_link below all i less) }

  pub node_fits : {level pos : ℕ} → HasSubtree bytes outer level pos → (level ≤ 32) × (pos + 176 ≤ length bytes)
  unfolding keys_offset values_offset node_size links_offset link_node_align link_node_size align_up
  node_fits {level = level} {pos = pos} there = by there.node
    where
      by : {t : Tree Place} → HasNode bytes 5 text node_shape level pos t → (level ≤ 32) × (pos + 176 ≤ length bytes)
      by (has_leaf deep fits kind says few is) = (deep, fits)
      by (has_inner deep fits kind below is) = let more : pos + 192 ≤ length bytes = fits in (deep, omega (arith, more))

  -- ---- a pointer to a node

  pub link_leads : {level link : ℕ} → HasLink bytes outer level link → (word_at bytes link ≡ 1 → ⊥) → (to : ℕ) × PointsTo bytes link to
  link_leads {level = level} {link = link} there some = by there.child
    where
      by : {t : Tree Place} → HasChild bytes 5 text node_shape level link t → (to : ℕ) × PointsTo bytes link to
      by (no_child none is) = absurd (some none)
      by (a_child {pos = to} away leads node) = (to, leads)

  pub link_subtree : {level link to : ℕ} → HasLink bytes outer level link → (word_at bytes link ≡ 1 → ⊥) → PointsTo bytes link to → HasSubtree bytes outer level to
  link_subtree {level = level} {link = link} {to = to} there some leads = by there.subtree there.child there.entries
    where
      by : (t : Tree Place) → HasChild bytes 5 text node_shape level link t → AreEntries bytes outer (items t) → HasSubtree bytes outer level to
      by t (no_child none is) entries = absurd (some none)
      by t (a_child {pos = other} away target node) entries =
          let same : other ≡ to = let a = target in let b = leads in cc in
          record { subtree = t; node = subst (λ n. HasNode bytes 5 text node_shape level n t) same node; entries = entries }

-- ---- the layout of nodes

pub record Offsets (l : NodeLayout) : Type 0 where
  pub entries : l.entries ≡ 5
  pub keys : l.keys ≡ 4
  pub key_size : l.key_size ≡ 8
  pub values : l.values ≡ 48
  pub value_size : l.value_size ≡ 24
  pub links : l.links ≡ 168

pub offsets_of : {l : NodeLayout} → IsLayout 5 text node_shape l → Offsets l
unfolding keys_offset values_offset node_size links_offset align_up
offsets_of l = record { entries = l.entries; keys = l.keys; key_size = l.key_size; values = l.values; value_size = l.value_size; links = l.links }

-- ---- the root of a map

pub root_subtree : (bytes : Bor (List ℕ)) {pos outer root : ℕ} → HasTree (tagged_value 6) map_shape knows_pairs bytes.now pos outer → (word_at bytes.now (pos + 4) ≡ 0 → ⊥) → PointsTo bytes.now pos root
    → HasSubtree bytes.now (outer + 1) 1 root
root_subtree bytes {pos = pos} {outer = outer} {root = root} has some leads =
    let m : IsMapOf text node_shape (λ _. ⊤) KnowsNode bytes.now 5 pos has.value = tree_of_value (record { value = has.value; held = has.held }) in
    let t = m.search_tree in
    let all = ordered_are bytes has (map position_of (items t))
    (λ u at. sym (positions_are bytes (items t)) ∙ ap (λ (x : Tree Place). map positions (entries_at bytes (items x))) (one_map bytes.now 5 text node_shape pos t u m.map at)) in
    by t m.map (are_entries bytes.now (outer + 1) (items t) all.0)
  where
    by : (t : Tree Place) → IsMapAt bytes.now 5 text node_shape pos t → AreEntries bytes.now (outer + 1) (items t) → HasSubtree bytes.now (outer + 1) 1 root
    by t (has_none none is) entries = absurd (some none)
    by t (has_root {root = other} away target node count) entries =
        let same : other ≡ root = let a = target in let b = leads in cc in
        record { subtree = t; node = subst (λ n. HasNode bytes.now 5 text node_shape 1 n t) same node; entries = entries }

pub root_leads : (bytes : Bor (List ℕ)) {pos outer : ℕ} → HasTree (tagged_value 6) map_shape knows_pairs bytes.now pos outer → (word_at bytes.now (pos + 4) ≡ 0 → ⊥) → (root : ℕ) × PointsTo bytes.now pos root
root_leads bytes {pos = pos} has some =
    let m : IsMapOf text node_shape (λ _. ⊤) KnowsNode bytes.now 5 pos has.value = tree_of_value (record { value = has.value; held = has.held }) in
    by m.map
  where
    by : {t : Tree Place} → IsMapAt bytes.now 5 text node_shape pos t → (root : ℕ) × PointsTo bytes.now pos root
    by (has_none none is) = absurd (some none)
    by (has_root {root = root} away target node count) = (root, target)
