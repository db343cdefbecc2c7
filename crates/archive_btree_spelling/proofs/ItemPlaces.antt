-- The numbers of a tree's items, as it is read from bytes: those of its entries, and of its children's items.
use Rattle.std.proofs.Common.{◌≡◌, ◌∙◌, ℕ, zero, suc, ◌+◌, ◌<◌, List, [], ◌∷◌, ◌++◌, length, Option, Some, None, refl, ap, sym, subst, arith}
use Rattle.std.specs.Prelude.{⊤}
use Rattle.archive_shape_layout.specs.Shape.{Shape, size_of}
use Rattle.archive_shape_layout.specs.Shape.Shape.{tree}
use Rattle.archive_shape_layout.specs.Value.{Value, Values, count_values}
use Rattle.archive_shape_layout.specs.Value.Value.{group}
use Rattle.archive_shape_layout.specs.Value.Values.{no_values, more_values}
use Rattle.archive_shape_layout.specs.Content.{Names, Part, Span, Label, content_of, members, first_values, other_values, children, entries, keys_offset, values_offset}
use Rattle.archive_shape_layout.specs.Content.Part.{at, node, child, entry}
use Rattle.archive_shape_layout.specs.Content.Label.{whole, woven}
use Rattle.archive_shape_layout.specs.Content.Content.{plain, claimed}
use Rattle.archive_shape_layout.specs.Holds.{Region, Visit, OpenShared, Holds, HoldAll}
use Rattle.archive_shape_layout.specs.Holds.HoldAll.{holds_none, holds_more}
use Rattle.archive_shape_layout.specs.Path.{child_place, entry_place, beyond}
use Rattle.archive_btree_layout.specs.Tree.{Tree, Branches, items, items_of}
use Rattle.archive_btree_layout.specs.Reading.{Place, places, HasNode, HasBranches, HasChild}
use Rattle.archive_btree_layout.specs.Reading.HasNode.{has_leaf, has_inner}
use Rattle.archive_btree_layout.specs.Reading.HasBranches.{has_greater, has_lesser}
use Rattle.archive_btree_layout.specs.Reading.HasChild.{no_child, a_child}
use Rattle.archive_btree_spelling.specs.PackingMaps.{HasTree}
use Rattle.archive_btree_spelling.proofs.Counted.{child_counted}
use Rattle.archive_btree_spelling.proofs.Made.{leaf_content, inner_content, no_child_content, child_content_of, map_content}

-- what stands at a number of a list
abbrev pub IsNth : {A : Type 0} → ℕ → List A → A → Type 0
IsNth i [] e = ⊥
IsNth zero (p ∷ ps) e = p ≡ e
IsNth (suc i) (p ∷ ps) e = IsNth i ps e

-- the item with a number has its value at a position
abbrev pub HasItem : List Place → ℕ → ℕ → Type 0
HasItem ps i value_pos = (e : Place) × IsNth i ps e × (e.value ≡ value_pos)

-- what stands at a number of one list stands in two lists in a row
nth_front : {A : Type 0} (i : ℕ) (ps qs : List A) (e : A) → IsNth i ps e → IsNth i (ps ++ qs) e
nth_front i [] qs e h = absurd h
nth_front zero (p ∷ ps) qs e h = h
nth_front (suc i) (p ∷ ps) qs e h = nth_front i ps qs e h

nth_behind : {A : Type 0} (i : ℕ) (ps qs : List A) (e : A) → IsNth i qs e → IsNth (length ps + i) (ps ++ qs) e
nth_behind i [] qs e h = let z : i ≡ 0 + i = omega arith in subst (λ n. IsNth n qs e) z h
nth_behind i (p ∷ ps) qs e h =
    let s : suc (length ps + i) ≡ suc (length ps) + i = omega arith in
    subst (λ n. IsNth n (p ∷ (ps ++ qs)) e) s (nth_behind i ps qs e h)

-- an entry after the items of a child
item_between : (i value_pos : ℕ) (ps qs : List Place) (p : Place) → i ≡ length ps → p.value ≡ value_pos → HasItem (ps ++ p ∷ qs) i value_pos
item_between i value_pos ps qs p e is =
    let z : length ps + 0 ≡ i = omega (arith, e) in
    (p, subst (λ n. IsNth n (ps ++ p ∷ qs) p) z (nth_behind 0 ps (p ∷ qs) p refl), is)

-- an item after that entry
item_behind : (i j value_pos : ℕ) (ps qs : List Place) (p : Place) → i ≡ (length ps + 1) + j → HasItem qs j value_pos → HasItem (ps ++ p ∷ qs) i value_pos
item_behind i j value_pos ps qs p e h =
    let s : length ps + suc j ≡ i = omega (arith, e) in
    (h.0, subst (λ n. IsNth n (ps ++ p ∷ qs) h.0) s (nth_behind (suc j) ps (p ∷ qs) h.0 h.1), h.2)

-- the first child's items come first
place_first : (c : Value) (cs es : Values) (first : ℕ) → child_place zero (more_values c cs) es ≡ Some first → first ≡ 0
place_first (group vs) cs es first e = cc
place_first c cs es first e = absurd cc

-- what is beyond a number
beyond_is : (n i : ℕ) (o : Option ℕ) → beyond n o ≡ Some i → (j : ℕ) × (o ≡ Some j) × (n + j ≡ i)
beyond_is n i None e = absurd cc
beyond_is n i (Some j) e = (j, refl, cc)

-- ---- the values of children are as many as their items

module _ (bytes : List ℕ) where
  -- of a pointer to a child
  abbrev IsCounted : Part → Value → Type 0
  IsCounted (child level most k v pos) c = (t : Tree Place) → HasChild bytes most k v level pos t → count_values (members c) ≡ length (items t)
  IsCounted p c = ⊤

  abbrev pub AreCounted : List Part → Values → Type 0
  AreCounted [] vs = ⊤
  AreCounted (p ∷ ps) no_values = ⊤
  AreCounted (p ∷ ps) (more_values c vs) = IsCounted p c × AreCounted ps vs

module _ (names : Names) (bytes : List ℕ) where
  is_counted : (p : Part) {level : ℕ} {inside : List OpenShared} {c : Value} {regions : List Region} {before after : List Visit}
      → Holds names bytes level inside p c regions before after → IsCounted bytes p c
  is_counted (child deep most k v pos) h = λ t has. child_counted names bytes most k v deep pos t has h
  is_counted p h = tt

  pub are_counted : {level : ℕ} {inside : List OpenShared} {ps : List Part} {vs : Values} {regions : List Region} {before after : List Visit}
      → HoldAll names bytes level inside ps vs regions before after → AreCounted bytes ps vs
  are_counted (holds_none e f g) = tt
  are_counted (holds_more {p = p} {ps = ps} h hs e r) = subst (AreCounted bytes (p ∷ ps)) (sym e) (is_counted p h, are_counted hs)

-- ---- the items of a node, by its parts

module _ (bytes : List ℕ) (most : ℕ) (k v : Shape) where
  -- an entry among others
  entry_item : (n key place j key_pos value_pos : ℕ) → IsNth j (entries n k key v place) (entry k key_pos v value_pos) → HasItem (places n k key v place) j value_pos
  unfolding entries
  entry_item zero key place j key_pos value_pos h = absurd h
  entry_item (suc n) key place zero key_pos value_pos h = let is : place ≡ value_pos = cc in (record { key = key; value = place }, refl, is)
  entry_item (suc n) key place (suc j) key_pos value_pos h = entry_item n (key + size_of k) (place + size_of v) j key_pos value_pos h

  -- the parts after the children
  pub part_behind : (n level link : ℕ) (es : List Part) (j : ℕ) (q : Part) → IsNth (n + j) (children n level most k v link ++ es) q → IsNth j es q
  unfolding children
  part_behind zero level link es j q h = let z : 0 + j ≡ j = omega arith in subst (λ m. IsNth m es q) z h
  part_behind (suc n) level link es j q h =
      let s : suc n + j ≡ suc (n + j) = omega arith in
      part_behind n level (link + 4) es j q (subst (λ m. IsNth m (child level most k v link ∷ (children n level most k v (link + 4) ++ es)) q) s h)

  -- an item of a child
  branch_item : (es : List Part) (vs ws : Values) (j deep pos first i value_pos : ℕ) {n level link key place : ℕ} {bs : Branches Place}
      → HasBranches bytes most k v n level link key place bs
      → AreCounted bytes (children (suc n) level most k v link ++ es) vs
      → j < suc n
      → IsNth j (children (suc n) level most k v link ++ es) (child deep most k v pos)
      → child_place j (first_values (suc n) vs) ws ≡ Some first
      → ((t : Tree Place) → HasChild bytes most k v deep pos t → HasItem (items t) i value_pos)
      → HasItem (items_of bs) (first + i) value_pos
  unfolding children
  branch_item es no_values ws j deep pos first i value_pos has counted within part place below = absurd cc
  branch_item es (more_values c vs) ws zero deep pos first i value_pos {n = n} {level = level} {link = link} (has_greater {t = t} z here is) counted within part place below =
      let same_level : level ≡ deep = cc in
      let same_pos : link ≡ pos = cc in
      let item = below t (subst (λ x. HasChild bytes most k v deep x t) same_pos (subst (λ x. HasChild bytes most k v x link t) same_level here)) in
      let none = place_first c (first_values n vs) ws first place in
      let sum : i ≡ first + i = omega (arith, none) in
      subst (λ x. HasItem (items_of x) (first + i) value_pos) (sym is) (subst (λ x. HasItem (items t) x value_pos) sum item)
  branch_item es (more_values c vs) ws (suc j) deep pos first i value_pos {n = n} (has_greater z here is) counted within part place below = absurd (omega (arith, z, within))
  branch_item es (more_values c vs) ws zero deep pos first i value_pos {n = n} {level = level} {link = link} {key = key} {place = at_value} (has_lesser {t = t} {cs = cs} z here rest is) counted within part place below =
      let same_level : level ≡ deep = cc in
      let same_pos : link ≡ pos = cc in
      let item = below t (subst (λ x. HasChild bytes most k v deep x t) same_pos (subst (λ x. HasChild bytes most k v x link t) same_level here)) in
      let none = place_first c (first_values n vs) ws first place in
      let sum : i ≡ first + i = omega (arith, none) in
      subst (λ x. HasItem (items_of x) (first + i) value_pos) (sym is)
      (subst (λ x. HasItem (items t ++ record { key = key; value = at_value } ∷ items_of cs) x value_pos) sum (item.0, nth_front i (items t) (record { key = key; value = at_value } ∷ items_of cs) item.0 item.1, item.2))
  branch_item es (more_values c vs) no_values (suc j) deep pos first i value_pos (has_lesser z here rest is) counted within part place below = absurd cc
  branch_item es (more_values c vs) (more_values d ws) (suc j) deep pos first i value_pos {n = n} {level = level} {link = link} {key = key} {place = at_value} (has_lesser {m = m} {t = t} {cs = cs} z here rest is) counted within part place below =
      let further = beyond_is (count_values (members c) + 1) first (child_place j (first_values n vs) ws) place in
      let size = counted.0 t here in
      let sum = further.2 in
      let item =
      branch_item es vs ws j deep pos further.0 i value_pos rest
      (subst (λ x. AreCounted bytes (children x level most k v (link + 4) ++ es) vs) z counted.1)
      (omega (arith, z, within))
      (subst (λ x. IsNth j (children x level most k v (link + 4) ++ es) (child deep most k v pos)) z part)
      (subst (λ x. child_place j (first_values x vs) ws ≡ Some further.0) z further.1)
      below
      in
      subst (λ x. HasItem (items_of x) (first + i) value_pos) (sym is)
      (item_behind (first + i) (further.0 + i) value_pos (items t) (items_of cs) (record { key = key; value = at_value }) (omega (arith, size, sum)) item)

  -- an entry between children
  between_item : (es : List Part) (vs ws : Values) (j key_pos value_pos i : ℕ) {n level link key place : ℕ} {bs : Branches Place}
      → HasBranches bytes most k v n level link key place bs
      → AreCounted bytes (children (suc n) level most k v link ++ es) vs
      → j < count_values vs
      → IsNth j (entries n k key v place) (entry k key_pos v value_pos)
      → entry_place j (first_values (suc n) vs) ws ≡ Some i
      → HasItem (items_of bs) i value_pos
  unfolding children entries
  between_item es no_values ws j key_pos value_pos i has counted within part place = absurd (omega (arith, within))
  between_item es (more_values c vs) ws j key_pos value_pos i {key = key} {place = at_value} (has_greater z here is) counted within part place =
      absurd (subst (λ x. IsNth j (entries x k key v at_value) (entry k key_pos v value_pos)) z part)
  between_item es (more_values c vs) no_values j key_pos value_pos i (has_lesser z here rest is) counted within part place = absurd cc
  between_item es (more_values c vs) (more_values d ws) zero key_pos value_pos i {key = key} {place = at_value} (has_lesser {m = m} {t = t} {cs = cs} z here rest is) counted within part place =
      let own : IsNth 0 (entries (suc m) k key v at_value) (entry k key_pos v value_pos) = subst (λ x. IsNth 0 (entries x k key v at_value) (entry k key_pos v value_pos)) z part in
      let same_value : at_value ≡ value_pos = cc in
      let size = counted.0 t here in
      let number : count_values (members c) ≡ i = cc in
      subst (λ x. HasItem (items_of x) i value_pos) (sym is) (item_between i value_pos (items t) (items_of cs) (record { key = key; value = at_value }) (sym number ∙ size) same_value)
  between_item es (more_values c vs) (more_values d ws) (suc j) key_pos value_pos i {n = n} {level = level} {link = link} {key = key} {place = at_value} (has_lesser {m = m} {t = t} {cs = cs} z here rest is) counted within part place =
      let further = beyond_is (count_values (members c) + 1) i (entry_place j (first_values n vs) ws) place in
      let size = counted.0 t here in
      let sum = further.2 in
      let item =
      between_item es vs ws j key_pos value_pos further.0 rest
      (subst (λ x. AreCounted bytes (children x level most k v (link + 4) ++ es) vs) z counted.1)
      (omega (arith, within))
      (subst (λ x. IsNth (suc j) (entries x k key v at_value) (entry k key_pos v value_pos)) z part)
      (subst (λ x. entry_place j (first_values x vs) ws ≡ Some further.0) z further.1)
      in
      subst (λ x. HasItem (items_of x) i value_pos) (sym is)
      (item_behind i further.0 value_pos (items t) (items_of cs) (record { key = key; value = at_value }) (omega (arith, size, sum)) item)

  -- a tree with these parts: a leaf, or an inner node
  pub data NodeRead (l : Label) (ps : List Part) (t : Tree Place) : Type 0 where
    leaf_read : (n key place : ℕ) → l ≡ whole → ps ≡ entries n k key v place → items t ≡ places n k key v place → NodeRead l ps t
    inner_read :
        {n level link key place : ℕ} {bs : Branches Place}
        → l ≡ woven (suc n)
        → ps ≡ children (suc n) level most k v link ++ entries n k key v place
        → items t ≡ items_of bs
        → HasBranches bytes most k v n level link key place bs
        → NodeRead l ps t

  -- an item of a leaf
  pub item_of_leaf : (l : Label) {ps : List Part} {t : Tree Place} (i key_pos value_pos : ℕ) → NodeRead l ps t → l ≡ whole → IsNth i ps (entry k key_pos v value_pos) → HasItem (items t) i value_pos
  item_of_leaf l i key_pos value_pos (leaf_read n key place label parts is) own part =
      subst (λ x. HasItem x i value_pos) (sym is) (entry_item n key place i key_pos value_pos (subst (λ x. IsNth i x (entry k key_pos v value_pos)) parts part))
  item_of_leaf l i key_pos value_pos (inner_read label parts is below) own part = absurd cc

  -- an item of an inner node's child, after those of the children and entries before
  pub item_of_child : (l : Label) {ps : List Part} {t : Tree Place} (vs : Values) (n j deep pos first m i value_pos : ℕ)
      → NodeRead l ps t
      → l ≡ woven n
      → AreCounted bytes ps vs
      → j < n
      → IsNth j ps (child deep most k v pos)
      → child_place j (first_values n vs) (other_values n vs) ≡ Some first
      → first + m ≡ i
      → ((u : Tree Place) → HasChild bytes most k v deep pos u → HasItem (items u) m value_pos)
      → HasItem (items t) i value_pos
  item_of_child l vs n j deep pos first m i value_pos (leaf_read len key place label parts is) own counted within part number sum below = absurd cc
  item_of_child l vs n j deep pos first m i value_pos (inner_read {n = more} {level = level} {link = link} {key = key} {place = place} {bs = bs} label parts is has) own counted within part number sum below =
      let same_count : n ≡ suc more = cc in
      let item =
      branch_item (entries more k key v place) vs (other_values n vs) j deep pos first m value_pos has
      (subst (λ x. AreCounted bytes x vs) parts counted)
      (omega (arith, within, same_count))
      (subst (λ x. IsNth j x (child deep most k v pos)) parts part)
      (subst (λ x. child_place j (first_values x vs) (other_values n vs) ≡ Some first) same_count number)
      below
      in
      subst (λ x. HasItem x i value_pos) (sym is) (subst (λ x. HasItem (items_of bs) x value_pos) sum item)

  -- an entry of an inner node
  pub item_of_entry : (l : Label) {ps : List Part} {t : Tree Place} (vs : Values) (n j key_pos value_pos i : ℕ)
      → NodeRead l ps t
      → l ≡ woven n
      → AreCounted bytes ps vs
      → j < count_values vs
      → IsNth (n + j) ps (entry k key_pos v value_pos)
      → entry_place j (first_values n vs) (other_values n vs) ≡ Some i
      → HasItem (items t) i value_pos
  item_of_entry l vs n j key_pos value_pos i (leaf_read len key place label parts is) own counted within part number = absurd cc
  item_of_entry l vs n j key_pos value_pos i (inner_read {n = more} {level = level} {link = link} {key = key} {place = place} {bs = bs} label parts is has) own counted within part number =
      let same_count : n ≡ suc more = cc in
      let es = entries more k key v place in
      let q = entry k key_pos v value_pos in
      let item =
      between_item es vs (other_values n vs) j key_pos value_pos i has
      (subst (λ x. AreCounted bytes x vs) parts counted)
      within
      (part_behind (suc more) level link es j q (subst (λ x. IsNth (x + j) (children (suc more) level most k v link ++ es) q) same_count (subst (λ x. IsNth (n + j) x q) parts part)))
      (subst (λ x. entry_place j (first_values x vs) (other_values n vs) ≡ Some i) same_count number)
      in
      subst (λ x. HasItem x i value_pos) (sym is) item

-- ---- the tree that is read of a part

module _ (names : Names) (bytes : List ℕ) (most : ℕ) (k v : Shape) where
  -- a node's parts are those of the tree that is read of it
  pub node_read : {level pos : ℕ} {t : Tree Place} {s : Span} {l : Label} {ps : List Part}
      → content_of names bytes (node level most k v pos) ≡ claimed s l ps → HasNode bytes most k v level pos t → NodeRead bytes most k v l ps t
  node_read {level = level} {pos = pos} e (has_leaf {len = len} low room kind word few is) =
      let same_content = sym e ∙ leaf_content names bytes most k v level pos len low kind word few in
      leaf_read len (pos + keys_offset k) (pos + values_offset most k v) (cc) (cc) (ap items is)
  node_read {level = level} {pos = pos} e (has_inner low room kind below is) =
      let same_content = sym e ∙ inner_content names bytes most k v level pos low kind in
      inner_read (cc) (cc) (ap items is) below

  -- the node behind a pointer
  pub child_read : {level pos deep root : ℕ} {t : Tree Place} {l : Label} {ps : List Part}
      → content_of names bytes (child level most k v pos) ≡ plain l ps → ps ≡ node deep most k v root ∷ [] → HasChild bytes most k v level pos t → HasNode bytes most k v deep root t
  child_read {level = level} {pos = pos} e parts (no_child none is) = absurd (let same_content = sym e ∙ no_child_content names bytes most k v level pos none in cc)
  child_read {level = level} {pos = pos} {deep = deep} {root = root} {t = t} e parts (a_child {pos = target} some leads has) =
      let same_content = sym e ∙ child_content_of names bytes most k v level pos target t some leads has in
      let same_level : level ≡ deep = cc in
      let same_pos : target ≡ root = cc in
      subst (λ x. HasNode bytes most k v deep x t) same_pos (subst (λ x. HasNode bytes most k v x target t) same_level has)

  -- a map's root
  pub root_read : {pos deep root : ℕ} {t : Tree Place} {l : Label} {ps : List Part}
      → content_of names bytes (at pos (tree most k v)) ≡ plain l ps → ps ≡ node deep most k v root ∷ [] → HasTree bytes most k v pos t → HasNode bytes most k v deep root t
  root_read {pos = pos} {deep = deep} {root = root} {t = t} e parts h =
      let same_content = sym e ∙ map_content names bytes most k v pos h.root h.some h.leads in
      let same_level : 1 ≡ deep = cc in
      let same_pos : h.root ≡ root = cc in
      subst (λ x. HasNode bytes most k v deep x t) same_pos (subst (λ x. HasNode bytes most k v x h.root t) same_level h.node)
