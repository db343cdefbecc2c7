-- The values of a search tree's node are as many as the items of the tree that is read there.
use Rattle.std.proofs.Common.{◌≡◌, ◌∙◌, ℕ, suc, ◌+◌, List, [], ◌∷◌, ◌++◌, length, refl, ap, sym, subst, arith, length-append}
use Rattle.archive_shape_layout.specs.Shape.{Shape, size_of}
use Rattle.archive_shape_layout.specs.Value.{Value, Values, count_values}
use Rattle.archive_shape_layout.specs.Value.Values.{no_values, more_values}
use Rattle.archive_shape_layout.specs.Content.{Names, Part, members, weave, first_values, other_values, children, entries, keys_offset, values_offset, links_offset}
use Rattle.archive_shape_layout.specs.Content.Part.{node, child}
use Rattle.archive_shape_layout.specs.Content.Label.{same, woven}
use Rattle.archive_shape_layout.specs.Holds.{Region, Visit, OpenShared, Holds, HoldAll}
use Rattle.archive_shape_canonical.proofs.Steps.{made_whole, count_parts}
use Rattle.archive_shape_canonical.proofs.Nodes.{count_append, count_other, length-entries, length-children}
use Rattle.archive_btree_layout.specs.Tree.{Tree, Branches, items, items_of}
use Rattle.archive_btree_layout.specs.Reading.{Place, HasNode, HasBranches, HasChild}
use Rattle.archive_btree_layout.specs.Reading.HasNode.{has_leaf, has_inner}
use Rattle.archive_btree_layout.specs.Reading.HasBranches.{has_greater, has_lesser}
use Rattle.archive_btree_layout.specs.Reading.HasChild.{no_child, a_child}
use Rattle.archive_btree_layout.proofs.Held.{same_is, woven_is, no_parts}
use Rattle.archive_btree_layout.proofs.Descending.{length-places}
use Rattle.archive_btree_spelling.proofs.Made.{MadeOf, made_plain, made_claimed, FirstOf, first_of_all, leaf_content, inner_content, no_child_content, child_content_of}

-- the last child has no entry after it, another has one
last_counted : (u : Value) (us ws : Values) → count_values ws ≡ 0 → count_values (weave (first_values 1 (more_values u us)) ws) ≡ count_values (members u)
last_counted u us no_values e = refl
last_counted u us (more_values w ws) e = absurd (omega (arith, e))

more_counted : (n size rest : ℕ) (u : Value) (us ws : Values) → count_values ws ≡ suc n → count_values (members u) ≡ size
    → ((xs : Values) → count_values xs ≡ n → count_values (weave (first_values (suc n) us) xs) ≡ rest)
    → count_values (weave (first_values (suc (suc n)) (more_values u us)) ws) ≡ size + suc rest
more_counted n size rest u us no_values e here there = absurd (omega (arith, e))
more_counted n size rest u us (more_values w ws) e here there =
    let later = there ws (omega (arith, e)) in
    let all = count_append (members u) (more_values w (weave (first_values (suc n) us) ws)) in
    omega (arith, here, later, all)

module _ (names : Names) (bytes : List ℕ) (most : ℕ) (k v : Shape) where
  -- a value that is that of the one part
  one_made : {p : Part} {value : Value} → (m : MadeOf names bytes same (p ∷ []) value) → (f : FirstOf names bytes p [] m.values) → value ≡ f.value
  one_made {value = value} m f =
      let none : f.others ≡ no_values = (no_parts names bytes most k v f.rest).0 in
      same_is names bytes most k v same f.value m.values value refl (f.is ∙ ap (more_values f.value) none) m.is

  -- the entries of an inner node
  pub entries_counted : (level link key place : ℕ) {depth : ℕ} {inside : List OpenShared} {vs : Values} {rs : List Region} {before after : List Visit}
      → HoldAll names bytes depth inside (children (suc most) level most k v link ++ entries most k key v place) vs rs before after
      → count_values (other_values (suc most) vs) ≡ most
  entries_counted level link key place {vs = vs} all =
      let a = count_parts names bytes all in
      let b = length-append (children (suc most) level most k v link) (entries most k key v place) in
      let c = length-children (suc most) level most k v link in
      let d = length-entries most k key v place in
      count_other (suc most) most vs (omega (arith, a, b, c, d))

  -- the first child, and the parts after it
  pub first_child : (n level link : ℕ) (es : List Part) {depth : ℕ} {inside : List OpenShared} {vs : Values} {rs : List Region} {before after : List Visit}
      → HoldAll names bytes depth inside (children (suc n) level most k v link ++ es) vs rs before after
      → FirstOf names bytes (child level most k v link) (children n level most k v (link + 4) ++ es) vs
  unfolding children
  first_child n level link es all = first_of_all names bytes all

  mutual
    pub node_counted : (level pos : ℕ) (t : Tree Place) → HasNode bytes most k v level pos t → {depth : ℕ} {inside : List OpenShared} {value : Value} {rs : List Region} {before after : List Visit}
        → Holds names bytes depth inside (node level most k v pos) value rs before after → count_values (members value) ≡ length (items t)
    node_counted level pos t (has_leaf {len = len} low room kind word few is) {value = value} h =
        let m = made_claimed names bytes (leaf_content names bytes most k v level pos len low kind word few) h in
        ap (λ z. count_values (members z)) (made_whole value m.values m.is)
        ∙ count_parts names bytes m.hold
        ∙ length-entries len k (pos + keys_offset k) v (pos + values_offset most k v)
        ∙ sym (ap (λ u. length (items u)) is ∙ length-places len k (pos + keys_offset k) v (pos + values_offset most k v))
    node_counted level pos t (has_inner {bs = bs} low room kind d is) {value = value} h =
        let m = made_claimed names bytes (inner_content names bytes most k v level pos low kind) h in
        ap (λ z. count_values (members z)) (woven_is names bytes most k v (woven (suc most)) m.values value (suc most) refl m.is)
        ∙ branches_counted most (suc level) (pos + links_offset most k v) (pos + keys_offset k) (pos + values_offset most k v) bs d
        (entries most k (pos + keys_offset k) v (pos + values_offset most k v)) m.hold (other_values (suc most) m.values)
        (entries_counted (suc level) (pos + links_offset most k v) (pos + keys_offset k) (pos + values_offset most k v) m.hold)
        ∙ sym (ap (λ u. length (items u)) is)

    -- with the values of the entries between
    pub branches_counted : (n level link key place : ℕ) (bs : Branches Place) → HasBranches bytes most k v n level link key place bs → (es : List Part)
        → {depth : ℕ} {inside : List OpenShared} {vs : Values} {rs : List Region} {before after : List Visit}
        → HoldAll names bytes depth inside (children (suc n) level most k v link ++ es) vs rs before after
        → (ws : Values) → count_values ws ≡ n
        → count_values (weave (first_values (suc n) vs) ws) ≡ length (items_of bs)
    branches_counted n level link key place bs (has_greater {t = t} z c is) es {vs = vs} all ws e =
        let f = first_child n level link es all in
        let here = child_counted level link t c f.first in
        let one : suc n ≡ 1 = omega (arith, z) in
        ap (λ z. count_values (weave (first_values z vs) ws)) one
        ∙ ap (λ z. count_values (weave (first_values 1 z) ws)) f.is
        ∙ last_counted f.value f.others ws (e ∙ z)
        ∙ here
        ∙ sym (ap (λ u. length (items_of u)) is)
    branches_counted n level link key place bs (has_lesser {m = m} {t = t} {cs = cs} z c r is) es {depth = depth} {inside = inside} {vs = vs} {rs = rs} {before = before} {after = after} all ws e =
        let all' = subst (λ i. HoldAll names bytes depth inside (children (suc i) level most k v link ++ es) vs rs before after) z all in
        let f = first_child (suc m) level link es all' in
        let here = child_counted level link t c f.first in
        let there = branches_counted m level (link + 4) (key + size_of k) (place + size_of v) cs r es f.rest in
        let total = more_counted m (length (items t)) (length (items_of cs)) f.value f.others ws (e ∙ z) here there in
        ap (λ i. count_values (weave (first_values (suc i) vs) ws)) z
        ∙ ap (λ y. count_values (weave (first_values (suc (suc m)) y) ws)) f.is
        ∙ total
        ∙ sym (length-append (items t) (record { key = key; value = place } ∷ items_of cs))
        ∙ sym (ap (λ u. length (items_of u)) is)

    pub child_counted : (level link : ℕ) (t : Tree Place) → HasChild bytes most k v level link t → {depth : ℕ} {inside : List OpenShared} {value : Value} {rs : List Region} {before after : List Visit}
        → Holds names bytes depth inside (child level most k v link) value rs before after → count_values (members value) ≡ length (items t)
    child_counted level link t (no_child a b) {value = value} h =
        let m = made_plain names bytes (no_child_content names bytes most k v level link a) h in
        ap (λ z. count_values (members z)) (made_whole value m.values m.is)
        ∙ ap count_values (no_parts names bytes most k v m.hold).0
        ∙ sym (ap (λ u. length (items u)) b)
    child_counted level link t (a_child {pos = pos} a b c) h =
        let m = made_plain names bytes (child_content_of names bytes most k v level link pos t a b c) h in
        let f = first_of_all names bytes m.hold in
        ap (λ z. count_values (members z)) (one_made m f) ∙ node_counted level pos t c f.first
