-- A tree that is read where the root of a canonical archive reaches a node has below each pointer the same number of
-- items as a packed tree.
use Rattle.std.proofs.Common.{slice_index, drop, ◌≡◌, ◌∙◌, ℕ, suc, ◌+◌, ◌<◌, ◌≤◌, List, [], ◌∷◌, ◌++◌, length, refl, ap, sym, subst, arith}
use Rattle.archive_shape_layout.specs.Shape.{Shape, size_of}
use Rattle.archive_shape_layout.specs.Value.{Value, Values, count_values}
use Rattle.archive_shape_layout.specs.Value.Value.{natural, integer, boolean, string, group, chosen, counted, back}
use Rattle.archive_shape_layout.specs.Value.Values.{more_values}
use Rattle.archive_shape_layout.specs.Content.{Names, Part, members, weave, first_values, other_values, children, entries, keys_offset, values_offset, links_offset}
use Rattle.archive_shape_layout.specs.Content.Part.{node, child}
use Rattle.archive_shape_layout.specs.Holds.{Region, Visit, OpenShared, HoldAll}
use Rattle.archive_shape_canonical.specs.Settled.{Fit, HasItems}
use Rattle.archive_shape_canonical.specs.Packed.{IsPacked, ArePacked, child_items}
use Rattle.archive_shape_canonical.specs.Everywhere.{reaches_here, reaches_plain, reaches_claimed, reaches_first, reaches_later, IsAsWritten}
use Rattle.archive_shape_canonical.proofs.Choosing.{node_packed, items_there}
use Rattle.archive_shape_canonical.proofs.Reaching.{All, AllIn}
use Rattle.archive_btree_layout.specs.Tree.{Tree, Branches, items, items_of, entries_of}
use Rattle.archive_btree_layout.specs.Reading.{Place, places, HasNode, HasBranches, HasChild}
use Rattle.archive_btree_layout.specs.Reading.HasNode.{has_leaf, has_inner}
use Rattle.archive_btree_layout.specs.Reading.HasBranches.{has_greater, has_lesser}
use Rattle.archive_btree_layout.specs.Reading.HasChild.{no_child, a_child}
use Rattle.archive_btree_layout.proofs.Contents.{kind_of}
use Rattle.archive_btree_layout.proofs.Descending.{length-places}
use Rattle.archive_btree_spelling.proofs.Divided.{IsDivided, AreDivided}
use Rattle.archive_btree_spelling.proofs.Made.{first_of_all, inner_content, child_content_of}
use Rattle.archive_btree_spelling.proofs.Counted.{entries_counted, first_child, node_counted, branches_counted, child_counted}

-- ---- children that are packed

packed_first : (most n i : ℕ) (u : Value) (us : Values) → ArePacked most n i (more_values u us) → (count_values (members u) ≡ child_items most n i) × ArePacked most n (i + 1) us
packed_first most n i (group vs) us a = a
packed_first most n i (natural m) us a = absurd a
packed_first most n i (integer m) us a = absurd a
packed_first most n i (boolean m) us a = absurd a
packed_first most n i (string m) us a = absurd a
packed_first most n i (chosen m vs) us a = absurd a
packed_first most n i (counted m u) us a = absurd a
packed_first most n i (back m) us a = absurd a

has_first : (u : Value) (us vs : Values) → vs ≡ more_values u us → HasItems vs → 0 < count_values (members u)
has_first u us vs e h = let g : 1 ≤ count_values (members u) = subst HasItems e h in omega (arith, g)

pub entries_in : (bytes : List ℕ) (most : ℕ) (k v : Shape) (n level link key place : ℕ) (bs : Branches Place) → HasBranches bytes most k v n level link key place bs → length (entries_of bs) ≡ n
entries_in bytes most k v n level link key place bs (has_greater z c is) = ap (λ u. length (entries_of u)) is ∙ sym z
entries_in bytes most k v n level link key place bs (has_lesser {m = m} {cs = cs} z c r is) =
    ap (λ u. length (entries_of u)) is ∙ ap suc (entries_in bytes most k v m level (link + 4) (key + size_of k) (place + size_of v) cs r) ∙ sym z

module _ (fit : Fit) (names : Names) (bytes : List ℕ) (most : ℕ) (k v : Shape) where
  -- each part that is reached is as written
  abbrev pub AllAsWritten : Part → Type 0
  AllAsWritten p = All names bytes (λ q. IsAsWritten fit names bytes q) p

  abbrev AllAsWrittenIn : List Part → Type 0
  AllAsWrittenIn ps = AllIn names bytes (λ q. IsAsWritten fit names bytes q) ps

  -- what leads to a node leads to items
  pub led_items : (level pos : ℕ) (t : Tree Place) → HasNode bytes most k v level pos t
      → {depth : ℕ} {inside : List OpenShared} {vs : Values} {rs : List Region} {before after : List Visit}
      → HoldAll names bytes depth inside (node level most k v pos ∷ []) vs rs before after → HasItems vs → 0 < length (items t)
  led_items level pos t n {vs = vs} all has =
      let f = first_of_all names bytes all in
      let count = node_counted names bytes most k v level pos t n f.first in
      let some = has_first f.value f.others vs f.is has in
      omega (arith, count, some)

  written_first : (n level link : ℕ) (es : List Part) → AllAsWrittenIn (children (suc n) level most k v link ++ es) → AllAsWritten (child level most k v link)
  unfolding children
  written_first n level link es all q r = all q (reaches_first r)

  written_rest : (n level link : ℕ) (es : List Part) → AllAsWrittenIn (children (suc n) level most k v link ++ es) → AllAsWrittenIn (children n level most k v (link + 4) ++ es)
  unfolding children
  written_rest n level link es all q r = all q (reaches_later r)

  mutual
    pub node_divided : (level pos : ℕ) (t : Tree Place) → HasNode bytes most k v level pos t → AllAsWritten (node level most k v pos) → 0 < length (items t) → IsDivided most t
    node_divided level pos t (has_leaf {len = len} low room kind word few is) all some =
        let count = length-places len k (pos + keys_offset k) v (pos + values_offset most k v) in
        let many : 0 < length (places len k (pos + keys_offset k) v (pos + values_offset most k v)) = subst (λ u. 0 < length (items u)) is some in
        subst (IsDivided most) (sym is) (many, omega (arith, count, few))
    node_divided level pos t (has_inner {bs = bs} low room kind d is) all some =
        let link = pos + links_offset most k v in
        let key = pos + keys_offset k in
        let place = pos + values_offset most k v in
        let es = entries most k key v place in
        let c = inner_content names bytes most k v level pos low kind in
        let s = (all (node level most k v pos) (reaches_here refl)).claimed_settled _ _ _ c in
        let packed : IsPacked most 1 s.values = subst (λ z. IsPacked most z s.values) (kind_of bytes pos ∙ kind) (node_packed most (slice_index (drop pos bytes) 0) s.values s.settled) in
        let more : most + 1 ≡ suc most = omega arith in
        let inner_packed = subst (λ z. (most < count_values (weave (first_values z s.values) (other_values z s.values))) × ArePacked most (count_values (weave (first_values z s.values) (other_values z s.values))) 0 (first_values z s.values)) more packed in
        let count = branches_counted names bytes most k v most (suc level) link key place bs d es s.hold (other_values (suc most) s.values) (entries_counted names bytes most k v (suc level) link key place s.hold) in
        subst (IsDivided most) (sym is) (
          subst (λ n. most < n) count inner_packed.0,
          entries_in bytes most k v most (suc level) link key place bs d,
          branches_divided most (suc level) link key place bs d es s.hold (λ q r. all q (reaches_claimed c r)) (length (items_of bs)) 0
              (subst (λ n. ArePacked most n 0 (first_values (suc most) s.values)) count inner_packed.1),
        )

    branches_divided : (n level link key place : ℕ) (bs : Branches Place) → HasBranches bytes most k v n level link key place bs → (es : List Part)
        → {depth : ℕ} {inside : List OpenShared} {vs : Values} {rs : List Region} {before after : List Visit}
        → HoldAll names bytes depth inside (children (suc n) level most k v link ++ es) vs rs before after
        → AllAsWrittenIn (children (suc n) level most k v link ++ es)
        → (total i : ℕ) → ArePacked most total i (first_values (suc n) vs)
        → AreDivided most total i bs
    branches_divided n level link key place bs (has_greater {t = t} z c is) es {vs = vs} all written total i a =
        let f = first_child names bytes most k v n level link es all in
        let p = packed_first most total i f.value (first_values n f.others) (subst (λ y. ArePacked most total i (first_values (suc n) y)) f.is a) in
        subst (AreDivided most total i) (sym is) (
          sym (child_counted names bytes most k v level link t c f.first) ∙ p.0,
          child_divided level link t c (written_first n level link es written),
        )
    branches_divided n level link key place bs (has_lesser {m = m} {t = t} {cs = cs} z c r is) es {vs = vs} all written total i a =
        let f = first_child names bytes most k v n level link es all in
        let p = packed_first most total i f.value (first_values n f.others) (subst (λ y. ArePacked most total i (first_values (suc n) y)) f.is a) in
        let next : i + 1 ≡ suc i = omega arith in
        let others : ArePacked most total (suc i) (first_values (suc m) f.others) = subst (λ j. ArePacked most total j (first_values (suc m) f.others)) next (subst (λ j. ArePacked most total (i + 1) (first_values j f.others)) z p.1) in
        let rest = subst (λ j. HoldAll names bytes f.level f.inside (children j level most k v (link + 4) ++ es) f.others f.later f.between f.after) z f.rest in
        let later = subst (λ j. AllAsWrittenIn (children j level most k v (link + 4) ++ es)) z (written_rest n level link es written) in
        subst (AreDivided most total i) (sym is) (
          sym (child_counted names bytes most k v level link t c f.first) ∙ p.0,
          child_divided level link t c (written_first n level link es written),
          branches_divided m level (link + 4) (key + size_of k) (place + size_of v) cs r es rest later total (suc i) others,
        )

    child_divided : (level link : ℕ) (t : Tree Place) → HasChild bytes most k v level link t → AllAsWritten (child level most k v link) → IsDivided most t
    child_divided level link t (no_child a b) all = subst (IsDivided most) (sym b) tt
    child_divided level link t (a_child {pos = pos} a b n) all =
        let c = child_content_of names bytes most k v level link pos t a b n in
        let s = (all (child level most k v link) (reaches_here refl)).plain_settled _ _ c in
        let has : HasItems s.values = items_there s.values s.settled in
        node_divided level pos t n (λ q r. all q (reaches_plain c (reaches_first r))) (led_items level pos t n s.hold has)
