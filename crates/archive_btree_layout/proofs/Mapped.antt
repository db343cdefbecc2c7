-- A map that the layout holds.
use Rattle.std.proofs.Common.{◌≡◌, ◌∙◌, ℕ, ◌+◌, ◌≤◌, Bool, true, false, cond, ◌==◌, List, [], ◌∷◌, length, Option, Some, None, refl, ap, sym, subst, arith, eqb-true, eq-eqb, le_refl}
use Rattle.std.specs.Prelude.{slice_index, AllPairs}
use Rattle.archive_shape_layout.specs.Bytes.{window, word_at, target_from}
use Rattle.archive_shape_layout.specs.Shape.{Shape}
use Rattle.archive_shape_layout.specs.Shape.Shape.{tree}
use Rattle.archive_shape_layout.specs.Value.{Value, Values, count_values}
use Rattle.archive_shape_layout.specs.Value.Value.{group}
use Rattle.archive_shape_layout.specs.Value.Values.{no_values, more_values}
use Rattle.archive_shape_layout.specs.Content.{Names, Part, Label, Content, choose, following, made, members, shape_content}
use Rattle.archive_shape_layout.specs.Content.Part.{at, node}
use Rattle.archive_shape_layout.specs.Content.Label.{whole, total}
use Rattle.archive_shape_layout.specs.Content.Content.{plain}
use Rattle.archive_shape_layout.specs.Holds.{Region, Visit, OpenShared, Holds, HoldAll}
use Rattle.archive_shape_layout.specs.Holds.Holds.{holds_plain, holds_claimed, holds_first, holds_later, holds_back}
use Rattle.archive_shape_layout.specs.Holds.HoldAll.{holds_none, holds_more}
use Rattle.archive_shape_layout.specs.Visited.{AllStand, ClaimedAfter}
use Rattle.archive_shape_layout.proofs.Visited.{stand_same, claimed_front}
use Rattle.archive_btree_layout.specs.Tree.{Tree, items}
use Rattle.archive_btree_layout.specs.Items.{AreAt, ArePairs, IsTreeRead}
use Rattle.archive_btree_layout.specs.Changing.{AreApart, DiffersInValues, HasTree, IsInNoValue, IsKept}
use Rattle.archive_btree_layout.specs.Laws.{TreeIsRead, TreeStays, NodesStay, PairsStay, ValuesApart}
use Rattle.archive_btree_layout.specs.Items.IsTreeRead.{reads_none, reads_tree}
use Rattle.archive_btree_layout.specs.Reading.{Place, HasNode}
use Rattle.archive_btree_layout.proofs.Contents.{IsPlain, chosen_plain}
use Rattle.archive_btree_layout.proofs.Changed.{Agrees}
use Rattle.archive_btree_layout.proofs.Nodes.{SameNodes, nodes_same}
use Rattle.archive_btree_layout.proofs.Unique.{one_node}
use Rattle.archive_btree_layout.proofs.Paired.{whole_is}
use Rattle.archive_btree_layout.proofs.Held.{no_parts, root_read, ReadNode}
use Rattle.archive_shape_layout.proofs.Windows.{word_within}
use Rattle.archive_shape_layout.proofs.SameBytes.{word_same, window_same}

pub pairs_count : (names : Names) (bytes : List ℕ) (k v : Shape) (ps : List Place) (ws : Values) → ArePairs names bytes k v ps ws → length ps ≡ count_values ws
pairs_count names bytes k v [] no_values h = refl
pairs_count names bytes k v [] (more_values w ws) h = absurd h
pairs_count names bytes k v (p ∷ ps) no_values h = absurd h
pairs_count names bytes k v (p ∷ ps) (more_values w ws) h = let e = pairs_count names bytes k v ps ws h.1 in omega arith

followed_total : (o : Option ℕ) (n : ℕ) (f : ℕ → List Part) → IsPlain (following o (λ t. plain (total n) (f t)))
unfolding following
followed_total None n f = tt
followed_total (Some t) n f = tt

-- the total is that of the one part
counted_by : (b : Bool) (u value : Value) → cond b (Some u) None ≡ Some value → (b ≡ true) × (value ≡ u)
counted_by true u value e = (refl, cc)
counted_by false u value e = absurd cc

total_is : (l : Label) (n : ℕ) (u : Value) (vs : Values) (value : Value) → l ≡ total n → vs ≡ more_values u no_values → made l vs ≡ Some value → (count_values (members u) ≡ n) × (value ≡ u)
unfolding made
total_is l n u vs value e f m =
    let x : made (total n) (more_values u no_values) ≡ Some value = subst (λ y. made y (more_values u no_values) ≡ Some value) e (subst (λ y. made l y ≡ Some value) f m) in
    let r = counted_by (count_values (members u) == n) u value x in
    (eqb-true _ n r.0, r.1)

module _ (names : Names) (bytes : List ℕ) (most : ℕ) (k v : Shape) (pos : ℕ) where
  tree_content : List ℕ → Bool → Content
  tree_content own b = choose b (plain whole []) (following (target_from pos (word_at own 0)) (λ t. plain (total (word_at own 4)) (node 1 most k v t ∷ [])))

  len_of : word_at (window bytes pos 8) 4 ≡ word_at bytes (pos + 4)
  len_of = word_within bytes pos 8 4 (omega arith)

  word_first : word_at (window bytes pos 8) 0 ≡ word_at bytes pos
  word_first = let z : pos + 0 ≡ pos = omega arith in subst (λ p. word_at (window bytes pos 8) 0 ≡ word_at bytes p) z (word_within bytes pos 8 0 (omega arith))

  -- what a map's own bytes lead to between two positions
  pub data ReadMap (before : List Visit) (low high : ℕ) (value : Value) : Type 0 where
    map_none : word_at bytes (pos + 4) ≡ 0 → value ≡ group no_values → ReadMap before low high value
    map_some :
        {root : ℕ} {after : List Visit}
        → (word_at bytes (pos + 4) ≡ 0 → ⊥)
        → target_from pos (word_at bytes pos) ≡ Some root
        → ReadNode names bytes most k v before after low high 1 root value
        → count_values (members value) ≡ word_at bytes (pos + 4)
        → ReadMap before low high value

  one_root : {depth : ℕ} {inside : List OpenShared} {root : ℕ} {l : Label} {vs : Values} {value : Value} {rs : List Region} {before after : List Visit} (low high : ℕ)
      → high ≤ length bytes
      → (word_at bytes (pos + 4) ≡ 0 → ⊥) → target_from pos (word_at bytes pos) ≡ Some root
      → l ≡ total (word_at (window bytes pos 8) 4) → made l vs ≡ Some value
      → HoldAll names bytes depth inside (node 1 most k v root ∷ []) vs rs before after
      → ClaimedAfter names bytes before low high rs
      → ReadMap before low high value
  one_root {root = root} {l = l} {vs = ws} {value = value} {before = before} low high top some leads label m (holds_more {v = u} {vs = us} {here = here} {later = later} {regions = rs} h (holds_none x y z) e f) a =
      let r = root_read names bytes most k v _ _ root u here _ _ low high top h (claimed_front later f a) in
      let one : ws ≡ more_values u no_values = cc in
      let t = total_is l (word_at (window bytes pos 8) 4) u ws value label one m in
      subst (ReadMap before low high) (sym t.1) (map_some some leads r (t.0 ∙ len_of))

  led : {depth : ℕ} {inside : List OpenShared} {l : Label} {ps : List Part} {vs : Values} {value : Value} {rs : List Region} {before after : List Visit} (low high : ℕ) (o : Option ℕ)
      → high ≤ length bytes
      → (word_at bytes (pos + 4) ≡ 0 → ⊥) → target_from pos (word_at bytes pos) ≡ o
      → following o (λ t. plain (total (word_at (window bytes pos 8) 4)) (node 1 most k v t ∷ [])) ≡ plain l ps → made l vs ≡ Some value
      → HoldAll names bytes depth inside ps vs rs before after → ClaimedAfter names bytes before low high rs
      → ReadMap before low high value
  unfolding following
  led low high None top some is e m all a = absurd cc
  led {depth} {inside} {l} {ps} {vs} {value} {rs} {before} {after} low high (Some t) top some is e m all a =
      let parts : ps ≡ node 1 most k v t ∷ [] = cc in
      let label : l ≡ total (word_at (window bytes pos 8) 4) = cc in
      one_root low high top some is label m (subst (λ qs. HoldAll names bytes depth inside qs vs rs before after) parts all) a

  by_length : {depth : ℕ} {inside : List OpenShared} {l : Label} {ps : List Part} {vs : Values} {value : Value} {rs : List Region} {before after : List Visit} (low high : ℕ) (b : Bool)
      → high ≤ length bytes
      → (word_at (window bytes pos 8) 4 == 0) ≡ b
      → choose b (plain whole []) (following (target_from pos (word_at (window bytes pos 8) 0)) (λ t. plain (total (word_at (window bytes pos 8) 4)) (node 1 most k v t ∷ []))) ≡ plain l ps
      → made l vs ≡ Some value
      → HoldAll names bytes depth inside ps vs rs before after → ClaimedAfter names bytes before low high rs
      → ReadMap before low high value
  unfolding choose
  by_length {depth} {inside} {l} {ps} {vs} {value} {rs} {before} {after} low high true top is e m all a =
      let parts : ps ≡ [] = cc in
      let label : l ≡ whole = cc in
      let none = no_parts names bytes most k v (subst (λ qs. HoldAll names bytes depth inside qs vs rs before after) parts all) in
      map_none (sym len_of ∙ eqb-true _ 0 is) (whole_is names bytes k v l vs value label m ∙ ap group none.0)
  by_length low high false top is e m all a =
      led low high (target_from pos (word_at (window bytes pos 8) 0)) top (λ w. let t = eq-eqb (word_at (window bytes pos 8) 4) 0 (len_of ∙ w) in absurd cc) (ap (target_from pos) (sym word_first)) e m all a

  tree_is_plain : IsPlain (shape_content names pos (window bytes pos 8) (tree most k v))
  unfolding shape_content
  tree_is_plain = chosen_plain _ _ _ _ (followed_total _ _ _)

-- where the layout has a map, its tree is read
map_read :
    (names : Names) (bytes : List ℕ) (most : ℕ) (k v : Shape) (depth : ℕ) (inside : List OpenShared) (pos : ℕ) (value : Value) (rs : List Region) (before after : List Visit) (low high : ℕ)
    → high ≤ length bytes
    → Holds names bytes depth inside (at pos (tree most k v)) value rs before after → ClaimedAfter names bytes before low high rs
    → ReadMap names bytes most k v pos before low high value
unfolding shape_content
map_read names bytes most k v depth inside pos value rs before after low high top (holds_plain e legal all m) a =
    by_length names bytes most k v pos low high (word_at (window bytes pos 8) 4 == 0) top refl e m all a
map_read names bytes most k v depth inside pos value rs before after low high top (holds_claimed e legal all m r) a = absurd (subst IsPlain e (tree_is_plain names bytes most k v pos))
map_read names bytes most k v depth inside pos value rs before after low high top (holds_first e b c d f g) a = absurd (subst IsPlain e (tree_is_plain names bytes most k v pos))
map_read names bytes most k v depth inside pos value rs before after low high top (holds_later e b c d f g) a = absurd (subst IsPlain e (tree_is_plain names bytes most k v pos))
map_read names bytes most k v depth inside pos value rs before after low high top (holds_back e b c d f) a = absurd (subst IsPlain e (tree_is_plain names bytes most k v pos))

tree_of : (names : Names) (bytes : List ℕ) (most : ℕ) (k v : Shape) (pos : ℕ) (value : Value) (before : List Visit) (low high : ℕ) → ReadMap names bytes most k v pos before low high value → IsTreeRead names bytes most k v pos value
tree_of names bytes most k v pos value before low high (map_none none is) = reads_none none is
tree_of names bytes most k v pos value before low high (map_some some leads r count) =
    reads_tree some leads r.node (pairs_count names bytes k v (items r.tree) (members value) r.pairs ∙ count) r.pairs

pub tree_is_read : TreeIsRead
tree_is_read names bytes most k v depth inside pos value rs before after low h a =
    tree_of names bytes most k v pos value before low (length bytes) (map_read names bytes most k v depth inside pos value rs before after low (length bytes) (le_refl (length bytes)) h a)

-- ---- where its values are written over

-- the one tree of the root, in bytes that differ in its values
root_kept :
    (names : Names) (bytes others : List ℕ) (most : ℕ) (k v : Shape) (pos : ℕ) (value : Value) (before : List Visit) (low root : ℕ) (t : Tree Place)
    → ReadMap names bytes most k v pos before low pos value
    → AllStand names bytes low before
    → low ≤ pos
    → pos + 8 ≤ length bytes
    → (word_at bytes (pos + 4) ≡ 0 → ⊥) → target_from pos (word_at bytes pos) ≡ Some root → HasNode bytes most k v 1 root t
    → DiffersInValues v (items t) bytes others
    → HasTree bytes others most k v pos root t × AreAt (IsKept names bytes others k v) (items t) (members value) × SameNodes bytes others most k v 1 root
root_kept names bytes others most k v pos value before low root t (map_none none is) stand begins room some leads stood differs = absurd (some none)
root_kept names bytes others most k v pos value before low root t (map_some {root = p} _ leads_there r count) stand begins room some leads stood differs =
    let here : p ≡ root = cc in
    let stands = subst (λ q. HasNode bytes most k v 1 q r.tree) here r.node in
    let one : r.tree ≡ t = one_node bytes most k v 1 root r.tree t stands stood in
    let same_length = differs.same_length in
    let agrees : Agrees v (items r.tree) bytes others low pos =
    record { same_length = same_length; same = λ i le lt out. differs.elsewhere i (subst (λ u. IsInNoValue v (items u) i) one out) }
    in
    let outside : (i : ℕ) → (low ≤ i → pos ≤ i) → slice_index others i ≡ slice_index bytes i =
    λ i out. differs.elsewhere i (subst (λ u. IsInNoValue v (items u) i) one (r.within i out))
    in
    let stand_there : AllStand names others low before =
    stand_same (λ start size within. window_same bytes others start size (omega arith) (omega arith) (λ i le lt. outside i (λ up. absurd (omega arith)))) stand
    in
    let x = r.kept others stand_there agrees in (
      record {
        pointer = word_same bytes others pos (λ i le lt. outside i (λ up. le));
        len = word_same bytes others (pos + 4) (λ i le lt. outside i (λ up. omega arith));
        node = subst (λ q. HasNode others most k v 1 q t) here (subst (HasNode others most k v 1 p) one x.0);
      },
      subst (λ u. AreAt (IsKept names bytes others k v) (items u) (members value)) one x.1,
      subst (SameNodes bytes others most k v 1) here x.2,
    )

-- of a map that is held
module _ (names : Names) (bytes others : List ℕ) (most : ℕ) (k v : Shape) (depth : ℕ) (inside : List OpenShared) (pos : ℕ) (value : Value)
    (regions : List Region) (before after : List Visit) (low root : ℕ) (t : Tree Place)
    (h : Holds names bytes depth inside (at pos (tree most k v)) value regions before after) (a : ClaimedAfter names bytes before low pos regions)
    (room : pos + 8 ≤ length bytes) where
  map_kept :
      (word_at bytes (pos + 4) ≡ 0 → ⊥) → target_from pos (word_at bytes pos) ≡ Some root → HasNode bytes most k v 1 root t
      → DiffersInValues v (items t) bytes others
      → HasTree bytes others most k v pos root t × AreAt (IsKept names bytes others k v) (items t) (members value) × SameNodes bytes others most k v 1 root
  map_kept =
      root_kept names bytes others most k v pos value before low root t
      (map_read names bytes most k v depth inside pos value regions before after low pos (omega arith) h a) a.stand a.below room

pub tree_stays : TreeStays
tree_stays names bytes others most k v depth inside pos value rs before after low root t h a room some leads stood differs =
    (map_kept names bytes others most k v depth inside pos value rs before after low root t h a room some leads stood differs).0

pub pairs_stay : PairsStay
pairs_stay names bytes others most k v depth inside pos value rs before after low root t h a room some leads stood differs =
    (map_kept names bytes others most k v depth inside pos value rs before after low root t h a room some leads stood differs).1

pub nodes_stay : NodesStay
nodes_stay names bytes others most k v depth inside pos value rs before after low root t h a room some leads stood differs =
    nodes_same most k v bytes others 1 root (map_kept names bytes others most k v depth inside pos value rs before after low root t h a room some leads stood differs).2

-- ---- its values

values_of : (names : Names) (bytes : List ℕ) (most : ℕ) (k v : Shape) (pos : ℕ) (value : Value) (before : List Visit) (low root : ℕ) (t : Tree Place) → ReadMap names bytes most k v pos before low pos value
    → (word_at bytes (pos + 4) ≡ 0 → ⊥) → target_from pos (word_at bytes pos) ≡ Some root → HasNode bytes most k v 1 root t
    → AllPairs (AreApart v) (items t)
values_of names bytes most k v pos value before low root t (map_none none is) some leads stood = absurd (some none)
values_of names bytes most k v pos value before low root t (map_some {root = p} _ leads_there r count) some leads stood =
    let here : p ≡ root = cc in
    let stands = subst (λ q. HasNode bytes most k v 1 q r.tree) here r.node in
    subst (λ u. AllPairs (AreApart v) (items u)) (one_node bytes most k v 1 root r.tree t stands stood) r.apart

pub values_apart : ValuesApart
values_apart names bytes most k v depth inside pos value rs before after low root t h a room some leads stood =
    values_of names bytes most k v pos value before low root t (map_read names bytes most k v depth inside pos value rs before after low pos (omega arith) h a) some leads stood
