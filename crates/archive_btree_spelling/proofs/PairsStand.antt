-- The value of a pair of a search tree lies at a position, that of the item with the pair's number, and the way to it
-- from the map leads to no key.
use Rattle.std.proofs.Common.{◌≡◌, ◌∙◌, ℕ, zero, suc, ◌+◌, ◌-◌, ◌<◌, nat_lt, cond, ◌==◌, Bool, true, false, List, [], ◌∷◌, ◌++◌, drop, slice_index, Option, Some, None, ◌⊎◌, inl, inr, ⊎_elim, refl, ap, sym, subst, arith}
use Rattle.std.specs.Prelude.{⊤}
use Rattle.std.proofs.lemmas.Bool.{lt-ltb, le-ltb}
use Rattle.archive_shape_layout.specs.Bytes.{window, word_at, target_from}
use Rattle.archive_shape_layout.specs.Shape.{Shape, Pointee, size_of}
use Rattle.archive_shape_layout.specs.Shape.Shape.{tree}
use Rattle.archive_shape_layout.specs.Value.{Value, Values, append_values, count_values}
use Rattle.archive_shape_layout.specs.Value.Value.{group}
use Rattle.archive_shape_layout.specs.Value.Values.{no_values, more_values}
use Rattle.archive_shape_layout.specs.Content.{Names, Part, Span, Label, content_of, shape_content, node_content, child_content, choose, following, made, members, weave, first_values, other_values, children, entries, keys_offset, values_offset, links_offset}
use Rattle.archive_shape_layout.specs.Content.Part.{at, node, child, entry}
use Rattle.archive_shape_layout.specs.Content.Label.{same, whole, woven, total}
use Rattle.archive_shape_layout.specs.Content.Content.{illegal, plain, claimed, counting}
use Rattle.archive_shape_layout.specs.Holds.{Region, Visit, OpenShared, Holds, HoldAll}
use Rattle.archive_shape_layout.specs.Holds.Holds.{holds_plain, holds_claimed, holds_first, holds_later, holds_back}
use Rattle.archive_shape_layout.specs.Holds.HoldAll.{holds_none, holds_more}
use Rattle.archive_shape_layout.specs.Path.{value_in, child_place, entry_place, beyond, in_child, in_entry, through, StandsIn}
use Rattle.archive_shape_layout.specs.Path.Stands.{stands_plain, stands_claimed}
use Rattle.archive_shape_layout.specs.Path.StandsIn.{stands_first, stands_later}
use Rattle.archive_shape_canonical.specs.Laws.{AvoidsItemKey, AvoidsKey, AvoidKeys, AvoidingStands}
use Rattle.archive_btree_layout.specs.Tree.{Tree, items}
use Rattle.archive_btree_layout.specs.Reading.{Place, HasNode, HasChild}
use Rattle.archive_shape_layout.proofs.Paths.{below_count}
use Rattle.archive_btree_layout.proofs.Contents.{IsPlain, IsClaimed, node_is_claimed, child_is_plain, pick}
use Rattle.archive_btree_layout.proofs.Paired.{whole_is}
use Rattle.archive_btree_layout.proofs.Held.{woven_is}
use Rattle.archive_btree_spelling.specs.PackingMaps.{HasTree}
use Rattle.archive_btree_spelling.proofs.ItemPlaces.{IsNth, HasItem, AreCounted, are_counted, part_behind, NodeRead, item_of_leaf, item_of_child, item_of_entry, node_read, child_read, root_read}

-- the value of pair i of a map lies at a position, and the way to it from the map leads to no key
pub record PairStands (names : Names) (bytes : List ℕ) (most : ℕ) (k v : Shape) (level : ℕ) (around : List OpenShared) (before : List Visit) (pos : ℕ) (w : Value) (i : ℕ) (y : Value) : Type 0 where
  pub deeper : ℕ
  pub value_pos : ℕ
  pub regions : List Region
  pub since : List Visit
  pub until : List Visit
  pub holds : Holds names bytes deeper around (at value_pos v) y regions since until
  -- what stands in the value stands in the map, behind the pair's number and 1
  pub stands : (r : Part) (u : Value) (path : List ℕ) → AvoidingStands names bytes r u deeper around since (at value_pos v) y path
      → AvoidingStands names bytes r u level around before (at pos (tree most k v)) w (i ∷ (1 ∷ path))
  -- in each tree that the map's bytes have, it is the value of the item with the pair's number
  pub item : (root : ℕ) (t : Tree Place) → (word_at bytes (pos + 4) ≡ 0 → ⊥) → target_from pos (word_at bytes pos) ≡ Some root → HasNode bytes most k v 1 root t → HasItem (items t) i value_pos

-- ---- the items of children and entries in turn

-- a value among the first n, and one among those after them
first_in : (n i : ℕ) (vs : Values) (u : Value) → value_in i (first_values n vs) ≡ Some u → (i < n) × (value_in i vs ≡ Some u)
first_in zero i vs u e = absurd (cc)
first_in (suc n) i no_values u e = absurd (cc)
first_in (suc n) zero (more_values v vs) u e = (omega arith, e)
first_in (suc n) (suc i) (more_values v vs) u e = let r = first_in n i vs u e in let below = r.0 in (omega arith, r.1)

other_in : (n i : ℕ) (vs : Values) (u : Value) → value_in i (other_values n vs) ≡ Some u → value_in (n + i) vs ≡ Some u
other_in zero i vs u e = let z : 0 + i ≡ i = omega arith in ap (λ m. value_in m vs) z ∙ e
other_in (suc n) i no_values u e = absurd (cc)
other_in (suc n) i (more_values v vs) u e =
    let s : suc n + i ≡ suc (n + i) = omega arith in ap (λ m. value_in m (more_values v vs)) s ∙ other_in n i vs u e

-- item i of two lists is in the second
abbrev IsFurther : Values → Values → ℕ → Value → Type 0
IsFurther xs ys i u = (j : ℕ) × (i ≡ count_values xs + j) × (value_in j ys ≡ Some u)

-- it is in the first or in the second
either_in : (i : ℕ) (xs ys : Values) (u : Value) → value_in i (append_values xs ys) ≡ Some u → (value_in i xs ≡ Some u) ⊎ IsFurther xs ys i u
either_in i no_values ys u e = inr (i, omega arith, e)
either_in zero (more_values x xs) ys u e = inl e
either_in (suc i) (more_values x xs) ys u e =
    ⊎_elim (λ h. inl h) (λ h. inr (h.0, (let sum = h.1 in omega arith), h.2)) (either_in i xs ys u e)

-- item i of children and entries in turn is an item of a child, or an entry
data WovenItem (cs es : Values) (i : ℕ) (u : Value) : Type 0 where
  of_child : (j n m : ℕ) (c : Value) → value_in j cs ≡ Some c → child_place j cs es ≡ Some n → value_in m (members c) ≡ Some u → n + m ≡ i → WovenItem cs es i u
  of_entry : (j : ℕ) → value_in j es ≡ Some u → entry_place j cs es ≡ Some i → WovenItem cs es i u

-- what has items is a group
first_place : (m : ℕ) (c u : Value) (cs es : Values) → value_in m (members c) ≡ Some u → child_place zero (more_values c cs) es ≡ Some 0
first_place m (group vs) u cs es e = refl
first_place m c u cs es e = absurd (cc)

-- likewise after one more child and one more entry
woven_later : (c d : Value) (cs es : Values) (i j : ℕ) (u : Value) → i ≡ count_values (members c) + suc j → WovenItem cs es j u → WovenItem (more_values c cs) (more_values d es) i u
woven_later c d cs es i j u further (of_child k n m b is place there sum) =
    of_child (suc k) ((count_values (members c) + 1) + n) m b is (ap (beyond (count_values (members c) + 1)) place) there (omega arith)
woven_later c d cs es i j u further (of_entry k is place) =
    let sum : (count_values (members c) + 1) + j ≡ i = omega arith in
    of_entry (suc k) is (ap (beyond (count_values (members c) + 1)) place ∙ ap Some sum)

woven_item : (cs es : Values) (i : ℕ) (u : Value) → value_in i (weave cs es) ≡ Some u → WovenItem cs es i u
woven_item no_values es i u e = of_entry i e refl
woven_item (more_values c cs) no_values i u e = of_child 0 0 i c refl (first_place i c u cs no_values e) e (omega arith)
woven_item (more_values c cs) (more_values d es) i u e =
    ⊎_elim
    (λ h. of_child 0 0 i c refl (first_place i c u cs (more_values d es) h) h (omega arith))
    (λ h. further h.0 h.1 h.2 (λ j there. woven_item cs es j u there))
    (either_in i (members c) (more_values d (weave cs es)) u e)
  where
    further : (j : ℕ) → i ≡ count_values (members c) + j → value_in j (more_values d (weave cs es)) ≡ Some u
        → ((k : ℕ) → value_in k (weave cs es) ≡ Some u → WovenItem cs es k u) → WovenItem (more_values c cs) (more_values d es) i u
    further zero last h rest = let sum : count_values (members c) ≡ i = omega arith in of_entry 0 h (ap Some sum)
    further (suc j) last h rest = woven_later c d cs es i j u last (rest j h)

-- the way into an item of child j, and into entry j, begins with the item's number
through_child : (l : Label) (vs : Values) (n j first m i : ℕ) (path : List ℕ) → l ≡ woven n → j < n → child_place j (first_values n vs) (other_values n vs) ≡ Some first → first + m ≡ i
    → through l vs j (m ∷ path) ≡ Some (i ∷ path)
through_child l vs n j first m i path label below place sum =
    ap (λ z. through z vs j (m ∷ path)) label
    ∙ ap (λ b. cond b (in_child (child_place j (first_values n vs) (other_values n vs)) (m ∷ path)) (in_entry (entry_place (j - n) (first_values n vs) (other_values n vs)) (m ∷ path))) (lt-ltb j n below)
    ∙ ap (λ o. in_child o (m ∷ path)) place
    ∙ ap (λ z. Some (z ∷ path)) sum

through_entry : (l : Label) (vs : Values) (n j i : ℕ) (path : List ℕ) → l ≡ woven n → entry_place j (first_values n vs) (other_values n vs) ≡ Some i → through l vs (n + j) path ≡ Some (i ∷ path)
through_entry l vs n j i path label place =
    let last : nat_lt (n + j) n ≡ false = le-ltb (n + j) n (omega arith) in
    let back : (n + j) - n ≡ j = omega arith in
    ap (λ z. through z vs (n + j) path) label
    ∙ ap (λ b. cond b (in_child (child_place (n + j) (first_values n vs) (other_values n vs)) path) (in_entry (entry_place ((n + j) - n) (first_values n vs) (other_values n vs)) path)) last
    ∙ ap (λ z. in_entry (entry_place z (first_values n vs) (other_values n vs)) path) back
    ∙ ap (λ o. in_entry o path) place

-- ---- the parts of nodes, of pointers to nodes and of maps

-- a part with one of these labels has one value, and passes it on
values_of_same : (vs : Values) (w : Value) → made same vs ≡ Some w → vs ≡ more_values w no_values
unfolding made
values_of_same no_values w e = absurd (cc)
values_of_same (more_values u no_values) w e = cc
values_of_same (more_values u (more_values x us)) w e = absurd (cc)

one_value : (b : Bool) (u w : Value) → cond b (Some u) None ≡ Some w → u ≡ w
one_value true u w e = cc
one_value false u w e = absurd (cc)

values_of_total : (n : ℕ) (vs : Values) (w : Value) → made (total n) vs ≡ Some w → vs ≡ more_values w no_values
unfolding made
values_of_total n no_values w e = absurd (cc)
values_of_total n (more_values u no_values) w e = ap (λ x. more_values x no_values) (one_value (count_values (members u) == n) u w e)
values_of_total n (more_values u (more_values x us)) w e = absurd (cc)

module _ (most : ℕ) (k v : Shape) where
  -- the first n parts of an inner node are its children, and those after them its entries
  child_part : (n level link : ℕ) (es : List Part) (j : ℕ) (q : Part) → j < n → IsNth j (children n level most k v link ++ es) q → (pos : ℕ) × (child level most k v pos ≡ q)
  unfolding children
  child_part zero level link es j q below h = absurd (omega arith)
  child_part (suc n) level link es zero q below h = (link, h)
  child_part (suc n) level link es (suc j) q below h = child_part n level (link + 4) es j q (omega arith) h

  entry_part : (n key place j : ℕ) (q : Part) → IsNth j (entries n k key v place) q → (key_pos : ℕ) × (value_pos : ℕ) × (entry k key_pos v value_pos ≡ q)
  unfolding entries
  entry_part zero key place j q h = absurd h
  entry_part (suc n) key place zero q h = (key, place, h)
  entry_part (suc n) key place (suc j) q h = entry_part n (key + size_of k) (place + size_of v) j q h

  -- the parts of a leaf, and of an inner node
  data NodeParts (l : Label) (ps : List Part) : Type 0 where
    leaf_parts : (n key place : ℕ) → l ≡ whole → ps ≡ entries n k key v place → NodeParts l ps
    inner_parts : (n level link m key place : ℕ) → l ≡ woven n → ps ≡ children n level most k v link ++ entries m k key v place → NodeParts l ps

  node_parts : {s : Span} {l : Label} {ps : List Part} (level pos kind : ℕ) (own : List ℕ) → node_content level most k v pos kind own ≡ claimed s l ps → NodeParts l ps
  unfolding node_content
  node_parts level pos zero own e = let f = (pick _ _ e).1 in leaf_parts (word_at own (links_offset most k v)) (pos + keys_offset k) (pos + values_offset most k v) (cc) (cc)
  node_parts level pos (suc zero) own e = let f = (pick _ _ e).1 in inner_parts (most + 1) (level + 1) (pos + links_offset most k v) most (pos + keys_offset k) (pos + values_offset most k v) (cc) (cc)
  node_parts level pos (suc (suc kind)) own e = absurd cc

  -- no part, or one node, whose value is passed on
  data OneNode (l : Label) (ps : List Part) : Type 0 where
    no_node : l ≡ whole → ps ≡ [] → OneNode l ps
    one_node :
        {level pos : ℕ}
        → ps ≡ node level most k v pos ∷ []
        → ((vs : Values) (w : Value) → made l vs ≡ Some w → vs ≡ more_values w no_values)
        → ((vs : Values) (i : ℕ) (path : List ℕ) → through l vs 0 (i ∷ path) ≡ Some (i ∷ path))
        → OneNode l ps

  same_node : {l : Label} {ps : List Part} (level pos : ℕ) → l ≡ same → ps ≡ node level most k v pos ∷ [] → OneNode l ps
  same_node level pos label parts =
      one_node parts (λ vs w m. values_of_same vs w (subst (λ x. made x vs ≡ Some w) label m)) (λ vs i path. ap (λ x. through x vs 0 (i ∷ path)) label)

  total_node : {l : Label} {ps : List Part} (n level pos : ℕ) → l ≡ total n → ps ≡ node level most k v pos ∷ [] → OneNode l ps
  total_node n level pos label parts =
      one_node parts (λ vs w m. values_of_total n vs w (subst (λ x. made x vs ≡ Some w) label m)) (λ vs i path. ap (λ x. through x vs 0 (i ∷ path)) label)

  child_parts : {l : Label} {ps : List Part} (level : ℕ) (absent : Bool) (to : Option ℕ) (low : Bool)
      → choose absent (plain whole []) (choose low (following to (λ t. plain same (node level most k v t ∷ []))) illegal) ≡ plain l ps → OneNode l ps
  unfolding choose following
  child_parts level true to low e = no_node (cc) (cc)
  child_parts level false None true e = absurd cc
  child_parts {l = l} {ps = ps} level false (Some t) true e = same_node {l = l} {ps = ps} level t (cc) (cc)
  child_parts level false to false e = absurd cc

  tree_parts : {l : Label} {ps : List Part} (empty : Bool) (to : Option ℕ) (n : ℕ) → choose empty (plain whole []) (following to (λ t. plain (total n) (node 1 most k v t ∷ []))) ≡ plain l ps → OneNode l ps
  unfolding choose following
  tree_parts true to n e = no_node (cc) (cc)
  tree_parts false None n e = absurd cc
  tree_parts {l = l} {ps = ps} false (Some t) n e = total_node {l = l} {ps = ps} n 1 t (cc) (cc)

  tree_plain : (empty : Bool) (to : Option ℕ) (n : ℕ) → IsPlain (choose empty (plain whole []) (following to (λ t. plain (total n) (node 1 most k v t ∷ []))))
  unfolding choose following
  tree_plain true to n = tt
  tree_plain false None n = tt
  tree_plain false (Some t) n = tt

-- ---- what stands below

module _ (names : Names) (bytes : List ℕ) where
  -- in part i of a list of parts, at a path that leads to no key
  record AvoidingStandsIn (q : Part) (w : Value) (level : ℕ) (around : List OpenShared) (before : List Visit) (ps : List Part) (vs : Values) (i : ℕ) (path : List ℕ) : Type 0 where
    stands : StandsIn names bytes q w level around before ps vs i path
    spares : AvoidKeys stands

  -- a value of the shape lies at a position of which something is known, and what stands in it stands in the part, at the
  -- path behind a front
  record LiesBehind (Known : ℕ → Type 0) (v : Shape) (level : ℕ) (around : List OpenShared) (before : List Visit) (p : Part) (w : Value) (front : List ℕ) (y : Value) : Type 0 where
    deeper : ℕ
    value_pos : ℕ
    regions : List Region
    since : List Visit
    until : List Visit
    holds : Holds names bytes deeper around (at value_pos v) y regions since until
    stands : (r : Part) (u : Value) (path : List ℕ) → AvoidingStands names bytes r u deeper around since (at value_pos v) y path
        → AvoidingStands names bytes r u level around before p w (front ++ path)
    known : Known value_pos

  -- so does the value of each pair, behind its number and 1, and in each tree that the part has, it is that of the item
  -- with the number
  abbrev PairsLie : (Tree Place → Type 0) → Shape → ℕ → List OpenShared → List Visit → Part → Value → Type 0
  PairsLie Has v level around before p w =
      (i : ℕ) (x y : Value) → value_in i (members w) ≡ Some (group (more_values x (more_values y no_values)))
      → LiesBehind (λ value_pos. (t : Tree Place) → Has t → HasItem (items t) i value_pos) v level around before p w (i ∷ (1 ∷ [])) y

  -- so do those of a node and of a pointer to a child, and so does the value of an entry, behind 1
  abbrev PairsLieBelow : ℕ → List OpenShared → List Visit → Part → Value → Type 0
  PairsLieBelow level around before (node deep most k v pos) w = PairsLie (HasNode bytes most k v deep pos) v level around before (node deep most k v pos) w
  PairsLieBelow level around before (child deep most k v pos) w = PairsLie (HasChild bytes most k v deep pos) v level around before (child deep most k v pos) w
  PairsLieBelow level around before (entry k key_pos v value_pos) w =
      (x y : Value) → w ≡ group (more_values x (more_values y no_values)) → LiesBehind (λ at_value. value_pos ≡ at_value) v level around before (entry k key_pos v value_pos) w (1 ∷ []) y
  PairsLieBelow level around before p w = ⊤

  -- the part q is part i of those that hold, with the value u
  record IsHeldIn (level : ℕ) (around : List OpenShared) (before : List Visit) (ps : List Part) (vs : Values) (i : ℕ) (q : Part) (u : Value) : Type 0 where
    regions : List Region
    since : List Visit
    until : List Visit
    holds : Holds names bytes level around q u regions since until
    within : (r : Part) (t : Value) (path : List ℕ) → AvoidingStands names bytes r t level around since q u path → AvoidingStandsIn r t level around before ps vs i path
    below : PairsLieBelow level around since q u

  -- each value is that of a part
  abbrev AreHeldIn : ℕ → List OpenShared → List Visit → List Part → Values → Type 0
  AreHeldIn level around before ps vs = (i : ℕ) (u : Value) → value_in i vs ≡ Some u → (q : Part) × IsNth i ps q × IsHeldIn level around before ps vs i q u

  -- a value in part i lies in the part that has it, where the way through is known and spares keys
  plain_lies :
      {Below Known : ℕ → Type 0} {v : Shape} {level : ℕ} {around : List OpenShared} {before : List Visit} {p q : Part} {w u y : Value} {l : Label} {ps : List Part} {vs : Values} {i : ℕ} {front path : List ℕ}
      → content_of names bytes p ≡ plain l ps
      → made l vs ≡ Some w
      → (h : IsHeldIn level around before ps vs i q u)
      → LiesBehind Below v level around h.since q u front y
      → ((value_pos : ℕ) → Below value_pos → Known value_pos)
      → ((more : List ℕ) → through l vs i (front ++ more) ≡ Some (path ++ more))
      → ((more : List ℕ) → AvoidsKey p ps (front ++ more))
      → LiesBehind Known v level around before p w path y
  plain_lies {front = front} e m h b knows through spares = record {
    deeper = b.deeper;
    value_pos = b.value_pos;
    regions = b.regions;
    since = b.since;
    until = b.until;
    holds = b.holds;
    stands = λ r t more s. let d = h.within r t (front ++ more) (b.stands r t more s) in record { stands = stands_plain e d.stands m (through more); spares = (spares more, d.spares) };
    known = knows b.value_pos b.known;
  }

  claimed_lies :
      {Below Known : ℕ → Type 0} {v : Shape} {level : ℕ} {around : List OpenShared} {before : List Visit} {p q : Part} {w u y : Value} {s : Span} {l : Label} {ps : List Part} {vs : Values} {i : ℕ} {front path : List ℕ}
      → content_of names bytes p ≡ claimed s l ps
      → made l vs ≡ Some w
      → (h : IsHeldIn (suc level) around before ps vs i q u)
      → LiesBehind Below v (suc level) around h.since q u front y
      → ((value_pos : ℕ) → Below value_pos → Known value_pos)
      → ((more : List ℕ) → through l vs i (front ++ more) ≡ Some (path ++ more))
      → ((more : List ℕ) → AvoidsKey p ps (front ++ more))
      → LiesBehind Known v level around before p w path y
  claimed_lies {front = front} e m h b knows through spares = record {
    deeper = b.deeper;
    value_pos = b.value_pos;
    regions = b.regions;
    since = b.since;
    until = b.until;
    holds = b.holds;
    stands = λ r t more s. let d = h.within r t (front ++ more) (b.stands r t more s) in record { stands = stands_claimed e d.stands m (through more); spares = (spares more, d.spares) };
    known = knows b.value_pos b.known;
  }

  -- the value of an entry
  entry_lies :
      {level : ℕ} {around : List OpenShared} {before : List Visit} {w : Value} {l : Label} {ps : List Part} {vs : Values} (k : Shape) (key_pos : ℕ) (v : Shape) (value_pos : ℕ)
      → content_of names bytes (entry k key_pos v value_pos) ≡ plain l ps
      → made l vs ≡ Some w
      → AreHeldIn level around before ps vs
      → PairsLieBelow level around before (entry k key_pos v value_pos) w
  entry_lies {level = level} {around = around} {before = before} {w = w} {l = l} {ps = ps} {vs = vs} k key_pos v value_pos e m held x y is =
      let label : l ≡ whole = cc in
      let parts : ps ≡ at key_pos k ∷ (at value_pos v ∷ []) = cc in
      let all = whole_is names bytes k v l vs w label m in
      let values : vs ≡ more_values x (more_values y no_values) = cc in
      let found = held 1 y (ap (value_in 1) values) in
      let part : at value_pos v ≡ found.0 = subst (λ z. IsNth 1 z found.0) parts found.1 in
      let one : IsHeldIn level around before ps vs 1 (at value_pos v) y = subst (λ z. IsHeldIn level around before ps vs 1 z y) (sym part) found.2 in
      let here : LiesBehind (λ at_value. value_pos ≡ at_value) v level around one.since (at value_pos v) y [] y =
      record { deeper = level; value_pos = value_pos; regions = one.regions; since = one.since; until = one.until; holds = one.holds; stands = λ r t path s. s; known = refl }
      in
      plain_lies e m one here (λ at_value is. is) (λ more. ap (λ z. through z vs 1 more) label) (λ more. tt)

  -- the values of the pairs below a pointer or a map
  one_lies :
      {Has : Tree Place → Type 0} {level : ℕ} {around : List OpenShared} {before : List Visit} {p : Part} {w : Value} {l : Label} {ps : List Part} {vs : Values} (most : ℕ) (k v : Shape)
      → OneNode most k v l ps
      → content_of names bytes p ≡ plain l ps
      → made l vs ≡ Some w
      → AreHeldIn level around before ps vs
      → ((path : List ℕ) → AvoidsItemKey ps path → AvoidsKey p ps path)
      → ((t : Tree Place) (deep root : ℕ) → ps ≡ node deep most k v root ∷ [] → Has t → HasNode bytes most k v deep root t)
      → PairsLie Has v level around before p w
  one_lies {w = w} {l = l} {vs = vs} most k v (no_node label parts) e m held spares reads i x y there =
      let all = whole_is names bytes k v l vs w label m in
      let found = held i (group (more_values x (more_values y no_values))) (ap (λ z. value_in i (members z)) (sym all) ∙ there) in
      absurd (subst (λ z. IsNth i z found.0) parts found.1)
  one_lies {level = level} {around = around} {before = before} {w = w} {ps = ps} {vs = vs} most k v (one_node {level = deep} {pos = pos} parts values passes) e m held spares reads i x y there =
      let found = held 0 w (ap (value_in 0) (values vs w m)) in
      let part : node deep most k v pos ≡ found.0 = subst (λ z. IsNth 0 z found.0) parts found.1 in
      let one : IsHeldIn level around before ps vs 0 (node deep most k v pos) w = subst (λ z. IsHeldIn level around before ps vs 0 z w) (sym part) found.2 in
      plain_lies e m one (one.below i x y there) (λ value_pos below t has. below t (reads t deep pos parts has)) (λ more. passes vs i (1 ∷ more)) (λ more. spares (i ∷ (1 ∷ more)) (subst (λ z. AvoidsItemKey z (i ∷ (1 ∷ more))) (sym parts) tt))

  -- the values of the pairs of a node
  node_lies :
      {Has : Tree Place → Type 0} {level : ℕ} {around : List OpenShared} {before : List Visit} {p : Part} {w : Value} {s : Span} {l : Label} {ps : List Part} {vs : Values} (most : ℕ) (k v : Shape)
      → NodeParts most k v l ps
      → content_of names bytes p ≡ claimed s l ps
      → made l vs ≡ Some w
      → AreHeldIn (suc level) around before ps vs
      → ((i : ℕ) (path : List ℕ) → AvoidsKey p ps (i ∷ path))
      → AreCounted bytes ps vs
      → ((t : Tree Place) → Has t → NodeRead bytes most k v l ps t)
      → PairsLie Has v level around before p w
  node_lies {level = level} {around = around} {before = before} {w = w} {l = l} {ps = ps} {vs = vs} most k v (leaf_parts n key place label parts) e m held spares counted reads i x y there =
      let pair = group (more_values x (more_values y no_values)) in
      let all = whole_is names bytes k v l vs w label m in
      let found = held i pair (ap (λ z. value_in i (members z)) (sym all) ∙ there) in
      let part = entry_part most k v n key place i found.0 (subst (λ z. IsNth i z found.0) parts found.1) in
      let one : IsHeldIn (suc level) around before ps vs i (entry k part.0 v part.1) pair = subst (λ z. IsHeldIn (suc level) around before ps vs i z pair) (sym part.2) found.2 in
      claimed_lies e m one (one.below x y refl)
      (λ value_pos is t has. subst (HasItem (items t) i) is (item_of_leaf bytes most k v l i part.0 part.1 (reads t has) label (subst (IsNth i ps) (sym part.2) found.1)))
      (λ more. ap (λ z. through z vs i (1 ∷ more)) label) (λ more. spares 1 more)
  node_lies {Has = Has} {level = level} {around = around} {before = before} {p = p} {w = w} {l = l} {ps = ps} {vs = vs} most k v (inner_parts n deep link count key place label parts) e m held spares counted reads i x y there =
      by_item (woven_item (first_values n vs) (other_values n vs) i pair (ap (λ z. value_in i (members z)) (sym (woven_is names bytes most k v l vs w n label m)) ∙ there))
    where
      pair : Value
      pair = group (more_values x (more_values y no_values))

      by_item : WovenItem (first_values n vs) (other_values n vs) i pair → LiesBehind (λ value_pos. (t : Tree Place) → Has t → HasItem (items t) i value_pos) v level around before p w (i ∷ (1 ∷ [])) y
      by_item (of_child j first inner c is first_is item sum) =
          let among = first_in n j vs c is in
          let found = held j c among.1 in
          let part = child_part most k v n deep link (entries count k key v place) j found.0 among.0 (subst (λ z. IsNth j z found.0) parts found.1) in
          let one : IsHeldIn (suc level) around before ps vs j (child deep most k v part.0) c = subst (λ z. IsHeldIn (suc level) around before ps vs j z c) (sym part.1) found.2 in
          claimed_lies e m one (one.below inner x y item)
          (λ value_pos below t has. item_of_child bytes most k v l vs n j deep part.0 first inner i value_pos (reads t has) label counted among.0 (subst (IsNth j ps) (sym part.1) found.1) first_is sum below)
          (λ more. through_child l vs n j first inner i (1 ∷ more) label among.0 first_is sum) (λ more. spares inner (1 ∷ more))
      by_item (of_entry j is place_is) =
          let further = other_in n j vs pair is in
          let within : n + j < count_values vs = below_count (n + j) vs pair further in
          let found = held (n + j) pair further in
          let part = entry_part most k v count key place j found.0 (part_behind bytes most k v n deep link (entries count k key v place) j found.0 (subst (λ z. IsNth (n + j) z found.0) parts found.1)) in
          let one : IsHeldIn (suc level) around before ps vs (n + j) (entry k part.0 v part.1) pair = subst (λ z. IsHeldIn (suc level) around before ps vs (n + j) z pair) (sym part.2) found.2 in
          claimed_lies e m one (one.below x y refl)
          (λ value_pos is t has. subst (HasItem (items t) i) is (item_of_entry bytes most k v l vs n j part.0 part.1 i (reads t has) label counted (omega (arith, within)) (subst (IsNth (n + j) ps) (sym part.2) found.1) place_is))
          (λ more. through_entry l vs n j i (1 ∷ more) label place_is) (λ more. spares 1 more)

  -- ---- in each part of a tree that holds

  lies_plain :
      {level : ℕ} {around : List OpenShared} {before : List Visit} {w : Value} {l : Label} {ps : List Part} {vs : Values} (p : Part)
      → content_of names bytes p ≡ plain l ps → made l vs ≡ Some w → AreHeldIn level around before ps vs → PairsLieBelow level around before p w
  unfolding child_content
  lies_plain (node deep most k v pos) e m held = absurd (subst IsClaimed e (node_is_claimed deep most k v pos (slice_index (drop pos bytes) 0) _))
  lies_plain (child deep most k v pos) e m held = one_lies most k v (child_parts most k v deep _ _ _ e) e m held (λ path spares. spares) (λ t under root parts has. child_read names bytes most k v e parts has)
  lies_plain (entry k key_pos v value_pos) e m held = entry_lies k key_pos v value_pos e m held
  lies_plain p e m held = tt

  lies_claimed :
      {level : ℕ} {around : List OpenShared} {before : List Visit} {w : Value} {s : Span} {l : Label} {ps : List Part} {vs : Values} (p : Part)
      → content_of names bytes p ≡ claimed s l ps → made l vs ≡ Some w → AreHeldIn (suc level) around before ps vs → AreCounted bytes ps vs → PairsLieBelow level around before p w
  lies_claimed (node deep most k v pos) e m held counted =
      node_lies most k v (node_parts most k v deep pos (slice_index (drop pos bytes) 0) _ e) e m held (λ i path. tt) counted (λ t has. node_read names bytes most k v e has)
  lies_claimed (child deep most k v pos) e m held counted = absurd (subst IsPlain e (child_is_plain deep most k v pos (window bytes pos 4)))
  lies_claimed (entry k key_pos v value_pos) e m held counted = absurd cc
  lies_claimed p e m held counted = tt

  lies_counting :
      {cyclic : Bool} {t : ℕ} {q : Pointee} {len : ℕ} (level : ℕ) (around : List OpenShared) (before : List Visit) (w : Value) (p : Part)
      → content_of names bytes p ≡ counting cyclic t q len → PairsLieBelow level around before p w
  lies_counting level around before w (node deep most k v pos) e = absurd (subst IsClaimed e (node_is_claimed deep most k v pos (slice_index (drop pos bytes) 0) _))
  lies_counting level around before w (child deep most k v pos) e = absurd (subst IsPlain e (child_is_plain deep most k v pos (window bytes pos 4)))
  lies_counting level around before w (entry k key_pos v value_pos) e = absurd cc
  lies_counting level around before w p e = tt

  mutual
    lies : {level : ℕ} {around : List OpenShared} {p : Part} {w : Value} {regions : List Region} {before after : List Visit}
        → Holds names bytes level around p w regions before after → PairsLieBelow level around before p w
    lies {p = p} (holds_plain e legal all m) = lies_plain p e m (λ i u there. held_in all i u there)
    lies {p = p} (holds_claimed e legal all m r) = lies_claimed p e m (λ i u there. held_in all i u there) (are_counted names bytes all)
    lies {p = p} (holds_first e b c d f g) = lies_counting _ _ _ _ p e
    lies {p = p} (holds_later e b c d f g) = lies_counting _ _ _ _ p e
    lies {p = p} (holds_back e b c d f) = lies_counting _ _ _ _ p e

    held_in : {level : ℕ} {around : List OpenShared} {ps : List Part} {vs : Values} {regions : List Region} {before after : List Visit}
        → HoldAll names bytes level around ps vs regions before after → (i : ℕ) (u : Value) → value_in i vs ≡ Some u → (q : Part) × IsNth i ps q × IsHeldIn level around before ps vs i q u
    held_in (holds_none e f g) i u there = let none : value_in i no_values ≡ Some u = ap (value_in i) (sym e) ∙ there in absurd (cc)
    held_in {level = level} {around = around} {vs = ws} {before = before} (holds_more {p = p} {ps = ps} {v = v} {vs = vs} {here = here} {between = between} h hs e r) zero u there =
        let first : value_in 0 (more_values v vs) ≡ Some u = ap (value_in 0) (sym e) ∙ there in
        let is : v ≡ u = cc in (
          p,
          refl,
          subst (IsHeldIn level around before (p ∷ ps) ws 0 p) is
              (record {
                regions = here;
                since = before;
                until = between;
                holds = h;
                within = λ q t path s. record { stands = stands_first s.stands h hs e refl; spares = s.spares };
                below = lies h;
              }),
        )
    held_in (holds_more {v = v} {vs = vs} h hs e r) (suc i) u there =
        let found = held_in hs i u (ap (value_in (suc i)) (sym e) ∙ there) in
        let one = found.2 in (
          found.0,
          found.1,
          record {
            regions = one.regions;
            since = one.since;
            until = one.until;
            holds = one.holds;
            within = λ q t path s. let d = one.within q t path s in record { stands = stands_later h d.stands e refl; spares = d.spares };
            below = one.below;
          },
        )

  -- ---- a map

  tree_lies : {level : ℕ} {around : List OpenShared} {w : Value} {regions : List Region} {before after : List Visit} (pos most : ℕ) (k v : Shape)
      → Holds names bytes level around (at pos (tree most k v)) w regions before after → PairsLie (HasTree bytes most k v pos) v level around before (at pos (tree most k v)) w
  unfolding shape_content
  tree_lies pos most k v (holds_plain e legal all m) = one_lies most k v (tree_parts most k v _ _ _ e) e m (λ i u there. held_in all i u there) (λ path spares. spares) (λ t deep root parts has. root_read names bytes most k v e parts has)
  tree_lies pos most k v (holds_claimed e legal all m r) = absurd (subst IsPlain e (tree_plain most k v _ _ _))
  tree_lies pos most k v (holds_first e b c d f g) = absurd (subst IsPlain e (tree_plain most k v _ _ _))
  tree_lies pos most k v (holds_later e b c d f g) = absurd (subst IsPlain e (tree_plain most k v _ _ _))
  tree_lies pos most k v (holds_back e b c d f) = absurd (subst IsPlain e (tree_plain most k v _ _ _))

pub tree_pair_stands :
    {names : Names} {bytes : List ℕ} {most : ℕ} {k v : Shape} {level : ℕ} {around : List OpenShared} {pos : ℕ} {w : Value} {regions : List Region} {before after : List Visit}
    → Holds names bytes level around (at pos (tree most k v)) w regions before after
    → (i : ℕ) (x y : Value) → value_in i (members w) ≡ Some (group (more_values x (more_values y no_values)))
    → PairStands names bytes most k v level around before pos w i y
tree_pair_stands {names = names} {bytes = bytes} {most = most} {k = k} {v = v} {pos = pos} h i x y there =
    let b = tree_lies names bytes pos most k v h i x y there in
    record { deeper = b.deeper; value_pos = b.value_pos; regions = b.regions; since = b.since; until = b.until; holds = b.holds; stands = b.stands; item = λ root t some leads has. b.known t (record { root = root; some = some; leads = leads; node = has }) }
