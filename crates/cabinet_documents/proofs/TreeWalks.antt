-- The walk of a search tree is that of its items' values, in order.
use Rattle.std.proofs.Common.{◌≡◌, ◌∙◌, ℕ, zero, suc, ◌+◌, ◌≤◌, Bool, true, false, cond, ◌==◌, ◌&&◌, nat_le, nat_lt, List, [], ◌∷◌, ◌++◌, take, drop, slice_index, Option, Some, None, refl, sym, ap, ap₂, subst, arith, append-nil, append_assoc, eq-eqb}
use Rattle.std.specs.List.{flat_map}
use Rattle.std.proofs.lemmas.Bool.{le-leb, ne_eqb}
use Rattle.std.proofs.lemmas.Grind.{flat_map-append}
use Rattle.archive_btree_layout.specs.Tree.{Tree, Branches, items, items_of}
use Rattle.archive_btree_layout.specs.Tree.Tree.{absent, leaf, inner}
use Rattle.archive_btree_layout.specs.Tree.Branches.{greater, lesser}
use Rattle.archive_btree_layout.specs.Reading.{Place, places, HasNode, HasBranches, HasChild}
use Rattle.archive_btree_layout.specs.Reading.HasNode.{has_leaf, has_inner}
use Rattle.archive_btree_layout.specs.Reading.HasBranches.{has_greater, has_lesser}
use Rattle.archive_btree_layout.specs.Reading.HasChild.{no_child, a_child}
use Rattle.archive_btree_layout.proofs.Contents.{kind_of}
use Rattle.archive_shape_layout.specs.Bytes.{window, word_at, target_from}
use Rattle.archive_shape_layout.specs.Shape.{Shape, size_of}
use Rattle.archive_shape_layout.specs.Shape.Shape.{text, tree}
use Rattle.archive_shape_layout.specs.Shape.Pointee.{str}
use Rattle.archive_shape_layout.specs.Value.{Value, Values, append_values, count_values}
use Rattle.archive_shape_layout.specs.Value.Value.{group}
use Rattle.archive_shape_layout.specs.Value.Values.{no_values, more_values}
use Rattle.archive_shape_layout.specs.Content.{Names, Part, content_of, choose, following, made, members, weave, first_values, other_values, shape_content, pointee_content, text_content, text_length, begins_inline, before_ff, node_content, child_content, entries, children, keys_offset, values_offset, links_offset, link_node_size, node_span, words_of}
use Rattle.archive_shape_layout.specs.Content.Part.{at, behind, node, child, entry}
use Rattle.archive_shape_layout.specs.Content.Label.{written, same, whole, woven, total}
use Rattle.archive_shape_layout.specs.Content.Content.{illegal, plain, claimed}
use Rattle.archive_forms_values.proofs.Chosen.{chosen, not_chosen}
use Rattle.archive_forms_values.proofs.Pointed.{made_same, made_whole}
use Rattle.archive_forms_values.proofs.Targets.{first_word}
use Rattle.archive_forms_laws.proofs.TextContent.{followed}
use Rattle.archive_shape_layout.proofs.Framed.{links_fit}
use Rattle.archive_shape_layout.proofs.Windows.{word_within, word_of}
use Rattle.cabinet_documents.specs.Walk.{Stop, Walks, WalkAll, in_turn, depth_in}
use Rattle.cabinet_documents.specs.Order.{ascend}
use Rattle.cabinet_documents.specs.Table.{item_keys}
use Rattle.cabinet_documents.specs.Audit.{too_deep, keys_not_ascending, unless, faults}
use Rattle.cabinet_documents.proofs.Begun.{own_faults, faults-append, begun, not_walked, no_walks, FirstWalk, first_walk, only_walk, ends, onward}

-- at the places of items, in order, lie the keys and values of pairs; each has a walk inside `depth` containers, and
-- `runs` are those of the values
pub data ItemsWalk (names : Names) (bytes : List ℕ) (k v : Shape) (depth : ℕ) : List Place → Values → List (List Stop) → Type 0 where
  no_items : {ps : List Place} {vs : Values} {runs : List (List Stop)} → ps ≡ [] → vs ≡ no_values → runs ≡ [] → ItemsWalk names bytes k v depth ps vs runs
  more_items :
      {p : Place} {ps qs : List Place} {x y : Value} {vs ws : Values} {first run : List Stop} {later runs : List (List Stop)}
      → qs ≡ p ∷ ps
      → ws ≡ more_values (group (more_values x (more_values y no_values))) vs
      → runs ≡ run ∷ later
      → Walks names bytes depth (at p.key k) x first
      → Walks names bytes depth (at p.value v) y run
      → ItemsWalk names bytes k v depth ps vs later
      → ItemsWalk names bytes k v depth qs ws runs

-- a key has no fault
abbrev pub QuietKeys : Names → List ℕ → Shape → ℕ → Type 0
QuietKeys names bytes k depth = (pos : ℕ) (x : Value) (run : List Stop) → Walks names bytes depth (at pos k) x run → faults bytes run ≡ []

-- the walk of a node of a tree: its items' values are walked in order, and it has their faults and no others
pub record TreeWalked (names : Names) (bytes : List ℕ) (k v : Shape) (depth : ℕ) (t : Tree Place) (w : Value) (walk : List Stop) : Type 0 where
  pub runs : List (List Stop)
  pub items : ItemsWalk names bytes k v depth (items t) (members w) runs
  pub faults_are : faults bytes walk ≡ flat_map (faults bytes) runs

-- the same of a map, which may be too deep, or whose keys may not ascend
pub record MapWalked (names : Names) (bytes : List ℕ) (k v : Shape) (depth : ℕ) (t : Tree Place) (w : Value) (walk : List Stop) : Type 0 where
  pub runs : List (List Stop)
  pub items : ItemsWalk names bytes k v (depth + 1) (items t) (members w) runs
  pub faults_are :
      faults bytes walk
      ≡ unless (nat_lt depth 64) too_deep ++ (unless (ascend (item_keys (members w))) keys_not_ascending ++ flat_map (faults bytes) runs)

-- and of a map without items
pub record EmptyMapWalked (bytes : List ℕ) (depth : ℕ) (w : Value) (walk : List Stop) : Type 0 where
  pub value_is : w ≡ group no_values
  pub members_are : members w ≡ no_values
  pub faults_are : faults bytes walk ≡ unless (nat_lt depth 64) too_deep

-- ---- contents

module _ (names : Names) (bytes : List ℕ) where
  second_word : (pos : ℕ) → word_at (window bytes pos 8) 4 ≡ word_at bytes (pos + 4)
  second_word pos = word_within bytes pos 8 4 (omega arith)

  module _ (most : ℕ) (k v : Shape) where
    kind_content : (level pos kind : ℕ) → slice_index bytes pos ≡ kind → content_of names bytes (node level most k v pos) ≡ node_content level most k v pos kind (window bytes pos (link_node_size (words_of kind most) most k v))
    kind_content level pos kind e = ap (λ n. node_content level most k v pos n (window bytes pos (link_node_size (words_of n most) most k v))) (kind_of bytes pos ∙ e)

    leaf_content : (level pos len : ℕ) → level ≤ 32 → slice_index bytes pos ≡ 0 → word_at bytes (pos + links_offset most k v) ≡ len → len ≤ most
        → content_of names bytes (node level most k v pos) ≡ claimed (node_span 1 most k v pos) whole (entries len k (pos + keys_offset k) v (pos + values_offset most k v))
    unfolding node_content
    leaf_content level pos len low kind word few =
        let own = window bytes pos (link_node_size 1 most k v) in
        let says : word_at own (links_offset most k v) ≡ len = word_within bytes pos (link_node_size 1 most k v) (links_offset most k v) (let h = links_fit 1 most k v in omega arith) ∙ word in
        kind_content level pos 0 kind
        ∙ chosen (nat_le level 32 && nat_le (word_at own (links_offset most k v)) most) _ _ (rw (le-leb level 32 low, le-leb (word_at own (links_offset most k v)) most (omega (arith, says))) refl)
        ∙ ap (λ n. claimed (node_span 1 most k v pos) whole (entries n k (pos + keys_offset k) v (pos + values_offset most k v))) says

    inner_content : (level pos : ℕ) → level ≤ 32 → slice_index bytes pos ≡ 1
        → content_of names bytes (node level most k v pos)
        ≡ claimed (node_span (most + 1) most k v pos) (woven (suc most)) (children (suc most) (suc level) most k v (pos + links_offset most k v) ++ entries most k (pos + keys_offset k) v (pos + values_offset most k v))
    unfolding node_content
    inner_content level pos low kind =
        let more : most + 1 ≡ suc most = omega arith in
        let next : level + 1 ≡ suc level = omega arith in
        let es = entries most k (pos + keys_offset k) v (pos + values_offset most k v) in
        kind_content level pos 1 kind
        ∙ chosen (nat_le level 32) _ _ (le-leb level 32 low)
        ∙ ap (λ n. claimed (node_span (most + 1) most k v pos) (woven n) (children n (level + 1) most k v (pos + links_offset most k v) ++ es)) more
        ∙ ap (λ n. claimed (node_span (most + 1) most k v pos) (woven (suc most)) (children (suc most) n most k v (pos + links_offset most k v) ++ es)) next

    no_child_content : (level link : ℕ) → word_at bytes link ≡ 1 → content_of names bytes (child level most k v link) ≡ plain whole []
    unfolding child_content
    no_child_content level link e = chosen (word_at (window bytes link 4) 0 == 1) _ _ (eq-eqb _ 1 (word_of bytes link ∙ e))

    level_low : {level pos : ℕ} {t : Tree Place} → HasNode bytes most k v level pos t → level ≤ 32
    level_low (has_leaf low room kind word few is) = low
    level_low (has_inner low room kind below is) = low

    pointed_content : (level link pos : ℕ) → (word_at bytes link ≡ 1 → ⊥) → target_from link (word_at bytes link) ≡ Some pos → level ≤ 32
        → content_of names bytes (child level most k v link) ≡ plain same (node level most k v pos ∷ [])
    unfolding child_content
    pointed_content level link pos away leads low =
        not_chosen (word_at (window bytes link 4) 0 == 1) _ _ (ne_eqb _ 1 (λ e. away (sym (word_of bytes link) ∙ e)))
        ∙ chosen (nat_le level 32) _ _ (le-leb level 32 low)
        ∙ followed (target_from link (word_at (window bytes link 4) 0)) pos (λ t. plain same (node level most k v t ∷ [])) (ap (target_from link) (word_of bytes link) ∙ leads)

    map_content : (pos root : ℕ) → (word_at bytes (pos + 4) ≡ 0 → ⊥) → target_from pos (word_at bytes pos) ≡ Some root
        → content_of names bytes (at pos (tree most k v)) ≡ plain (total (word_at bytes (pos + 4))) (node 1 most k v root ∷ [])
    unfolding shape_content
    map_content pos root away leads =
        let own = window bytes pos 8 in
        not_chosen (word_at own 4 == 0) _ _ (ne_eqb _ 0 (λ e. away (sym (second_word pos) ∙ e)))
        ∙ followed (target_from pos (word_at own 0)) root (λ t. plain (total (word_at own 4)) (node 1 most k v t ∷ [])) (ap (target_from pos) (first_word bytes pos 8 (omega arith)) ∙ leads)
        ∙ ap (λ n. plain (total n) (node 1 most k v root ∷ [])) (second_word pos)

    empty_content : (pos : ℕ) → word_at bytes (pos + 4) ≡ 0 → content_of names bytes (at pos (tree most k v)) ≡ plain whole []
    unfolding shape_content
    empty_content pos e = chosen (word_at (window bytes pos 8) 4 == 0) _ _ (eq-eqb _ 0 (second_word pos ∙ e))

  -- ---- items and entries

  module _ (k v : Shape) (depth : ℕ) where
    items-append : {ps qs : List Place} {vs ws : Values} {runs others : List (List Stop)}
        → ItemsWalk names bytes k v depth ps vs runs → ItemsWalk names bytes k v depth qs ws others
        → ItemsWalk names bytes k v depth (ps ++ qs) (append_values vs ws) (runs ++ others)
    items-append {qs = qs} {vs = vs} {ws = ws} {runs = runs} {others = others} (no_items e f g) b =
        subst (λ x. ItemsWalk names bytes k v depth (x ++ qs) (append_values vs ws) (runs ++ others)) (sym e)
        (subst (λ x. ItemsWalk names bytes k v depth qs (append_values x ws) (runs ++ others)) (sym f)
        (subst (λ x. ItemsWalk names bytes k v depth qs ws (x ++ others)) (sym g) b))
    items-append {qs = qs} {ws = ws} {others = others} (more_items e f g key value rest) b =
        more_items (ap (λ x. x ++ qs) e) (ap (λ x. append_values x ws) f) (ap (λ x. x ++ others) g) key value (items-append rest b)

    -- the walks of entries: each has the faults of its value's walk
    pub data EntriesWalk : List Place → Values → List (List Stop) → Type 0 where
      no_entries : {ps : List Place} {vs : Values} {runs : List (List Stop)} → ps ≡ [] → vs ≡ no_values → runs ≡ [] → EntriesWalk ps vs runs
      more_entries :
          {p : Place} {ps qs : List Place} {x y : Value} {vs ws : Values} {here first run : List Stop} {later runs : List (List Stop)}
          → qs ≡ p ∷ ps
          → ws ≡ more_values (group (more_values x (more_values y no_values))) vs
          → runs ≡ here ∷ later
          → Walks names bytes depth (at p.key k) x first
          → Walks names bytes depth (at p.value v) y run
          → faults bytes here ≡ faults bytes run
          → EntriesWalk ps vs later
          → EntriesWalk qs ws runs

    pub record PairWalked (key value : ℕ) (w : Value) (walk : List Stop) : Type 0 where
      pub first : Value
      pub second : Value
      pub key_run : List Stop
      pub value_run : List Stop
      pub key_walk : Walks names bytes depth (at key k) first key_run
      pub value_walk : Walks names bytes depth (at value v) second value_run
      pub value_is : w ≡ group (more_values first (more_values second no_values))
      pub faults_are : faults bytes walk ≡ faults bytes value_run

    -- of a part that is no container and has no faults of its own
    pub pair_walked : {w : Value} {walk : List Stop} (p : Part) (key value : ℕ) → content_of names bytes p ≡ plain whole (at key k ∷ (at value v ∷ [])) → depth_in depth p ≡ depth → own_faults bytes depth p w ≡ []
        → QuietKeys names bytes k depth → Walks names bytes depth p w walk → PairWalked key value w walk
    pair_walked {w = w} p key value content flat own quiet h =
        let b = begun names bytes (plain whole (at key k ∷ (at value v ∷ []))) content h in
        let f = first_walk names bytes (subst (λ n. WalkAll names bytes n (at key k ∷ (at value v ∷ [])) b.vs b.runs) flat b.all) in
        let g = only_walk names bytes f.rest in
        let both : b.vs ≡ more_values f.value (more_values g.value no_values) = f.values_are ∙ ap (more_values f.value) g.values_are in
        let runs : b.runs ≡ f.run ∷ (g.run ∷ []) = f.runs_are ∙ ap (λ z. f.run ∷ z) g.runs_are in
        record {
          first = f.value;
          second = g.value;
          key_run = f.run;
          value_run = g.run;
          key_walk = f.first;
          value_walk = g.only;
          value_is = made_whole b.vs w b.is_made ∙ ap group both;
          faults_are =
              b.faults_are
              ∙ ap (λ z. z ++ faults bytes (flat_map (λ a. a) b.runs)) own
              ∙ ap (λ z. faults bytes (flat_map (λ a. a) z)) runs
              ∙ faults-append bytes f.run (g.run ++ [])
              ∙ ap (λ z. z ++ faults bytes (g.run ++ [])) (quiet key f.value f.run f.first)
              ∙ ap (faults bytes) (append-nil g.run);
        }

    entries_walked : (n key value : ℕ) {vs : Values} {runs : List (List Stop)} → QuietKeys names bytes k depth → WalkAll names bytes depth (entries n k key v value) vs runs → EntriesWalk (places n k key v value) vs runs
    unfolding entries
    entries_walked zero key value quiet all = let n = no_walks names bytes all in no_entries refl n.0 n.1
    entries_walked (suc n) key value quiet all =
        let f = first_walk names bytes all in
        let e = pair_walked (entry k key v value) key value refl refl refl quiet f.first in
        more_entries refl (f.values_are ∙ ap (λ z. more_values z f.others) e.value_is) f.runs_are e.key_walk e.value_walk e.faults_are
        (entries_walked n (key + size_of k) (value + size_of v) quiet f.rest)

    -- a walk that has the faults of the walks of items' values
    pub record ItemsWalked (ps : List Place) (vs : Values) (walk : List Stop) : Type 0 where
      pub runs : List (List Stop)
      pub items : ItemsWalk names bytes k v depth ps vs runs
      pub faults_are : faults bytes walk ≡ flat_map (faults bytes) runs

    pub flat_walked : {ps : List Place} {vs : Values} {runs : List (List Stop)} → EntriesWalk ps vs runs → ItemsWalked ps vs (flat_map (λ x. x) runs)
    flat_walked (no_entries e f g) = record { runs = []; items = no_items e f refl; faults_are = ap (λ x. faults bytes (flat_map (λ a. a) x)) g }
    flat_walked (more_entries {here = here} {run = run} {later = later} e f g key value h rest) =
        let r = flat_walked rest in
        record {
          runs = run ∷ r.runs;
          items = more_items e f refl key value r.items;
          faults_are = ap (λ x. faults bytes (flat_map (λ a. a) x)) g ∙ faults-append bytes here (flat_map (λ a. a) later) ∙ ap₂ (λ a b. a ++ b) h r.faults_are;
        }

    -- ---- children and entries in turn

    last_woven : (ps : List Place) (c : Value) (us : Values) (x : List Stop) (xs : List (List Stop)) → ItemsWalked ps (members c) x
        → (ws : Values) (ys : List (List Stop)) → EntriesWalk [] ws ys
        → ItemsWalked ps (weave (first_values 1 (more_values c us)) ws) (in_turn (take 1 (x ∷ xs)) ys)
    last_woven ps c us x xs here ws ys (no_entries e f g) =
        subst (λ z. ItemsWalked ps (weave (more_values c no_values) z) (in_turn (x ∷ []) ys)) (sym f)
        (subst (λ z. ItemsWalked ps (members c) (in_turn (x ∷ []) z)) (sym g)
        (record { runs = here.runs; items = here.items; faults_are = ap (faults bytes) (append-nil x) ∙ here.faults_are }))
    last_woven ps c us x xs here ws ys (more_entries e f g key value h rest) = absurd cc

    more_woven : (n : ℕ) (ps : List Place) (c : Value) (us : Values) (x : List Stop) (xs : List (List Stop)) (p : Place) (between later : List Place)
        → ItemsWalked ps (members c) x
        → ((ws : Values) (ys : List (List Stop)) → EntriesWalk between ws ys → ItemsWalked later (weave (first_values (suc n) us) ws) (in_turn (take (suc n) xs) ys))
        → (ws : Values) (ys : List (List Stop)) → EntriesWalk (p ∷ between) ws ys
        → ItemsWalked (ps ++ p ∷ later) (weave (first_values (suc (suc n)) (more_values c us)) ws) (in_turn (take (suc (suc n)) (x ∷ xs)) ys)
    more_woven n ps c us x xs p between later here there ws ys (no_entries e f g) = absurd cc
    more_woven n ps c us x xs p between later here there ws ys (more_entries {p = q} {ps = others} {x = a} {y = b} {vs = vs} {here = around} {run = run} {later = zs} e f g key value h rest) =
        let same_place : p ≡ q = cc in
        let same_places : others ≡ between = cc in
        let r = there vs zs (subst (λ z. EntriesWalk z vs zs) same_places rest) in
        let pair = group (more_values a (more_values b no_values)) in
        let tail = in_turn (take (suc n) xs) zs in
        subst (λ z. ItemsWalked (ps ++ p ∷ later) (weave (more_values c (first_values (suc n) us)) z) (in_turn (x ∷ take (suc n) xs) ys)) (sym f)
        (subst (λ z. ItemsWalked (ps ++ p ∷ later) (append_values (members c) (more_values pair (weave (first_values (suc n) us) vs))) (in_turn (x ∷ take (suc n) xs) z)) (sym g)
        (record {
          runs = here.runs ++ run ∷ r.runs;
          items = items-append here.items (more_items (ap (λ z. z ∷ later) same_place) refl refl key value r.items);
          faults_are =
              faults-append bytes x (around ++ tail)
              ∙ ap (λ z. faults bytes x ++ z) (faults-append bytes around tail)
              ∙ ap₂ (λ a b. a ++ b) here.faults_are (ap₂ (λ a b. a ++ b) h r.faults_are)
              ∙ sym (flat_map-append (faults bytes) here.runs (run ∷ r.runs));
        }))

    -- ---- the nodes of a tree

    module _ (most : ℕ) where
      -- children, woven with the entries, and the walks of the parts after the children
      record BranchesWalked (n key value : ℕ) (es : List Part) (bs : Branches Place) (vs : Values) (runs : List (List Stop)) : Type 0 where
        rest : WalkAll names bytes depth es (other_values (suc n) vs) (drop (suc n) runs)
        in_order : (ws : Values) (ys : List (List Stop)) → EntriesWalk (places n k key v value) ws ys
            → ItemsWalked (items_of bs) (weave (first_values (suc n) vs) ws) (in_turn (take (suc n) runs) ys)

      last_child : (n level link key value : ℕ) (t : Tree Place) (bs : Branches Place) (es : List Part) {vs : Values} {runs : List (List Stop)}
          → n ≡ 0 → bs ≡ greater t
          → (f : FirstWalk names bytes depth (child level most k v link) (children n level most k v (link + 4) ++ es) vs runs)
          → TreeWalked names bytes k v depth t f.value f.run
          → BranchesWalked n key value es bs vs runs
      unfolding children
      last_child n level link key value t bs es {vs = vs} {runs = runs} z is f c =
          subst (λ x. BranchesWalked x key value es bs vs runs) (sym z)
          (subst (λ x. BranchesWalked 0 key value es x vs runs) (sym is)
          (subst (λ x. BranchesWalked 0 key value es (greater t) x runs) (sym f.values_are)
          (subst (λ x. BranchesWalked 0 key value es (greater t) (more_values f.value f.others) x) (sym f.runs_are)
          (record {
            rest = subst (λ x. WalkAll names bytes depth (children x level most k v (link + 4) ++ es) f.others f.later) z f.rest;
            in_order = last_woven (items t) f.value f.others f.run f.later (record { runs = c.runs; items = c.items; faults_are = c.faults_are });
          }))))

      more_children : (n m level link key value : ℕ) (t : Tree Place) (bs cs : Branches Place) (es : List Part) {vs : Values} {runs : List (List Stop)}
          → n ≡ suc m → bs ≡ lesser t (record { key = key; value = value }) cs
          → (f : FirstWalk names bytes depth (child level most k v link) (children n level most k v (link + 4) ++ es) vs runs)
          → TreeWalked names bytes k v depth t f.value f.run
          → BranchesWalked m (key + size_of k) (value + size_of v) es cs f.others f.later
          → BranchesWalked n key value es bs vs runs
      more_children n m level link key value t bs cs es {vs = vs} {runs = runs} z is f c r =
          let p : Place = record { key = key; value = value } in
          subst (λ x. BranchesWalked x key value es bs vs runs) (sym z)
          (subst (λ x. BranchesWalked (suc m) key value es x vs runs) (sym is)
          (subst (λ x. BranchesWalked (suc m) key value es (lesser t p cs) x runs) (sym f.values_are)
          (subst (λ x. BranchesWalked (suc m) key value es (lesser t p cs) (more_values f.value f.others) x) (sym f.runs_are)
          (record {
            rest = r.rest;
            in_order =
                more_woven m (items t) f.value f.others f.run f.later p (places m k (key + size_of k) v (value + size_of v)) (items_of cs)
                (record { runs = c.runs; items = c.items; faults_are = c.faults_are }) r.in_order;
          }))))

      mutual
        unfolding made children

        pub tree_walked : {level pos : ℕ} {t : Tree Place} {w : Value} {walk : List Stop}
            → HasNode bytes most k v level pos t → QuietKeys names bytes k depth
            → Walks names bytes depth (node level most k v pos) w walk → TreeWalked names bytes k v depth t w walk
        tree_walked {level = level} {pos = pos} {w = w} {walk = walk} (has_leaf {len = len} low room kind word few is) quiet h =
            let b = begun names bytes _ (leaf_content most k v level pos len low kind word few) h in
            let r = flat_walked (entries_walked len (pos + keys_offset k) (pos + values_offset most k v) quiet b.all) in
            subst (λ x. TreeWalked names bytes k v depth x w walk) (sym is)
            (subst (λ x. TreeWalked names bytes k v depth (leaf (places len k (pos + keys_offset k) v (pos + values_offset most k v))) x walk) (sym (made_whole b.vs w b.is_made))
            (record { runs = r.runs; items = r.items; faults_are = b.faults_are ∙ r.faults_are }))
        tree_walked {level = level} {pos = pos} {w = w} {walk = walk} (has_inner {bs = bs} low room kind below is) quiet h =
            let b = begun names bytes _ (inner_content most k v level pos low kind) h in
            let c = branches_walked below quiet (entries most k (pos + keys_offset k) v (pos + values_offset most k v)) b.all in
            let r = c.in_order (other_values (suc most) b.vs) (drop (suc most) b.runs) (entries_walked most (pos + keys_offset k) (pos + values_offset most k v) quiet c.rest) in
            let same_value : group (weave (first_values (suc most) b.vs) (other_values (suc most) b.vs)) ≡ w = let m = b.is_made in cc in
            subst (λ x. TreeWalked names bytes k v depth x w walk) (sym is)
            (subst (λ x. TreeWalked names bytes k v depth (inner bs) x walk) same_value
            (record { runs = r.runs; items = r.items; faults_are = b.faults_are ∙ r.faults_are }))

        pub child_walked : {level link : ℕ} {t : Tree Place} {w : Value} {walk : List Stop}
            → HasChild bytes most k v level link t → QuietKeys names bytes k depth
            → Walks names bytes depth (child level most k v link) w walk → TreeWalked names bytes k v depth t w walk
        child_walked {level = level} {link = link} {w = w} {walk = walk} (no_child e is) quiet h =
            let b = ends names bytes (plain whole []) refl refl (no_child_content most k v level link e) h in
            subst (λ x. TreeWalked names bytes k v depth x w walk) (sym is)
            (subst (λ x. TreeWalked names bytes k v depth absent x walk) (sym (made_whole no_values w b.is_made))
            (record { runs = []; items = no_items refl refl refl; faults_are = b.faults_are }))
        child_walked {level = level} {link = link} {t = t} {w = w} {walk = walk} (a_child {pos = pos} away leads below) quiet h =
            let o = onward names bytes (plain same (node level most k v pos ∷ [])) refl (λ run. refl) (pointed_content most k v level link pos away leads (level_low most k v below)) h in
            let r = tree_walked below quiet o.next in
            subst (λ x. TreeWalked names bytes k v depth t x walk) (made_same o.value w o.is_made)
            (record { runs = r.runs; items = r.items; faults_are = o.faults_are ∙ r.faults_are })

        branches_walked : {n level link key value : ℕ} {bs : Branches Place} {vs : Values} {runs : List (List Stop)}
            → HasBranches bytes most k v n level link key value bs → QuietKeys names bytes k depth
            → (es : List Part) → WalkAll names bytes depth (children (suc n) level most k v link ++ es) vs runs → BranchesWalked n key value es bs vs runs
        branches_walked {n = n} {level = level} {link = link} {key = key} {value = value} {bs = bs} (has_greater {t = t} z here is) quiet es all =
            let f = first_walk names bytes all in
            last_child n level link key value t bs es z is f (child_walked here quiet f.first)
        branches_walked {n = n} {level = level} {link = link} {key = key} {value = value} {bs = bs} (has_lesser {m = m} {t = t} {cs = cs} z here below is) quiet es all =
            let f = first_walk names bytes all in
            more_children n m level link key value t bs cs es z is f (child_walked here quiet f.first)
            (branches_walked below quiet es (subst (λ x. WalkAll names bytes depth (children x level most k v (link + 4) ++ es) f.others f.later) z f.rest))

  -- ---- a map

  counted : (b : Bool) (u w : Value) → cond b (Some u) None ≡ Some w → u ≡ w
  counted true u w e = cc
  counted false u w e = absurd cc

  module _ (most : ℕ) (k v : Shape) (depth : ℕ) where
    -- with items
    pub map_walked : {pos root : ℕ} {t : Tree Place} {w : Value} {walk : List Stop}
        → (word_at bytes (pos + 4) ≡ 0 → ⊥) → target_from pos (word_at bytes pos) ≡ Some root → HasNode bytes most k v 1 root t → QuietKeys names bytes k (depth + 1)
        → Walks names bytes depth (at pos (tree most k v)) w walk → MapWalked names bytes k v depth t w walk
    unfolding made
    map_walked {pos = pos} {root = root} {t = t} {w = w} {walk = walk} away target below quiet h =
        let o = onward names bytes (plain (total (word_at bytes (pos + 4))) (node 1 most k v root ∷ [])) refl (λ run. refl) (map_content most k v pos root away target) h in
        let r = tree_walked k v (depth + 1) most below quiet o.next in
        let same_value = counted (count_values (members o.value) == word_at bytes (pos + 4)) o.value w o.is_made in
        record {
          runs = r.runs;
          items = subst (λ x. ItemsWalk names bytes k v (depth + 1) (items t) (members x) r.runs) same_value r.items;
          faults_are =
              o.faults_are ∙ ap (λ x. own_faults bytes depth (at pos (tree most k v)) w ++ x) r.faults_are
              ∙ append_assoc (unless (nat_lt depth 64) too_deep) (unless (ascend (item_keys (members w))) keys_not_ascending) (flat_map (faults bytes) r.runs);
        }

    -- and without
    pub empty_map_walked : {pos : ℕ} {w : Value} {walk : List Stop}
        → word_at bytes (pos + 4) ≡ 0 → Walks names bytes depth (at pos (tree most k v)) w walk → EmptyMapWalked bytes depth w walk
    empty_map_walked {pos = pos} {w = w} none h =
        let b = ends names bytes (plain whole []) refl refl (empty_content most k v pos none) h in
        let is = made_whole no_values w b.is_made in
        record {
          value_is = is;
          members_are = ap members is;
          faults_are = b.faults_are ∙ ap (own_faults bytes depth (at pos (tree most k v))) is ∙ append-nil (unless (nat_lt depth 64) too_deep);
        }

  -- ---- a text

  pub behind_quiet : {depth t len : ℕ} {v : Value} {walk : List Stop} → Walks names bytes depth (behind t str len) v walk → faults bytes walk ≡ []
  unfolding pointee_content
  behind_quiet {t = t} {len = len} h = (ends names bytes (claimed (record { start = t; size = len; align = 1 }) (written (window bytes t len)) []) refl refl refl h).faults_are

  text_cases : (inline long : Bool) (o : Option ℕ) (s : List ℕ) (len : ℕ) {pos depth : ℕ} {v : Value} {walk : List Stop}
      → content_of names bytes (at pos text) ≡ choose inline (plain (written s) []) (choose long (following o (λ t. plain same (behind t str len ∷ []))) illegal)
      → Walks names bytes depth (at pos text) v walk → faults bytes walk ≡ []
  unfolding choose following
  text_cases true long o s len e h = (ends names bytes (plain (written s) []) refl refl e h).faults_are
  text_cases false false o s len e h = absurd (not_walked names bytes e h)
  text_cases false true None s len e h = absurd (not_walked names bytes e h)
  text_cases false true (Some t) s len e h = let o = onward names bytes (plain same (behind t str len ∷ [])) refl (λ run. refl) e h in o.faults_are ∙ behind_quiet o.next

-- a text has no fault
pub text_quiet : (names : Names) (bytes : List ℕ) (depth : ℕ) → QuietKeys names bytes text depth
unfolding shape_content text_content
text_quiet names bytes depth pos x run h =
    let own = window bytes pos 8 in
    text_cases names bytes (begins_inline (slice_index own 0)) (nat_lt 8 (text_length (word_at own 0))) (target_from pos (word_at own 4)) (before_ff own) (text_length (word_at own 0)) refl h
