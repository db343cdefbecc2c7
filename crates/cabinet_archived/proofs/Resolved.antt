-- What is resolved of a node, by its kind.
use Rattle.std.proofs.Common.{◌≡◌, ℕ, ℤ, Bool, true, false, suc, ◌+◌, ◌≤◌, ◌<◌, ◌^◌, set, List, [], ◌∷◌, ◌++◌, length, Option, Some, None, Ok, Err, refl, sym, ap, subst, ◌∙◌, arith, ⊎_elim, inl, inr, ◌⊎◌, Global, String, Box, Vec, length-append}
use Rattle.std.specs.Prelude.{Result, MatchResult, string_bytes}
use Rattle.std.specs.Int.{w32, w64, to_le_bytes}
use Rattle.std.specs.Rc.{rc_str_bytes}
use Rattle.std.specs.declared.rc.RcStr.{RcStr}
use Rattle.archive_shape_layout.specs.Bytes.{align_up}
use Rattle.archive_shape_layout.specs.Shape.{Shape, size_of, align_of}
use Rattle.archive_shape_layout.specs.Shape.Shape.{number, truth, text, option, choice, vector, table, index_map, tree as tree_shape, shared as shared_shape}
use Rattle.archive_shape_layout.specs.Shape.Pointee.{str}
use Rattle.archive_shape_canonical.specs.FirstFit.{first_fit}
use Rattle.archive_shape.specs.Bytes.{HasBytes, zeros, overwrite}
use Rattle.archive_shape.proofs.Spared.{spares_same}
use Rattle.archive_shape_layout.specs.declared.error.Error.{Error}
use Rattle.archive_shape_layout.specs.declared.error.Error.TheVariants.{IsizeOverflow, LengthTooLarge}
use Rattle.archive_forms_laws.specs.State.{State}
use Rattle.archive_forms_laws.specs.Spelling.{Spelling}
use Rattle.archive_forms_laws.specs.Payloads.{payload_spelling}
use Rattle.archive_forms_laws.specs.Pointers.{box_spelling}
use Rattle.archive_shape.specs.Offsets.{FitsOffset, offset_bytes}
use Rattle.archive_forms_laws.specs.Levels.{levels_spelling}
use Rattle.archive_forms_laws.specs.Serializing.{Resolves}
use Rattle.archive_forms_laws.proofs.Levels.{option_box_sized}
use Rattle.archive_forms_laws.proofs.Options.{option_spells}
use Rattle.archive_forms_laws.proofs.Pointers.{box_spells, slice_spells}
use Rattle.archive_forms_laws.proofs.Resolved as laws
use Rattle.archive_forms_laws.proofs.Texts.{text_spells}
use Rattle.archive_forms_laws.proofs.Shared.{shared_text_spells, shared_value_spells}
use Rattle.archive_forms_laws.proofs.Views.{kept_spells, kept_spells_at}
use Rattle.archive_forms_laws.specs.Links.{LinkFits, LinkRefused, link_bytes}
use Rattle.archive_forms_laws.specs.Texts.{text_spelling}
use Rattle.archive_btree_spelling.proofs.Maps.{map_spells}
use Rattle.archive_btree_maps.specs.declared.map.resolving.BTreeMapResolver.{BTreeMapResolver}
use Rattle.archive_hash_maps.specs.declared.map.resolving.HashTableResolver.{HashTableResolver}
use Rattle.archive_hash_writing.proofs.SpellingTables.{length-own}
use Rattle.archive_forms_laws.proofs.Links.{length-link}
use Rattle.archive_hash_writing.specs.declared.index.resolver.IndexMapResolver.{IndexMapResolver}
use Rattle.std.specs.BTreeMap.{BTreeMap}
use Rattle.cabinet_text_grammar.specs.Keys.{ordered, hashed, kept}
use Rattle.archive_forms_values.specs.declared.reading.resolving.BoxResolver.{BoxResolver}
use Rattle.archive_forms_values.specs.declared.reading.resolving.VecResolver.{VecResolver}
use Rattle.archive_forms_values.specs.declared.text.resolving.StringResolver.{StringResolver}
use Rattle.archive_forms_rc.specs.declared.resolving.RcResolver.{RcResolver}
use Rattle.archive_forms_writing.proofs.Joining.{unfilled}
use Rattle.archive_forms_writing.proofs.Results.{payload_resolved}
use Rattle.cabinet_documents.specs.SharedKeys.{key_of_text, key_of_whole}
use Rattle.cabinet_text_grammar.specs.Tree as tree
use Rattle.cabinet_text_grammar.specs.Tree.{Tree, depth}
use Rattle.cabinet_text_grammar.specs.Wholes.{numbered}
use Rattle.cabinet_documents.specs.Node.{node_shape, pair_shape, whole_shape, payloads, KnowsNode}
use Rattle.cabinet_documents.specs.Resolver.{Resolver}
use Rattle.cabinet_documents.specs.Resolver as resolver
use Rattle.cabinet_documents.specs.Spelling.{truth_spelling, number_spelling, shared_string_spelling, boxed_shape, boxed_spelling, maybe_spelling, list_spelling, ordered_spelling, hashed_spelling, kept_spelling, whole_spelling, text_in, shared_in, maybe_in, list_in, ordered_in, hashed_in, kept_in, whole_in, node_of, refused, node_level, node_spelling}
use Rattle.cabinet_documents.proofs.Levels.{node_spells_law}
use Rattle.cabinet_archived.specs.Archived.{node_resolver, resolver_in, archived_as, tree_within, trees_within, pairs_within, tree_numbered}
use Rattle.cabinet_archived.specs.declared.resolver.NodeResolver.{NodeResolver}
use Rattle.cabinet_text_nodes.specs.View.{node_tree, node_trees, node_pairs, whole_of}
use Rattle.cabinet_text_nodes.specs.declared.node.Node.{Node}
use Rattle.cabinet_text_nodes.specs.declared.node.Node.TheVariants as node
use Rattle.cabinet_text_nodes.proofs.Views.{node_tree-bool, node_tree-int, node_tree-text, node_tree-shared, node_tree-none, node_tree-some, node_tree-list, node_tree-ordered, node_tree-hashed, node_tree-kept, node_tree-whole}
use Rattle.archive_forms_writing.specs.Owned.{str_spelling}

-- ---- payloads by themselves

-- a box is resolved where its offset is written
pub box_resolved :
    (w : Spelling Tree Resolver) (x : Tree) (r : BoxResolver) (pos start : ℕ) (old new : List ℕ) (result : Result (Unit {0}) Error)
    → MatchResult result (λ _. FitsOffset pos r.pos × (new ≡ overwrite old start (offset_bytes pos r.pos))) (λ e. (e ≡ IsizeOverflow) × ((FitsOffset pos r.pos → ⊥) × (new ≡ old)))
    → Resolves (boxed_spelling w) boxed_shape x r pos start old new result
box_resolved w x r pos start old new result h = laws.box_resolved node_shape boxed_shape w x r.pos pos start old new result h

-- an option for which no box is kept is zero
pub unkept_resolved :
    (w : Spelling Tree Resolver) (o : Option Tree) (k : Option BoxResolver) (bytes : List ℕ) (start pos : ℕ) → k ≡ None → HasBytes bytes start (zeros 8)
    → Resolves (maybe_spelling w) (option boxed_shape) o k pos start bytes bytes (Ok tt)
unkept_resolved w o k bytes start pos is blank =
    let P : ℕ → Type 0 = λ n. HasBytes bytes start (zeros n) in
    let zero_over = unfilled bytes start (size_of (option boxed_shape)) (subst P (sym (option_box_sized node_shape)) blank) in
    subst (λ q. Resolves (maybe_spelling w) (option boxed_shape) o q pos start bytes bytes (Ok tt)) (sym is) (by o (sym zero_over))
  where
    by : (o : Option Tree) → bytes ≡ overwrite bytes start (zeros (size_of (option boxed_shape))) → Resolves (maybe_spelling w) (option boxed_shape) o None pos start bytes bytes (Ok tt)
    by None same = (tt, same)
    by (Some t) same = (tt, same)

length-trees_in : (wholes : List Tree) (ns : List Node) → length (trees_within wholes ns) ≡ length ns
length-trees_in wholes ns = by ns where
  by : (ms : List Node) → length (trees_within wholes ms) ≡ length ms
  by [] = refl
  by (m ∷ ms) = omega (arith, by ms)

-- a vector is resolved where its offset and its length are written
pub vec_resolved :
    (wholes : List Tree) (w : Spelling Tree Resolver) (ns : List Node) (len : ℕ) (r : VecResolver) (pos start : ℕ) (old new : List ℕ) (result : Result (Unit {0}) Error)
    → len ≡ length ns
    → MatchResult result
    (λ _. (FitsOffset pos r.pos × (len < 2 ^ 32)) × (new ≡ overwrite old start (offset_bytes pos r.pos ++ to_le_bytes w32 len)))
    (λ e. (((e ≡ LengthTooLarge) × (2 ^ 32 ≤ len)) ⊎ ((e ≡ IsizeOverflow) × (len < 2 ^ 32) × (FitsOffset pos r.pos → ⊥))) × (new ≡ old))
    → Resolves (list_spelling w) (vector node_shape) (trees_within wholes ns) r pos start old new result
vec_resolved wholes w ns len r pos start old new result is h =
    laws.slice_resolved node_shape (vector node_shape) w (trees_within wholes ns) len r.pos pos start old new result (is ∙ sym (length-trees_in wholes ns)) h

pub length-pairs_in : (wholes : List Tree) (ps : List (String Global × Node)) → length (pairs_within wholes ps) ≡ length ps
length-pairs_in wholes [] = refl
length-pairs_in wholes (p ∷ ps) = ap suc (length-pairs_in wholes ps)

-- a map is resolved where the pointer to its root and its length are written
pub map_resolved :
    (wholes : List Tree) (w : Spelling Tree Resolver) (ps : List (String Global × Node)) (len : ℕ) (r : BTreeMapResolver) (pos start : ℕ) (old new : List ℕ) (result : Result (Unit {0}) Error)
    → len ≡ length ps
    → MatchResult result
    (λ _. (LinkFits r.pos pos × (len < 2 ^ 32)) × (new ≡ overwrite old start (link_bytes r.pos pos ++ to_le_bytes w32 len)))
    (λ e. (((e ≡ LengthTooLarge) × (2 ^ 32 ≤ len)) ⊎ (LinkRefused r.pos pos e × (len < 2 ^ 32))) × (new ≡ old))
    → Resolves (ordered_spelling w) (tree_shape 5 text node_shape) (pairs_within wholes ps) r pos start old new result
map_resolved wholes w ps len r pos start old new (Ok u) is h =
    let same : len ≡ length (pairs_within wholes ps) = is ∙ sym (length-pairs_in wholes ps) in
    ((h.0.0, subst (λ n. n < 2 ^ 32) same h.0.1), h.1 ∙ ap (λ n. overwrite old start (link_bytes r.pos pos ++ to_le_bytes w32 n)) same)
map_resolved wholes w ps len r pos start old new (Err e) is h =
    let same : len ≡ length (pairs_within wholes ps) = is ∙ sym (length-pairs_in wholes ps) in
    (⊎_elim (λ x. inr (subst (λ n. 2 ^ 32 ≤ n) same x.1, x.0)) (λ x. inl x.0) h.0, spares_same old new start (size_of (tree_shape 5 text node_shape)) h.1)

-- a counted pointer is resolved where its offset is written
pub whole_payload :
    (wholes : List Tree) (w : Spelling Tree Resolver) (x : Tree) (r : RcResolver) (pos start : ℕ) (old new : List ℕ) (result : Result (Unit {0}) Error)
    → MatchResult result (λ _. FitsOffset pos r.pos × (new ≡ overwrite old start (offset_bytes pos r.pos))) (λ e. (e ≡ IsizeOverflow) × ((FitsOffset pos r.pos → ⊥) × (new ≡ old)))
    → Resolves (whole_spelling wholes w) whole_shape x r pos start old new result
whole_payload wholes w x r pos start old new result h = laws.box_resolved node_shape whole_shape w x r.pos pos start old new result h

-- the own bytes of an index map are those of its table and of a pointer
length-both : (controls entries : Option ℕ) (pos at len cap : ℕ) → length ((link_bytes controls pos ++ (to_le_bytes w32 len ++ to_le_bytes w32 cap)) ++ link_bytes entries at) ≡ 16
length-both controls entries pos at len cap =
    let own = link_bytes controls pos ++ (to_le_bytes w32 len ++ to_le_bytes w32 cap) in
    let first = length-own controls pos len cap in
    let last = length-link entries at in
    length-append own (link_bytes entries at) ∙ omega (arith, first, last)

pub whole_is : (found : Option Tree) → whole_of found ≡ tree.whole (tree_numbered found)
whole_is None = refl
whole_is (Some t) = refl

-- ---- payloads in nodes

-- where a payload lies in a node
pub record KindPlace (s : Shape) (offset : ℕ) : Type 0 where
  pub first : 1 ≤ offset
  pub at : align_up 1 (align_of s) ≡ offset
  pub fits : offset + size_of s ≤ 24

pub truth_place : KindPlace truth 1
unfolding align_up
truth_place = record { first = omega arith; at = refl; fits = omega arith }

pub number_place : KindPlace (number w64 true) 8
unfolding align_up
number_place = record { first = omega arith; at = refl; fits = omega arith }

pub text_place : KindPlace text 4
unfolding align_up
text_place = record { first = omega arith; at = refl; fits = omega arith }

pub shared_place : KindPlace (shared_shape false str) 4
unfolding align_up
shared_place = record { first = omega arith; at = refl; fits = omega arith }

pub maybe_place : KindPlace (option boxed_shape) 4
unfolding align_up
maybe_place = record { first = omega arith; at = refl; fits = omega arith }

pub list_place : KindPlace (vector node_shape) 4
unfolding align_up
list_place = record { first = omega arith; at = refl; fits = omega arith }

pub ordered_place : KindPlace (tree_shape 5 text node_shape) 4
unfolding align_up
ordered_place = record { first = omega arith; at = refl; fits = omega arith }

pub hashed_place : KindPlace (table pair_shape) 4
unfolding align_up
hashed_place = record { first = omega arith; at = refl; fits = omega arith }

pub whole_place : KindPlace whole_shape 4
unfolding align_up
whole_place = record { first = omega arith; at = refl; fits = omega arith }

pub kept_place : KindPlace (index_map text node_shape) 4
unfolding align_up
kept_place = record { first = omega arith; at = refl; fits = omega arith }

module _ (wholes : List Tree) (r : NodeResolver) (bytes set_bytes new final : List ℕ) (start pos from there : ℕ) (result : Result (Unit {0}) Error)
    (room : start + 24 ≤ length bytes) (blank : HasBytes bytes start (zeros 24)) (ends : new ≡ final) where
  -- a payload that is resolved after its tag is the node's
  kind_resolved :
      {A R : Type 0} (tag offset : ℕ) (s : Shape) (w : Spelling A R) (make : R → Resolver) (get : Resolver → R) → KindPlace s offset
      → (x : A) (t : Tree) → ((q : R) (p : ℕ) → w.own_fits x q p → length (w.own x q p) ≡ size_of s)
      → set_bytes ≡ set bytes start tag → from ≡ start + offset → there ≡ pos + offset
      → (k : R) → k ≡ get (resolver_in r)
      → Resolves w s x k there from set_bytes new result
      → Resolves (node_of tag s w make get x) node_shape t (resolver_in r) pos start bytes final result
  unfolding align_up
  kind_resolved tag offset s w make get place x t sized is_set is_from is_there k is h =
      let here = subst (λ q. Resolves w s x q there from set_bytes new result) is h in
      let behind = payload_resolved w s node_shape tag offset place.first place.fits bytes set_bytes new final start pos from there x (get (resolver_in r)) result (sized (get (resolver_in r))) room blank is_set is_from is_there ends here in
      subst (λ n. Resolves (payload_spelling tag n 24 w) node_shape x (get (resolver_in r)) pos start bytes final result) (sym place.at) behind

  -- of each node with the tree
  as_tree : (n : Node) (t : Tree) → node_tree wholes n ≡ t → Resolves (node_spelling wholes) node_shape t (resolver_in r) pos start bytes final result → Resolves (archived_as wholes) node_shape n r pos start bytes final result
  as_tree n t is h = subst (λ u. Resolves (node_spelling wholes) node_shape u (resolver_in r) pos start bytes final result) (sym is) h

  pub truth_resolved :
      (n : Node) (b : Bool) → n ≡ node.Bool b
      → set_bytes ≡ set bytes start 0 → from ≡ start + 1 → there ≡ pos + 1
      → Resolves truth_spelling truth b tt there from set_bytes new result
      → Resolves (archived_as wholes) node_shape n r pos start bytes final result
  truth_resolved n b is is_set is_from is_there h =
      let t = tree.leaf (tree.truth b) in
      as_tree n t (ap (node_tree wholes) is ∙ node_tree-bool wholes b)
      (kind_resolved 0 1 truth truth_spelling (λ _. resolver.leaf) (λ _. tt) truth_place b t (λ q p f. f.1) is_set is_from is_there tt refl h)

  pub number_resolved :
      (n : Node) (z : ℤ) → n ≡ node.Int z
      → set_bytes ≡ set bytes start 1 → from ≡ start + 8 → there ≡ pos + 8
      → Resolves number_spelling (number w64 true) z tt there from set_bytes new result
      → Resolves (archived_as wholes) node_shape n r pos start bytes final result
  number_resolved n z is is_set is_from is_there h =
      let t = tree.leaf (tree.number z) in
      as_tree n t (ap (node_tree wholes) is ∙ node_tree-int wholes z)
      (kind_resolved 1 8 (number w64 true) number_spelling (λ _. resolver.leaf) (λ _. tt) number_place z t (λ q p f. f.1) is_set is_from is_there tt refl h)

  pub text_resolved :
      (n : Node) (s : String Global) → n ≡ node.Text s
      → set_bytes ≡ set bytes start 2 → from ≡ start + 4 → there ≡ pos + 4
      → (k : StringResolver) → k ≡ text_in (resolver_in r)
      → Resolves str_spelling text (string_bytes s) k there from set_bytes new result
      → Resolves (archived_as wholes) node_shape n r pos start bytes final result
  text_resolved n s is is_set is_from is_there k is_in h =
      let x = string_bytes s in
      let t = tree.leaf (tree.text x) in
      as_tree n t (ap (node_tree wholes) is ∙ node_tree-text wholes s)
      (kind_resolved 2 4 text str_spelling resolver.text text_in text_place x t (λ q p f. (text_spells (first_fit (λ _. 0)) KnowsNode x).sized q.pos p f) is_set is_from is_there k is_in h)

  pub shared_resolved :
      (n : Node) (s : RcStr Global) → n ≡ node.Shared s
      → set_bytes ≡ set bytes start 3 → from ≡ start + 4 → there ≡ pos + 4
      → (k : RcResolver) → k ≡ shared_in (resolver_in r)
      → Resolves shared_string_spelling (shared_shape false str) (rc_str_bytes s) k there from set_bytes new result
      → Resolves (archived_as wholes) node_shape n r pos start bytes final result
  shared_resolved n s is is_set is_from is_there k is_in h =
      let x = rc_str_bytes s in
      let t = tree.shared x in
      as_tree n t (ap (node_tree wholes) is ∙ node_tree-shared wholes s)
      (kind_resolved 3 4 (shared_shape false str) shared_string_spelling resolver.shared shared_in shared_place x t
      (λ q p f. (shared_text_spells (first_fit (λ _. 0)) false KnowsNode key_of_text x).sized q.pos p f) is_set is_from is_there k is_in h)

  -- the own bytes of an option are the same however the node in it is archived
  maybe_alike :
      (w u : Spelling Tree Resolver) (offset size : ℕ) (o : Option Tree) (q : Option BoxResolver)
      → Resolves (payload_spelling 4 offset size (maybe_spelling w)) node_shape o q pos start bytes final result
      → Resolves (payload_spelling 4 offset size (maybe_spelling u)) node_shape o q pos start bytes final result
  maybe_alike w u offset size None None h = h
  maybe_alike w u offset size None (Some q) h = h
  maybe_alike w u offset size (Some t) None h = h
  maybe_alike w u offset size (Some t) (Some q) h = h

  pub maybe_resolved :
      (n : Node) (o : Option (Box Node Global)) → n ≡ node.Maybe o
      → set_bytes ≡ set bytes start 4 → from ≡ start + 4 → there ≡ pos + 4
      → (k : Option BoxResolver) → k ≡ maybe_in (resolver_in r)
      → Resolves (maybe_spelling (node_spelling wholes)) (option boxed_shape) (tree_within wholes o) k there from set_bytes new result
      → Resolves (archived_as wholes) node_shape n r pos start bytes final result
  maybe_resolved n o is is_set is_from is_there k is_in h = by o is h
    where
      size : ℕ
      size = size_of (choice payloads)

      offset : ℕ
      offset = align_up 1 (align_of (option boxed_shape))

      inside : (x : Option Tree) (t : Tree) → Resolves (maybe_spelling (node_spelling wholes)) (option boxed_shape) x k there from set_bytes new result
          → Resolves (payload_spelling 4 offset size (maybe_spelling (levels_spelling (node_level wholes) refused (depth t)))) node_shape x (maybe_in (resolver_in r)) pos start bytes final result
      inside x t h =
          let fit = first_fit (λ _. 0) in
          let boxes = kept_spells fit boxed_shape KnowsNode (λ n. record { pos = n }) (λ r. r.pos) (λ r. refl) (box_spelling node_shape (node_spelling wholes)) (box_spells fit node_shape KnowsNode (node_spelling wholes) (node_spells_law wholes fit)) in
          maybe_alike (node_spelling wholes) (levels_spelling (node_level wholes) refused (depth t)) offset size x (maybe_in (resolver_in r))
          (kind_resolved 4 4 (option boxed_shape) (maybe_spelling (node_spelling wholes)) resolver.maybe maybe_in maybe_place x t
          (λ q p f. (option_spells fit boxed_shape KnowsNode (boxed_spelling (node_spelling wholes)) boxes x).sized q p f) is_set is_from is_there k is_in h)

      by : (o : Option (Box Node Global)) → n ≡ node.Maybe o → Resolves (maybe_spelling (node_spelling wholes)) (option boxed_shape) (tree_within wholes o) k there from set_bytes new result → Resolves (archived_as wholes) node_shape n r pos start bytes final result
      by None is h = as_tree n tree.nothing (ap (node_tree wholes) is ∙ node_tree-none wholes) (inside None tree.nothing h)
      by (Some b) is h = let t = tree.just (node_tree wholes b.value) in as_tree n t (ap (node_tree wholes) is ∙ node_tree-some wholes b) (inside (Some (node_tree wholes b.value)) t h)

  pub list_resolved :
      (n : Node) (v : Vec Node Global) → n ≡ node.List v
      → set_bytes ≡ set bytes start 5 → from ≡ start + 4 → there ≡ pos + 4
      → (k : VecResolver) → k ≡ list_in (resolver_in r)
      → Resolves (list_spelling (node_spelling wholes)) (vector node_shape) (trees_within wholes v.items) k there from set_bytes new result
      → Resolves (archived_as wholes) node_shape n r pos start bytes final result
  list_resolved n v is is_set is_from is_there k is_in h =
      let fit = first_fit (λ _. 0) in
      let t = tree.list (node_trees wholes v.items) in
      let x = trees_within wholes v.items in
      as_tree n t (ap (node_tree wholes) is ∙ node_tree-list wholes v)
      (kind_resolved 5 4 (vector node_shape) (list_spelling (node_spelling wholes)) resolver.list list_in list_place x t
      (λ q p f. (slice_spells fit node_shape KnowsNode (node_spelling wholes) (node_spells_law wholes fit) x).sized q.pos p f) is_set is_from is_there k is_in h)

  pub ordered_resolved :
      (n : Node) (b : BTreeMap (String Global) Node) → n ≡ node.Ordered b
      → set_bytes ≡ set bytes start 6 → from ≡ start + 4 → there ≡ pos + 4
      → (k : BTreeMapResolver) → k ≡ ordered_in (resolver_in r)
      → Resolves (ordered_spelling (node_spelling wholes)) (tree_shape 5 text node_shape) (pairs_within wholes b.entries) k there from set_bytes new result
      → Resolves (archived_as wholes) node_shape n r pos start bytes final result
  ordered_resolved n b is is_set is_from is_there k is_in h =
      let fit = first_fit (λ _. 0) in
      let t = tree.map ordered (node_pairs wholes b.entries) in
      let x = pairs_within wholes b.entries in
      as_tree n t (ap (node_tree wholes) is ∙ node_tree-ordered wholes b)
      (kind_resolved 6 4 (tree_shape 5 text node_shape) (ordered_spelling (node_spelling wholes)) resolver.ordered ordered_in ordered_place x t
      (λ q p f. (map_spells fit 5 text node_shape KnowsNode str_spelling (node_spelling wholes) (λ y. kept_spells_at fit text KnowsNode _ _ (λ z. refl) text_spelling y (text_spells fit KnowsNode y)) (node_spells_law wholes fit) x (λ _. omega arith)).sized q.pos p f) is_set is_from is_there k is_in h)

  pub hashed_resolved :
      (n : Node) (b : BTreeMap (String Global) Node) → n ≡ node.Hashed b
      → set_bytes ≡ set bytes start 7 → from ≡ start + 4 → there ≡ pos + 4
      → (k : HashTableResolver) → k ≡ hashed_in (resolver_in r)
      → Resolves (hashed_spelling (node_spelling wholes)) (table pair_shape) (pairs_within wholes b.entries) k there from set_bytes new result
      → Resolves (archived_as wholes) node_shape n r pos start bytes final result
  hashed_resolved n b is is_set is_from is_there k is_in h =
      let t = tree.map hashed (node_pairs wholes b.entries) in
      let x = pairs_within wholes b.entries in
      as_tree n t (ap (node_tree wholes) is ∙ node_tree-hashed wholes b)
      (kind_resolved 7 4 (table pair_shape) (hashed_spelling (node_spelling wholes)) resolver.hashed hashed_in hashed_place x t
      (λ q p f. length-own q.pos p _ _) is_set is_from is_there k is_in h)

  pub kept_resolved :
      (n : Node) (v : Vec (String Global × Node) Global) → n ≡ node.Kept v
      → set_bytes ≡ set bytes start 8 → from ≡ start + 4 → there ≡ pos + 4
      → (k : IndexMapResolver) → k ≡ kept_in (resolver_in r)
      → Resolves (kept_spelling (node_spelling wholes)) (index_map text node_shape) (pairs_within wholes v.items) k there from set_bytes new result
      → Resolves (archived_as wholes) node_shape n r pos start bytes final result
  kept_resolved n v is is_set is_from is_there k is_in h =
      let t = tree.map kept (node_pairs wholes v.items) in
      let x = pairs_within wholes v.items in
      as_tree n t (ap (node_tree wholes) is ∙ node_tree-kept wholes v)
      (kind_resolved 8 4 (index_map text node_shape) (kept_spelling (node_spelling wholes)) resolver.kept kept_in kept_place x t
      (λ q p f. length-both q.table.pos q.entries p (p + 12) _ _) is_set is_from is_there k is_in h)

  pub whole_resolved :
      (n : Node) (m : ℕ) → n ≡ node.Whole m
      → set_bytes ≡ set bytes start 9 → from ≡ start + 4 → there ≡ pos + 4
      → (k : RcResolver) → k ≡ whole_in (resolver_in r)
      → ((x : Tree) → Resolves (whole_spelling wholes (node_spelling wholes)) whole_shape x k there from set_bytes new result)
      → Resolves (archived_as wholes) node_shape n r pos start bytes final result
  whole_resolved n m is is_set is_from is_there k is_in h =
      let fit = first_fit (λ _. 0) in
      let x = tree_numbered (numbered wholes m) in
      let t = tree.whole x in
      as_tree n t (ap (node_tree wholes) is ∙ node_tree-whole wholes m ∙ whole_is (numbered wholes m))
      (kind_resolved 9 4 whole_shape (whole_spelling wholes (node_spelling wholes)) resolver.whole whole_in whole_place x t
      (λ q p f. (shared_value_spells fit false node_shape KnowsNode (node_spelling wholes) (key_of_whole wholes) (node_spells_law wholes fit) x).sized q.pos p f) is_set is_from is_there k is_in (h x))

-- what is kept of a text was made of it
pub text_made : (wholes : List Tree) (n : Node) (s : String Global) (r : NodeResolver) (k : StringResolver) → n ≡ node.Text s → k ≡ text_in (resolver_in r)
    → (st : State) × (r ≡ (archived_as wholes).resolver n st) → (st : State) × (k ≡ str_spelling.resolver (string_bytes s) st)
text_made wholes n s r k is is_in made =
    (made.0, is_in ∙ ap (λ q. text_in (resolver_in q)) (made.1 ∙ ap (λ t. node_resolver ((node_spelling wholes).resolver t made.0)) (ap (node_tree wholes) is ∙ node_tree-text wholes s)))
