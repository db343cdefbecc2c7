-- What is written of a node, by its kind.
use Rattle.std.proofs.Common.{◌≡◌, ℕ, zero, suc, ◌≤◌, ◌<◌, List, [], ◌∷◌, length, map, get_or, Option, Some, None, Result, Ok, Err, refl, sym, ap, ap₂, subst, ◌∙◌, arith, Global, String, Box, Vec}
use Rattle.std.specs.Prelude.{string_bytes}
use Rattle.std.specs.Result.{result_map_both}
use Rattle.std.specs.Rc.{rc_str_bytes}
use Rattle.std.specs.declared.rc.RcStr.{RcStr}
use Rattle.std.proofs.Math.Nat.{le-max_left, le-max_right}
use Rattle.archive_shape_layout.specs.Writing.{WriterMembers}
use Rattle.archive_shape_layout.specs.declared.error.Error.{Error}
use Rattle.archive_forms_laws.specs.Spelling.{Spelling}
use Rattle.archive_forms_laws.specs.Forms.{seen_as, kept_as}
use Rattle.archive_forms_laws.specs.Fields.{tuple2_spelling}
use Rattle.archive_forms_laws.specs.Pointers.{slice_spelling, box_spelling}
use Rattle.archive_forms_laws.specs.Shared.{shared_text_spelling, shared_value_spelling}
use Rattle.archive_forms_laws.specs.Serializing.{Serializes}
use Rattle.archive_forms_laws.proofs.Agreeing.{said, serializes_alike}
use Rattle.archive_forms_writing.specs.Steps.{IsElement}
use Rattle.archive_forms_values.specs.declared.reading.resolving.BoxResolver.{BoxResolver}
use Rattle.archive_forms_values.specs.declared.reading.resolving.VecResolver.{VecResolver}
use Rattle.archive_forms_values.specs.declared.text.resolving.StringResolver.{StringResolver}
use Rattle.cabinet_text_grammar.specs.Tree as tree
use Rattle.cabinet_text_grammar.specs.Keys.{ordered, hashed, kept}
use Rattle.std.specs.BTreeMap.{BTreeMap}
use Rattle.archive_shape_layout.specs.Shape.Shape.{text}
use Rattle.archive_btree.specs.Owned.{entries_spelling}
use Rattle.std.specs.Hash as fed
use Rattle.archive_shape_canonical.specs.Hash.{text_hash}
use Rattle.archive_hash.specs.Owned as table
use Rattle.archive_hash_maps.specs.declared.map.resolving.HashTableResolver.{HashTableResolver}
use Rattle.archive_hash_probing.specs.Inputs.{input_hash}
use Rattle.archive_hash_writing.specs.Tables.{table_spelling, hashed_spelling as items_spelling}
use Rattle.archive_hash_writing.proofs.Seen.{hashed_seen}
use Rattle.archive_hash_writing.proofs.TextHash.{text_fed}
use Rattle.archive_hash_writing.specs.IndexMaps.{index_spelling, map_spelling}
use Rattle.archive_hash_writing.specs.IndexResolvers.{resolver_of, positions_of, pairs_spelling as index_of}
use Rattle.archive_hash_writing.specs.declared.index.resolver.IndexMapResolver.{IndexMapResolver}
use Rattle.archive_hash_writing.proofs.IndexSeen.{map_seen}
use Rattle.archive_hash_writing.proofs.ListSeen.{slice_seen, box_seen}
use Rattle.archive_btree_spelling.specs.Maps.{btree_spelling}
use Rattle.archive_btree_spelling.proofs.Seen.{btree_seen, seen_entry}
use Rattle.archive_btree_maps.specs.declared.map.resolving.BTreeMapResolver.{BTreeMapResolver}
use Rattle.cabinet_text_grammar.specs.Tree.{Tree, depth}
use Rattle.cabinet_text_grammar.specs.Wholes.{numbered, IsNumbered, AreNumbered, ArePairsNumbered}
use Rattle.cabinet_documents.specs.Node.{node_shape, pair_shape}
use Rattle.cabinet_documents.specs.SharedKeys.{key_of_text, key_of_whole}
use Rattle.cabinet_documents.specs.Resolver.{Resolver}
use Rattle.cabinet_documents.specs.Resolver as resolver
use Rattle.cabinet_documents.specs.Spelling.{maybe_spelling, list_spelling, ordered_spelling, pair_spelling, hashed_spelling, kept_spelling, trees_in, node_level, node_spelling}
use Rattle.cabinet_documents.proofs.Agreeing.{one_level_is_written_law}
use Rattle.cabinet_archived.specs.Archived.{node_resolver, resolver_in, archived_as, tree_within, trees_within, most_within, pairs_within, most_in_pairs, tree_numbered}
use Rattle.cabinet_archived.specs.declared.resolver.NodeResolver.{NodeResolver}
use Rattle.cabinet_archived.specs.declared.resolver.NodeResolver.TheVariants as variant
use Rattle.cabinet_archived.proofs.Resolved.{whole_is}
use Rattle.cabinet_text_nodes.specs.View.{trees_of, node_tree, node_trees, node_pairs}
use Rattle.cabinet_text_nodes.specs.declared.node.Node.{Node}
use Rattle.cabinet_text_nodes.specs.declared.node.Node.TheVariants as node
use Rattle.cabinet_text_nodes.proofs.Views.{node_tree-text, node_tree-shared, node_tree-none, node_tree-some, node_tree-list, node_tree-ordered, node_tree-hashed, node_tree-kept, node_tree-whole}
use Rattle.archive_forms_writing.specs.Owned.{str_spelling, string_spelling}

-- the resolver in what is made of one is that one
resolver_back : (r : Resolver) → resolver_in (node_resolver r) ≡ r
resolver_back resolver.leaf = refl
resolver_back (resolver.text r) = refl
resolver_back (resolver.shared r) = refl
resolver_back (resolver.maybe r) = refl
resolver_back (resolver.list r) = refl
resolver_back (resolver.ordered r) = refl
resolver_back (resolver.hashed r) = refl
resolver_back (resolver.kept r) = refl
resolver_back (resolver.whole r) = refl

-- the elements of a list of trees are these trees
trees_in-trees_of : (ts : List Tree) → trees_in (trees_of ts) ≡ ts
trees_in-trees_of [] = refl
trees_in-trees_of (t ∷ ts) = ap (λ us. t ∷ us) (trees_in-trees_of ts)

-- ---- a resolver that is kept as another

module _ {A B R Q : Type 0} (w : Spelling A R) (u : Spelling B R) (x : A) (y : B) (alike : said w x ≡ said u y) where
  kept_alike : (make : R → Q) (get : Q → R) → said (kept_as make get w) x ≡ said (kept_as make get u) y
  kept_alike make get = λ i. record {
    value = (alike i).value;
    plain = (alike i).plain;
    piece = (alike i).piece;
    resolver = λ st. make ((alike i).resolver st);
    met = (alike i).met;
    own = λ r pos. (alike i).own (get r) pos;
    piece_fits = (alike i).piece_fits;
    piece_refused = (alike i).piece_refused;
    own_fits = λ r pos. (alike i).own_fits (get r) pos;
    own_refused = λ r pos e. (alike i).own_refused (get r) pos e;
    suits = (alike i).suits;
  }

-- by the hashes of what its keys feed to a hasher
abbrev key_hash : String Global → ℕ
key_hash k = input_hash (fed.str (string_bytes k))

pub only_element : {A : Type 0} (x y : A) → IsElement (x ∷ []) y → y ≡ x
only_element x y h = by h.0 h.1 h.2
  where
    by : (i : ℕ) → i < 1 → y ≡ get_or (x ∷ []) i y → y ≡ x
    by zero less e = e
    by (suc i) less e = absurd (omega (arith, less))

module _ (wholes : List Tree) where
  -- ---- a vector of nodes is archived as the list of their trees

  abbrev nodes_spelling : Spelling (List Node) VecResolver
  nodes_spelling = kept_as (λ n. record { pos = n }) (λ r. r.pos) (slice_spelling node_shape (archived_as wholes))

  module _ {W : Type 0} (m : WriterMembers W) (ns : List Node) (old new : W) where
    in_trees : (result : Result VecResolver Error) → Serializes nodes_spelling m ns old new result → Serializes (list_spelling (node_spelling wholes)) m (trees_within wholes ns) old new result
    in_trees result h =
        let seen = slice_seen node_shape (node_tree wholes) node_resolver resolver_in resolver_back (node_spelling wholes) ns in
        let alike = kept_alike (slice_spelling node_shape (archived_as wholes)) (slice_spelling node_shape (node_spelling wholes)) ns (map (node_tree wholes) ns) seen (λ n. record { pos = n }) (λ r. r.pos) in
        subst (λ ts. Serializes (list_spelling (node_spelling wholes)) m ts old new result) (sym (trees_in-trees_of (map (node_tree wholes) ns)))
        (serializes_alike nodes_spelling (seen_as (map (node_tree wholes)) (list_spelling (node_spelling wholes))) ns alike m old new result h)

    pub list_written : (pos : ℕ) → Serializes (slice_spelling node_shape (archived_as wholes)) m ns old new (Ok pos) → Serializes (list_spelling (node_spelling wholes)) m (trees_within wholes ns) old new (Ok (record { pos = pos }))
    list_written pos h = in_trees (Ok (record { pos = pos })) (λ st at. let o = h st at in (o.0, (ap (λ q. record { pos = q }) o.1.0, o.1.1, o.1.2)))

    pub list_stopped : (e : Error) → Serializes (slice_spelling node_shape (archived_as wholes)) m ns old new (Err e) → Serializes (list_spelling (node_spelling wholes)) m (trees_within wholes ns) old new (Err e)
    list_stopped e h = in_trees (Err e) h

  -- ---- a box of a node is archived as one of its tree

  pub box_written :
      {W : Type 0} (m : WriterMembers W) (n : Node) (t : Tree) (old new : W) (result : Result ℕ Error)
      → node_tree wholes n ≡ t
      → Serializes (box_spelling node_shape (archived_as wholes)) m n old new result
      → Serializes (box_spelling node_shape (node_spelling wholes)) m t old new result
  box_written m n t old new result same h =
      let seen = box_seen node_shape (node_tree wholes) node_resolver resolver_in resolver_back (node_spelling wholes) n in
      subst (λ u. Serializes (box_spelling node_shape (node_spelling wholes)) m u old new result) same
      (serializes_alike (box_spelling node_shape (archived_as wholes)) (seen_as (node_tree wholes) (box_spelling node_shape (node_spelling wholes))) n seen m old new result h)

  -- ---- a map of nodes is archived as the pairs of their keys and trees

  pairs_are : (ps : List (String Global × Node)) → map (seen_entry string_bytes (node_tree wholes)) ps ≡ pairs_within wholes ps
  pairs_are [] = refl
  pairs_are (p ∷ ps) = ap (λ qs. (string_bytes p.0, node_tree wholes p.1) ∷ qs) (pairs_are ps)

  abbrev pairs_spelling : Spelling (List (String Global × Node)) BTreeMapResolver
  pairs_spelling = entries_spelling 5 text node_shape string_spelling (archived_as wholes)

  pub pairs_written :
      {W : Type 0} (m : WriterMembers W) (ps : List (String Global × Node)) (old new : W) (result : Result BTreeMapResolver Error)
      → Serializes pairs_spelling m ps old new result
      → Serializes (ordered_spelling (node_spelling wholes)) m (pairs_within wholes ps) old new result
  pairs_written m ps old new result h =
      let xs = map (seen_entry string_bytes (node_tree wholes)) ps in
      let seen = btree_seen 5 text node_shape string_bytes (node_tree wholes) node_resolver resolver_in resolver_back str_spelling (node_spelling wholes) ps in
      let alike = kept_alike (btree_spelling 5 text node_shape string_spelling (archived_as wholes)) (btree_spelling 5 text node_shape str_spelling (node_spelling wholes)) ps xs seen (λ o. record { pos = o }) (λ r. r.pos) in
      subst (λ qs. Serializes (ordered_spelling (node_spelling wholes)) m qs old new result) (pairs_are ps)
      (serializes_alike pairs_spelling (seen_as (map (seen_entry string_bytes (node_tree wholes))) (ordered_spelling (node_spelling wholes))) ps alike m old new result h)

  abbrev table_of_pairs : Spelling (List (String Global × Node)) HashTableResolver
  table_of_pairs = table.entries_spelling key_hash text node_shape string_spelling (archived_as wholes)

  hashes_are : (ps : List (String Global × Node)) → map (λ e. key_hash e.0) ps ≡ map (λ p. text_hash p.0) (map (seen_entry string_bytes (node_tree wholes)) ps)
  hashes_are [] = refl
  hashes_are (p ∷ ps) = ap₂ (λ h hs. h ∷ hs) (sym (text_fed (string_bytes p.0))) (hashes_are ps)

  pub table_written :
      {W : Type 0} (m : WriterMembers W) (ps : List (String Global × Node)) (old new : W) (result : Result HashTableResolver Error)
      → Serializes table_of_pairs m ps old new result
      → Serializes (hashed_spelling (node_spelling wholes)) m (pairs_within wholes ps) old new result
  table_written m ps old new result h =
      let view = seen_entry string_bytes (node_tree wholes) in
      let xs = map view ps in
      let own = tuple2_spelling text string_spelling node_shape (archived_as wholes) in
      let seen = ap (λ hs. said (items_spelling 7 8 pair_shape own hs) ps) (hashes_are ps)
      ∙ hashed_seen {Q = StringResolver × NodeResolver} pair_shape view (λ r. (r.0, node_resolver r.1)) (λ r. (r.0, resolver_in r.1)) (λ r i. (r.0, resolver_back r.1 i)) (pair_spelling (node_spelling wholes)) 7 8 (map (λ p. text_hash p.0) xs) ps in
      let alike = kept_alike (table_spelling 7 8 pair_shape own (λ e. key_hash e.0)) (table_spelling 7 8 pair_shape (pair_spelling (node_spelling wholes)) (λ p. text_hash p.0)) ps xs seen (λ o. record { pos = o }) (λ r. r.pos) in
      subst (λ qs. Serializes (hashed_spelling (node_spelling wholes)) m qs old new result) (pairs_are ps)
      (serializes_alike table_of_pairs (seen_as (map view) (hashed_spelling (node_spelling wholes))) ps alike m old new result h)

  abbrev index_of_pairs : Spelling (List (String Global × Node)) IndexMapResolver
  index_of_pairs = index_of key_hash text node_shape string_spelling (archived_as wholes)

  pub index_written :
      {W : Type 0} (m : WriterMembers W) (ps : List (String Global × Node)) (old new : W) (result : Result IndexMapResolver Error)
      → Serializes index_of_pairs m ps old new result
      → Serializes (kept_spelling (node_spelling wholes)) m (pairs_within wholes ps) old new result
  index_written m ps old new result h =
      let view = seen_entry string_bytes (node_tree wholes) in
      let xs = map view ps in
      let own = tuple2_spelling text string_spelling node_shape (archived_as wholes) in
      let seen = ap (λ hs. said (map_spelling 7 8 pair_shape own hs) ps) (hashes_are ps)
      ∙ map_seen {Q = StringResolver × NodeResolver} pair_shape view (λ r. (r.0, node_resolver r.1)) (λ r. (r.0, resolver_in r.1)) (λ r i. (r.0, resolver_back r.1 i)) (pair_spelling (node_spelling wholes)) 7 8 (map (λ p. text_hash p.0) xs) ps in
      let alike = kept_alike (index_spelling 7 8 pair_shape own (λ e. key_hash e.0)) (index_spelling 7 8 pair_shape (pair_spelling (node_spelling wholes)) (λ p. text_hash p.0)) ps xs seen resolver_of positions_of in
      subst (λ qs. Serializes (kept_spelling (node_spelling wholes)) m qs old new result) (pairs_are ps)
      (serializes_alike index_of_pairs (seen_as (map view) (kept_spelling (node_spelling wholes))) ps alike m old new result h)

  -- ---- each node in a list, an option or a map lies in fewer containers

  -- in an option
  abbrev pub depth_within : Option (Box Node Global) → ℕ
  depth_within None = 0
  depth_within (Some b) = depth (node_tree wholes b.value)

  pub element_below : (ns : List Node) (n : Node) → IsElement ns n → depth (node_tree wholes n) ≤ most_within wholes ns
  element_below ns n h = by ns h.0 h.1 h.2
    where
      by : (ms : List Node) (i : ℕ) → i < length ms → n ≡ get_or ms i n → depth (node_tree wholes n) ≤ most_within wholes ms
      by [] i less e = absurd (omega (arith, less))
      by (m ∷ ms) zero less e =
          let same : depth (node_tree wholes n) ≡ depth (node_tree wholes m) = ap (λ x. depth (node_tree wholes x)) e in
          let a = le-max_left (depth (node_tree wholes m)) (most_within wholes ms) in omega (arith, same, a)
      by (m ∷ ms) (suc i) less e =
          let rest = by ms i (omega (arith, less)) e in
          let b = le-max_right (depth (node_tree wholes m)) (most_within wholes ms) in omega (arith, rest, b)

  -- in a map
  pub pair_below : (ps : List (String Global × Node)) (n : Node) → IsElement (map (λ e. e.1) ps) n → depth (node_tree wholes n) ≤ most_in_pairs wholes ps
  pair_below ps n h = by ps h.0 h.1 h.2
    where
      by : (ms : List (String Global × Node)) (i : ℕ) → i < length (map (λ e. e.1) ms) → n ≡ get_or (map (λ e. e.1) ms) i n → depth (node_tree wholes n) ≤ most_in_pairs wholes ms
      by [] i less e = absurd (omega (arith, less))
      by (m ∷ ms) zero less e =
          let same : depth (node_tree wholes n) ≡ depth (node_tree wholes m.1) = ap (λ x. depth (node_tree wholes x)) e in
          let a = le-max_left (depth (node_tree wholes m.1)) (most_in_pairs wholes ms) in omega (arith, same, a)
      by (m ∷ ms) (suc i) less e =
          let rest = by ms i (omega (arith, less)) e in
          let b = le-max_right (depth (node_tree wholes m.1)) (most_in_pairs wholes ms) in omega (arith, rest, b)

  -- ---- and has its wholes in a table that theirs are in

  pub element_numbered : (ns : List Node) (n : Node) → AreNumbered wholes (node_trees wholes ns) → IsElement ns n → IsNumbered wholes (node_tree wholes n)
  element_numbered ns n all h = by ns all h.0 h.1 h.2
    where
      by : (ms : List Node) → AreNumbered wholes (node_trees wholes ms) → (i : ℕ) → i < length ms → n ≡ get_or ms i n → IsNumbered wholes (node_tree wholes n)
      by [] all i less e = absurd (omega (arith, less))
      by (m ∷ ms) all zero less e = subst (λ x. IsNumbered wholes (node_tree wholes x)) (sym e) all.0
      by (m ∷ ms) all (suc i) less e = by ms all.1 i (omega (arith, less)) e

  pub pair_numbered : (ps : List (String Global × Node)) (n : Node) → ArePairsNumbered wholes (node_pairs wholes ps) → IsElement (map (λ e. e.1) ps) n → IsNumbered wholes (node_tree wholes n)
  pair_numbered ps n all h = by ps all h.0 h.1 h.2
    where
      by : (ms : List (String Global × Node)) → ArePairsNumbered wholes (node_pairs wholes ms) → (i : ℕ) → i < length (map (λ e. e.1) ms) → n ≡ get_or (map (λ e. e.1) ms) i n → IsNumbered wholes (node_tree wholes n)
      by [] all i less e = absurd (omega (arith, less))
      by (m ∷ ms) all zero less e = subst (λ x. IsNumbered wholes (node_tree wholes x)) (sym e) all.0
      by (m ∷ ms) all (suc i) less e = by ms all.1 i (omega (arith, less)) e

-- ---- nodes

module _ (wholes : List Tree) {W : Type 0} (m : WriterMembers W) (n : Node) (old new : W) where
  -- what is written of a node's tree is written of the node
  as_tree : (result : Result Resolver Error) → Serializes (node_spelling wholes) m (node_tree wholes n) old new result → Serializes (archived_as wholes) m n old new (result_map_both node_resolver (λ e. e) result)
  as_tree (Ok r) h = λ st at. let o = h st at in (o.0, (ap node_resolver o.1.0, o.1.1, o.1.2))
  as_tree (Err e) h = h

  -- so is what is written of one level of it
  as_level : (t : Tree) (result : Result Resolver Error) → node_tree wholes n ≡ t → Serializes (node_level wholes (node_spelling wholes)) m t old new result → Serializes (archived_as wholes) m n old new (result_map_both node_resolver (λ e. e) result)
  as_level t result is h =
      as_tree result (subst (λ u. Serializes (node_spelling wholes) m u old new result) (sym is) (one_level_is_written_law wholes m t old new result h))

  pub text_wrote : (s : String Global) (r : StringResolver) → n ≡ node.Text s → Serializes str_spelling m (string_bytes s) old new (Ok r) → Serializes (archived_as wholes) m n old new (Ok (variant.Text r))
  text_wrote s r is h =
      as_level (tree.leaf (tree.text (string_bytes s))) (Ok (resolver.text r)) (ap (node_tree wholes) is ∙ node_tree-text wholes s)
      (λ st at. let o = h st at in (o.0, (ap (λ q. resolver.text q) o.1.0, o.1.1, o.1.2)))

  pub text_refused : (s : String Global) (e : Error) → n ≡ node.Text s → Serializes str_spelling m (string_bytes s) old new (Err e) → Serializes (archived_as wholes) m n old new (Err e)
  text_refused s e is h = as_level (tree.leaf (tree.text (string_bytes s))) (Err e) (ap (node_tree wholes) is ∙ node_tree-text wholes s) h

  pub shared_wrote : (s : RcStr Global) (t : List ℕ) (pos : ℕ) → n ≡ node.Shared s → t ≡ rc_str_bytes s
      → Serializes (shared_text_spelling key_of_text) m t old new (Ok pos) → Serializes (archived_as wholes) m n old new (Ok (variant.Shared (record { pos = pos })))
  shared_wrote s t pos is same h =
      as_level (tree.shared t) (Ok (resolver.shared (record { pos = pos }))) (ap (node_tree wholes) is ∙ node_tree-shared wholes s ∙ ap tree.shared (sym same))
      (λ st at. let o = h st at in (o.0, (ap (λ q. resolver.shared (record { pos = q })) o.1.0, o.1.1, o.1.2)))

  pub shared_refused : (s : RcStr Global) (t : List ℕ) (e : Error) → n ≡ node.Shared s → t ≡ rc_str_bytes s
      → Serializes (shared_text_spelling key_of_text) m t old new (Err e) → Serializes (archived_as wholes) m n old new (Err e)
  shared_refused s t e is same h = as_level (tree.shared t) (Err e) (ap (node_tree wholes) is ∙ node_tree-shared wholes s ∙ ap tree.shared (sym same)) h

  pub maybe_wrote : (o : Option (Box Node Global)) (r : Option BoxResolver) → n ≡ node.Maybe o → Serializes (maybe_spelling (node_spelling wholes)) m (tree_within wholes o) old new (Ok r) → Serializes (archived_as wholes) m n old new (Ok (variant.Maybe r))
  maybe_wrote None r is h =
      as_level tree.nothing (Ok (resolver.maybe r)) (ap (node_tree wholes) is ∙ node_tree-none wholes)
      (λ st at. let o = h st at in (o.0, (ap (λ q. resolver.maybe q) o.1.0, o.1.1, o.1.2)))
  maybe_wrote (Some b) r is h =
      as_level (tree.just (node_tree wholes b.value)) (Ok (resolver.maybe r)) (ap (node_tree wholes) is ∙ node_tree-some wholes b)
      (λ st at. let o = h st at in (o.0, (ap (λ q. resolver.maybe q) o.1.0, o.1.1, o.1.2)))

  pub maybe_refused : (o : Option (Box Node Global)) (e : Error) → n ≡ node.Maybe o → Serializes (maybe_spelling (node_spelling wholes)) m (tree_within wholes o) old new (Err e) → Serializes (archived_as wholes) m n old new (Err e)
  maybe_refused None e is h = as_level tree.nothing (Err e) (ap (node_tree wholes) is ∙ node_tree-none wholes) h
  maybe_refused (Some b) e is h = as_level (tree.just (node_tree wholes b.value)) (Err e) (ap (node_tree wholes) is ∙ node_tree-some wholes b) h

  pub list_wrote : (v : Vec Node Global) (r : VecResolver) → n ≡ node.List v → Serializes (list_spelling (node_spelling wholes)) m (trees_within wholes v.items) old new (Ok r) → Serializes (archived_as wholes) m n old new (Ok (variant.List r))
  list_wrote v r is h =
      as_level (tree.list (node_trees wholes v.items)) (Ok (resolver.list r)) (ap (node_tree wholes) is ∙ node_tree-list wholes v)
      (λ st at. let o = h st at in (o.0, (ap (λ q. resolver.list q) o.1.0, o.1.1, o.1.2)))

  pub list_refused : (v : Vec Node Global) (e : Error) → n ≡ node.List v → Serializes (list_spelling (node_spelling wholes)) m (trees_within wholes v.items) old new (Err e) → Serializes (archived_as wholes) m n old new (Err e)
  list_refused v e is h = as_level (tree.list (node_trees wholes v.items)) (Err e) (ap (node_tree wholes) is ∙ node_tree-list wholes v) h

  pub ordered_wrote : (b : BTreeMap (String Global) Node) (r : BTreeMapResolver) → n ≡ node.Ordered b → Serializes (ordered_spelling (node_spelling wholes)) m (pairs_within wholes b.entries) old new (Ok r) → Serializes (archived_as wholes) m n old new (Ok (variant.Ordered r))
  ordered_wrote b r is h =
      as_level (tree.map ordered (node_pairs wholes b.entries)) (Ok (resolver.ordered r)) (ap (node_tree wholes) is ∙ node_tree-ordered wholes b)
      (λ st at. let o = h st at in (o.0, (ap (λ q. resolver.ordered q) o.1.0, o.1.1, o.1.2)))

  pub ordered_refused : (b : BTreeMap (String Global) Node) (e : Error) → n ≡ node.Ordered b → Serializes (ordered_spelling (node_spelling wholes)) m (pairs_within wholes b.entries) old new (Err e) → Serializes (archived_as wholes) m n old new (Err e)
  ordered_refused b e is h = as_level (tree.map ordered (node_pairs wholes b.entries)) (Err e) (ap (node_tree wholes) is ∙ node_tree-ordered wholes b) h

  pub hashed_wrote : (b : BTreeMap (String Global) Node) (r : HashTableResolver) → n ≡ node.Hashed b → Serializes (hashed_spelling (node_spelling wholes)) m (pairs_within wholes b.entries) old new (Ok r) → Serializes (archived_as wholes) m n old new (Ok (variant.Hashed r))
  hashed_wrote b r is h =
      as_level (tree.map hashed (node_pairs wholes b.entries)) (Ok (resolver.hashed r)) (ap (node_tree wholes) is ∙ node_tree-hashed wholes b)
      (λ st at. let o = h st at in (o.0, (ap (λ q. resolver.hashed q) o.1.0, o.1.1, o.1.2)))

  pub hashed_refused : (b : BTreeMap (String Global) Node) (e : Error) → n ≡ node.Hashed b → Serializes (hashed_spelling (node_spelling wholes)) m (pairs_within wholes b.entries) old new (Err e) → Serializes (archived_as wholes) m n old new (Err e)
  hashed_refused b e is h = as_level (tree.map hashed (node_pairs wholes b.entries)) (Err e) (ap (node_tree wholes) is ∙ node_tree-hashed wholes b) h

  pub kept_wrote : (v : Vec (String Global × Node) Global) (r : IndexMapResolver) → n ≡ node.Kept v → Serializes (kept_spelling (node_spelling wholes)) m (pairs_within wholes v.items) old new (Ok r) → Serializes (archived_as wholes) m n old new (Ok (variant.Kept r))
  kept_wrote v r is h =
      as_level (tree.map kept (node_pairs wholes v.items)) (Ok (resolver.kept r)) (ap (node_tree wholes) is ∙ node_tree-kept wholes v)
      (λ st at. let o = h st at in (o.0, (ap (λ q. resolver.kept q) o.1.0, o.1.1, o.1.2)))

  pub kept_refused : (v : Vec (String Global × Node) Global) (e : Error) → n ≡ node.Kept v → Serializes (kept_spelling (node_spelling wholes)) m (pairs_within wholes v.items) old new (Err e) → Serializes (archived_as wholes) m n old new (Err e)
  kept_refused v e is h = as_level (tree.map kept (node_pairs wholes v.items)) (Err e) (ap (node_tree wholes) is ∙ node_tree-kept wholes v) h

  pub whole_wrote : (i pos : ℕ) → n ≡ node.Whole i
      → Serializes (shared_value_spelling node_shape (key_of_whole wholes) (node_spelling wholes)) m (tree_numbered (numbered wholes i)) old new (Ok pos)
      → Serializes (archived_as wholes) m n old new (Ok (variant.Whole (record { pos = pos })))
  whole_wrote i pos is h =
      as_level (tree.whole (tree_numbered (numbered wholes i))) (Ok (resolver.whole (record { pos = pos }))) (ap (node_tree wholes) is ∙ node_tree-whole wholes i ∙ whole_is (numbered wholes i))
      (λ st at. let o = h st at in (o.0, (ap (λ q. resolver.whole (record { pos = q })) o.1.0, o.1.1, o.1.2)))

  pub whole_refused : (i : ℕ) (e : Error) → n ≡ node.Whole i
      → Serializes (shared_value_spelling node_shape (key_of_whole wholes) (node_spelling wholes)) m (tree_numbered (numbered wholes i)) old new (Err e)
      → Serializes (archived_as wholes) m n old new (Err e)
  whole_refused i e is h =
      as_level (tree.whole (tree_numbered (numbered wholes i))) (Err e) (ap (node_tree wholes) is ∙ node_tree-whole wholes i ∙ whole_is (numbered wholes i)) h
