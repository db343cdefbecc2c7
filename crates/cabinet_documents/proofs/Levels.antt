-- The bytes that are written for a node are those that the layout reads, and are canonical.
use Rattle.std.proofs.Common.{◌≡◌, ℕ, suc, true, false, ◌≤◌, ◌<◌, List, map as list_map, Some, None, refl, arith}
use Rattle.std.proofs.Math.Nat.{le-max_left, le-max_right}
use Rattle.std.proofs.lemmas.List.{length-map}
use Rattle.std.specs.Int.{w64, to_le_bytes, cast_unsigned}
use Rattle.archive_shape_layout.specs.Bytes.{align_up}
use Rattle.archive_shape_layout.specs.Shape.{Shape, align_of, size_of}
use Rattle.archive_shape_layout.specs.Shape.Alignment.{eight}
use Rattle.archive_shape_layout.specs.Shape.Shape.{number, truth, text, option, choice, vector, tree, table, index_map, shared as shared_shape}
use Rattle.archive_shape_layout.specs.Shape.Pointee.{sized, str}
use Rattle.archive_shape_layout.specs.Value.Value.{integer, boolean}
use Rattle.archive_shape_layout.specs.Content.{shape_tagged}
use Rattle.archive_shape_layout.specs.Numbers.{truth_bytes}
use Rattle.archive_shape_canonical.specs.Hash.{text_hash}
use Rattle.archive_shape_canonical.specs.Settled.{Fit}
use Rattle.archive_forms_laws.specs.Spelling.{Spelling}
use Rattle.archive_forms_laws.specs.Spells.{SpellsAt, EachSpells}
use Rattle.archive_forms_laws.specs.Forms.{seen_as}
use Rattle.archive_forms_laws.specs.Pointers.{slice_spelling, box_spelling}
use Rattle.archive_forms_laws.specs.Payloads.{payload_spelling}
use Rattle.archive_forms_laws.specs.Texts.{text_spelling}
use Rattle.archive_forms_laws.specs.Shared.{shared_text_spelling, shared_value_spelling}
use Rattle.archive_forms_laws.proofs.Behind.{value_behind}
use Rattle.archive_forms_laws.proofs.Fields.{tuple2_spells_at}
use Rattle.archive_forms_laws.proofs.Leaves.{leaf_spells}
use Rattle.archive_forms_laws.proofs.Levels.{named_spells_at, self_spells}
use Rattle.archive_forms_laws.proofs.Options.{none_spells, some_spells}
use Rattle.archive_forms_laws.proofs.Payloads.{variant_spells_at}
use Rattle.archive_forms_laws.proofs.Pointers.{box_spells_at, slice_spells_at}
use Rattle.archive_forms_laws.proofs.Texts.{text_spells}
use Rattle.archive_forms_laws.proofs.Shared.{shared_text_spells, shared_spells_at}
use Rattle.archive_forms_laws.proofs.Views.{kept_spells_at, seen_spells_at}
use Rattle.archive_btree_spelling.specs.Maps.{btree_spelling}
use Rattle.archive_btree_spelling.proofs.Slots.{EachEntrySpells}
use Rattle.archive_btree_spelling.proofs.Maps.{btree_spells_at}
use Rattle.archive_hash_writing.specs.Tables.{table_spelling}
use Rattle.archive_hash_writing.specs.Tables.{hashed_spelling as of_hashes}
use Rattle.archive_hash_writing.proofs.Small.{text_hashes_small}
use Rattle.archive_hash_writing.proofs.SpellingTables.{hashed_spells_of}
use Rattle.archive_hash_writing.specs.IndexMaps.{index_spelling}
use Rattle.archive_hash_writing.specs.IndexResolvers.{resolver_of, positions_of}
use Rattle.archive_hash_writing.proofs.IndexMaps.{index_spells_at}
use Rattle.cabinet_text_grammar.specs.Keys.{ordered, hashed, kept}
use Rattle.cabinet_text_grammar.specs.Tree as document
use Rattle.cabinet_text_grammar.specs.Tree.{Tree, Trees, Pairs, leaf, shared, nothing, just, list, map, whole, no_trees, more_trees, no_pairs, more_pairs, depth, most_depth, pairs_depth}
use Rattle.cabinet_documents.specs.Node.{KnowsNode, node_shape, pair_shape, whole_shape, payloads}
use Rattle.cabinet_documents.specs.SharedKeys.{key_of_text, key_of_whole}
use Rattle.cabinet_documents.specs.Resolver.{Resolver}
use Rattle.cabinet_documents.specs.Resolver as resolver
use Rattle.cabinet_documents.specs.Spelling.{truth_spelling, number_spelling, shared_string_spelling, boxed_shape, boxed_spelling, maybe_spelling, list_spelling, ordered_spelling, pair_spelling, hashed_spelling, kept_spelling, trees_in, pairs_in, text_in, shared_in, maybe_in, list_in, ordered_in, hashed_in, kept_in, whole_in, whole_spelling, node_of, refused, spelling_of, node_level}
use Rattle.cabinet_documents.specs.SpellingLaws.{NodeSpells}
use Rattle.archive_forms_writing.specs.Owned.{str_spelling}

module _ (fit : Fit) where
  -- the law of a payload is that of the node with it
  node_of_spells : {A R : Type 0} (tag : ℕ) (s : Shape) (w : Spelling A R) (make : R → Resolver) (get : Resolver → R) (back : (r : R) → get (make r) ≡ r)
      → tag < 256 → shape_tagged tag payloads ≡ Some s
      → (x : A) (t : Tree) → SpellsAt fit s KnowsNode w x → SpellsAt fit (choice payloads) KnowsNode (node_of tag s w make get x) t
  node_of_spells tag s w make get back small is x t one =
      let behind = payload_spelling tag (align_up 1 (align_of s)) (size_of (choice payloads)) w in
      kept_spells_at fit (choice payloads) KnowsNode make get back (seen_as (λ _. x) behind) t
      (seen_spells_at fit (choice payloads) KnowsNode (λ _. x) behind t (variant_spells_at fit payloads tag s KnowsNode w small is x one))

  text_spells_here : (s : List ℕ) → SpellsAt fit text KnowsNode str_spelling s
  text_spells_here s = kept_spells_at fit text KnowsNode _ _ (λ r. refl) text_spelling s (text_spells fit KnowsNode s)

  module _ (wholes : List Tree) (w : Spelling Tree Resolver) where
    -- the node in a whole, where it is shared
    whole_spells : (t : Tree) → SpellsAt fit node_shape KnowsNode w t → SpellsAt fit whole_shape KnowsNode (shared_value_spelling node_shape (key_of_whole wholes) w) t
    whole_spells t one =
        shared_spells_at fit false (sized node_shape) KnowsNode (λ y. 1) (key_of_whole wholes) (box_spelling node_shape w) t
        (box_spells_at fit node_shape KnowsNode w t one) (value_behind fit node_shape KnowsNode w t one)

    each_below : (n : ℕ) (ts : Trees) → suc (most_depth ts) ≤ n → ((y : Tree) → suc (depth y) ≤ n → SpellsAt fit node_shape KnowsNode w y)
        → EachSpells fit node_shape KnowsNode w (trees_in ts)
    each_below n no_trees less below = tt
    each_below n (more_trees t ts) less below =
        let a = le-max_left (depth t) (most_depth ts) in
        let b = le-max_right (depth t) (most_depth ts) in
        (below t (omega (arith, a)), each_below n ts (omega (arith, b)) below)

    each_entry_below : (n : ℕ) (ps : Pairs) → suc (pairs_depth ps) ≤ n → ((y : Tree) → suc (depth y) ≤ n → SpellsAt fit node_shape KnowsNode w y)
        → EachEntrySpells fit 5 text node_shape KnowsNode str_spelling w (pairs_in ps)
    each_entry_below n no_pairs less below = tt
    each_entry_below n (more_pairs k t ps) less below =
        let a = le-max_left (depth t) (pairs_depth ps) in
        let b = le-max_right (depth t) (pairs_depth ps) in
        ((text_spells_here k, below t (omega (arith, a))), each_entry_below n ps (omega (arith, b)) below)

    each_pair_below : (n : ℕ) (ps : Pairs) → suc (pairs_depth ps) ≤ n → ((y : Tree) → suc (depth y) ≤ n → SpellsAt fit node_shape KnowsNode w y)
        → EachSpells fit pair_shape KnowsNode (pair_spelling w) (pairs_in ps)
    each_pair_below n no_pairs less below = tt
    each_pair_below n (more_pairs k t ps) less below =
        let a = le-max_left (depth t) (pairs_depth ps) in
        let b = le-max_right (depth t) (pairs_depth ps) in
        (tuple2_spells_at fit KnowsNode text str_spelling node_shape w (k, t) (text_spells_here k) (below t (omega (arith, a))), each_pair_below n ps (omega (arith, b)) below)

    as_table : (xs : List (List ℕ × Tree)) → SpellsAt fit (table pair_shape) KnowsNode (of_hashes 7 8 pair_shape (pair_spelling w) (list_map (λ p. text_hash p.0) xs)) xs
        → SpellsAt fit (table pair_shape) KnowsNode (table_spelling 7 8 pair_shape (pair_spelling w) (λ p. text_hash p.0)) xs
    as_table xs one = record {
      sized = one.sized;
      canonical = one.canonical;
      consistent = one.consistent;
      keyed = one.keyed;
      piece_bytes = one.piece_bytes;
      own_bytes = one.own_bytes;
      piece_exact = one.piece_exact;
      own_exact = one.own_exact;
      unshared = one.unshared;
    }

    -- by the kind of a document
    case_spells : (n : ℕ) (t : Tree) → depth t ≤ n → ((y : Tree) → suc (depth y) ≤ n → SpellsAt fit node_shape KnowsNode w y)
        → SpellsAt fit (choice payloads) KnowsNode (spelling_of wholes w t) t
    case_spells n (leaf (document.truth b)) less below =
        node_of_spells 0 truth truth_spelling (λ _. resolver.leaf) (λ _. tt) (λ r. refl) (omega arith) refl b (leaf (document.truth b))
        (leaf_spells fit truth KnowsNode truth_bytes boolean tt b)
    case_spells n (leaf (document.number z)) less below =
        node_of_spells 1 (number w64 true) number_spelling (λ _. resolver.leaf) (λ _. tt) (λ r. refl) (omega arith) refl z (leaf (document.number z))
        (leaf_spells fit (number w64 true) KnowsNode (λ n. to_le_bytes w64 (cast_unsigned w64 n)) integer tt z)
    case_spells n (leaf (document.text s)) less below =
        node_of_spells 2 text str_spelling resolver.text text_in (λ r. refl) (omega arith) refl s (leaf (document.text s)) (text_spells_here s)
    case_spells n (shared s) less below =
        node_of_spells 3 (shared_shape false str) shared_string_spelling resolver.shared shared_in (λ r. refl) (omega arith) refl s (shared s)
        (kept_spells_at fit (shared_shape false str) KnowsNode _ _ (λ r. refl) (shared_text_spelling key_of_text) s (shared_text_spells fit false KnowsNode key_of_text s))
    case_spells n nothing less below =
        node_of_spells 4 (option boxed_shape) (maybe_spelling w) resolver.maybe maybe_in (λ r. refl) (omega arith) refl None nothing
        (none_spells fit boxed_shape KnowsNode (boxed_spelling w))
    case_spells n (just t) less below =
        node_of_spells 4 (option boxed_shape) (maybe_spelling w) resolver.maybe maybe_in (λ r. refl) (omega arith) refl (Some t) (just t)
        (some_spells fit boxed_shape KnowsNode (boxed_spelling w) t
        (kept_spells_at fit boxed_shape KnowsNode _ _ (λ r. refl) (box_spelling node_shape w) t
        (box_spells_at fit node_shape KnowsNode w t (below t less))))
    case_spells n (list ts) less below =
        node_of_spells 5 (vector node_shape) (list_spelling w) resolver.list list_in (λ r. refl) (omega arith) refl (trees_in ts) (list ts)
        (kept_spells_at fit (vector node_shape) KnowsNode _ _ (λ r. refl) (slice_spelling node_shape w) (trees_in ts)
        (slice_spells_at fit node_shape KnowsNode w (trees_in ts) (each_below n ts less below)))
    case_spells n (map ordered ps) less below =
        node_of_spells 6 (tree 5 text node_shape) (ordered_spelling w) resolver.ordered ordered_in (λ r. refl) (omega arith) refl (pairs_in ps) (map ordered ps)
        (kept_spells_at fit (tree 5 text node_shape) KnowsNode _ _ (λ r. refl) (btree_spelling 5 text node_shape str_spelling w) (pairs_in ps)
        (btree_spells_at fit 5 text node_shape KnowsNode str_spelling w (omega arith) (pairs_in ps) (each_entry_below n ps less below)))
    case_spells n (map hashed ps) less below =
        let xs = pairs_in ps in
        let hashes = list_map (λ (p : List ℕ × Tree). text_hash p.0) xs in
        node_of_spells 7 (table pair_shape) (hashed_spelling w) resolver.hashed hashed_in (λ r. refl) (omega arith) refl xs (map hashed ps)
        (kept_spells_at fit (table pair_shape) KnowsNode _ _ (λ r. refl) (table_spelling 7 8 pair_shape (pair_spelling w) (λ p. text_hash p.0)) xs
        (as_table xs (hashed_spells_of fit pair_shape KnowsNode (pair_spelling w) 7 8 hashes xs (length-map xs (λ p. text_hash p.0)) (text_hashes_small (λ p. p.0) xs) (each_pair_below n ps less below))))
    case_spells n (map kept ps) less below =
        let xs = pairs_in ps in
        let hash : List ℕ × Tree → ℕ = λ p. text_hash p.0 in
        node_of_spells 8 (index_map text node_shape) (kept_spelling w) resolver.kept kept_in (λ r. refl) (omega arith) refl xs (map kept ps)
        (kept_spells_at fit (index_map text node_shape) KnowsNode resolver_of positions_of (λ r. refl) (index_spelling 7 8 pair_shape (pair_spelling w) hash) xs
        (index_spells_at fit text node_shape KnowsNode (pair_spelling w) 7 8 hash xs (text_hashes_small (λ p. p.0) xs) (each_pair_below n ps less below)))
    case_spells n (whole t) less below =
        node_of_spells 9 whole_shape (whole_spelling wholes w) resolver.whole whole_in (λ r. refl) (omega arith) refl t (whole t)
        (kept_spells_at fit whole_shape KnowsNode _ _ (λ r. refl) (shared_value_spelling node_shape (key_of_whole wholes) w) t
        (whole_spells t (below t less)))

    level_spells : (n : ℕ) (t : Tree) → depth t ≤ n → ((y : Tree) → suc (depth y) ≤ n → SpellsAt fit node_shape KnowsNode w y)
        → SpellsAt fit node_shape KnowsNode (node_level wholes w) t
    unfolding align_up
    level_spells n t less below =
        let one = case_spells n t less below in
        named_spells_at (choice payloads) 0 24 eight refl refl fit KnowsNode (λ names known. known) (node_level wholes w) t (record {
          sized = one.sized;
          canonical = one.canonical;
          consistent = one.consistent;
          keyed = one.keyed;
          piece_bytes = one.piece_bytes;
          own_bytes = one.own_bytes;
          piece_exact = one.piece_exact;
          own_exact = one.own_exact;
          unshared = one.unshared;
        })

pub node_spells_law : NodeSpells
node_spells_law wholes fit = self_spells fit node_shape KnowsNode (node_level wholes) refused depth (λ w n x less below. level_spells fit wholes w n x less below)
