-- Writing one level of a node, with the nodes below it written as nodes, writes the node.
use Rattle.std.proofs.Common.{◌≡◌, ℕ, suc, ◌+◌, ◌≤◌, List, [], ◌∷◌, map as mapped, Option, Some, None, refl, ap, arith}
use Rattle.std.proofs.Math.Nat.{le-max_left, le-max_right}
use Rattle.archive_shape_layout.specs.Bytes.{align_up}
use Rattle.archive_shape_layout.specs.Shape.{Shape, size_of, align_of}
use Rattle.archive_shape_layout.specs.Shape.Shape.{text, option, choice, vector, tree, table, index_map}
use Rattle.archive_shape_layout.specs.Value.Value.{chosen}
use Rattle.archive_shape_layout.specs.Value.Values.{no_values, more_values}
use Rattle.archive_shape_layout.specs.declared.error.Error.{Error}
use Rattle.archive_forms_laws.specs.Spelling.{Spelling}
use Rattle.archive_forms_laws.specs.Forms.{kept_as}
use Rattle.archive_forms_laws.specs.Pointers.{box_spelling, slice_spelling}
use Rattle.archive_forms_laws.specs.Options.{tagged_bytes, payload_at, option_spelling, option_own, option_own_fits, option_own_refused}
use Rattle.archive_forms_laws.proofs.Agreeing.{said, AgreeOn, slices_agree, self_agrees, serializes_alike}
use Rattle.archive_forms_laws.specs.Fields.{tuple2_spelling}
use Rattle.archive_forms_laws.specs.Shared.{shared_value_spelling}
use Rattle.archive_shape_layout.specs.Shape.Pointee.{sized}
use Rattle.archive_shape_canonical.specs.Hash.{text_hash}
use Rattle.archive_forms_writing.specs.Owned.{str_spelling}
use Rattle.archive_btree_spelling.specs.Maps.{btree_spelling}
use Rattle.archive_btree_spelling.proofs.Seen.{btree_agrees}
use Rattle.archive_hash_writing.specs.Tables.{table_spelling}
use Rattle.archive_hash_writing.proofs.Agreeing.{one_spelling, tables_agree}
use Rattle.archive_hash_writing.specs.IndexMaps.{index_spelling}
use Rattle.archive_hash_writing.specs.IndexResolvers.{resolver_of, positions_of}
use Rattle.archive_hash_writing.proofs.IndexAgreeing.{index_agrees}
use Rattle.cabinet_text_grammar.specs.Keys.{ordered, hashed, kept}
use Rattle.cabinet_text_grammar.specs.Tree as document
use Rattle.cabinet_text_grammar.specs.Tree.{Tree, Trees, Pairs, leaf, shared, nothing, just, list, map, whole, no_trees, more_trees, no_pairs, more_pairs, depth, most_depth, pairs_depth}
use Rattle.cabinet_documents.specs.Node.{node_shape, pair_shape, whole_shape, payloads}
use Rattle.cabinet_documents.specs.SharedKeys.{key_of_whole}
use Rattle.cabinet_documents.specs.Resolver.{Resolver}
use Rattle.cabinet_documents.specs.Resolver as resolver
use Rattle.cabinet_documents.specs.Spelling.{boxed_shape, boxed_spelling, maybe_spelling, list_spelling, ordered_spelling, pair_spelling, hashed_spelling, kept_spelling, trees_in, pairs_in, maybe_in, list_in, ordered_in, hashed_in, kept_in, whole_in, whole_spelling, node_of, refused, node_level, node_spelling}
use Rattle.cabinet_documents.specs.SpellingLaws.{OneLevelIsWritten}
use Rattle.cabinet_documents.proofs.SharedAgreeing.{shared_agree}

module _ {A R : Type 0} (w u : Spelling A R) (x : A) (same : said w x ≡ said u x) where
  boxes_agree : (s : Shape) → said (box_spelling s w) x ≡ said (box_spelling s u) x
  boxes_agree s =
      let p = slices_agree w u s (x ∷ []) (same, tt) in
      λ i. record {
        value = (same i).value;
        plain = (same i).plain;
        piece = (p i).piece;
        resolver = (p i).resolver;
        met = (same i).met;
        own = (box_spelling s w).own x;
        piece_fits = (p i).piece_fits;
        piece_refused = (p i).piece_refused;
        own_fits = (box_spelling s w).own_fits x;
        own_refused = (box_spelling s w).own_refused x;
        suits = (same i).suits;
      }

  kept_agree : {Q : Type 0} (make : R → Q) (get : Q → R) → said (kept_as make get w) x ≡ said (kept_as make get u) x
  kept_agree make get = λ i. record {
    value = (same i).value;
    plain = (same i).plain;
    piece = (same i).piece;
    resolver = λ st. make ((same i).resolver st);
    met = (same i).met;
    own = λ r pos. (same i).own (get r) pos;
    piece_fits = (same i).piece_fits;
    piece_refused = (same i).piece_refused;
    own_fits = λ r pos. (same i).own_fits (get r) pos;
    own_refused = λ r pos e. (same i).own_refused (get r) pos e;
    suits = (same i).suits;
  }

  module _ (s : Shape) where
    some_own : (r : Option R) (pos : ℕ) → option_own s w (Some x) r pos ≡ option_own s u (Some x) r pos
    some_own None pos = refl
    some_own (Some r) pos = λ i. tagged_bytes 1 (payload_at s) (size_of (option s)) ((same i).own r (pos + payload_at s))

    some_fits : (r : Option R) (pos : ℕ) → option_own_fits s w (Some x) r pos ≡ option_own_fits s u (Some x) r pos
    some_fits None pos = refl
    some_fits (Some r) pos = λ i. (same i).own_fits r (pos + payload_at s)

    some_refused : (r : Option R) (pos : ℕ) (e : Error) → option_own_refused s w (Some x) r pos e ≡ option_own_refused s u (Some x) r pos e
    some_refused None pos e = refl
    some_refused (Some r) pos e = λ i. (same i).own_refused r (pos + payload_at s) e

    some_agree : said (option_spelling s w) (Some x) ≡ said (option_spelling s u) (Some x)
    some_agree = λ i. record {
      value = λ st. chosen 1 (more_values ((same i).value st) no_values);
      plain = chosen 1 (more_values (same i).plain no_values);
      piece = (same i).piece;
      resolver = λ st. Some ((same i).resolver st);
      met = (same i).met;
      own = λ r pos. some_own r pos i;
      piece_fits = (same i).piece_fits;
      piece_refused = (same i).piece_refused;
      own_fits = λ r pos. some_fits r pos i;
      own_refused = λ r pos e. some_refused r pos e i;
      suits = (same i).suits;
    }

  node_of_agrees : (tag : ℕ) (s : Shape) (make : R → Resolver) (get : Resolver → R) (t : Tree)
      → said (node_of tag s w make get x) t ≡ said (node_of tag s u make get x) t
  node_of_agrees tag s make get t =
      let offset = align_up 1 (align_of s) in
      λ i. record {
        value = λ st. chosen tag (more_values ((same i).value st) no_values);
        plain = chosen tag (more_values (same i).plain no_values);
        piece = (same i).piece;
        resolver = λ st. make ((same i).resolver st);
        met = (same i).met;
        own = λ r pos. tagged_bytes tag offset (size_of (choice payloads)) ((same i).own (get r) (pos + offset));
        piece_fits = (same i).piece_fits;
        piece_refused = (same i).piece_refused;
        own_fits = λ r pos. (same i).own_fits (get r) (pos + offset);
        own_refused = λ r pos e. (same i).own_refused (get r) (pos + offset) e;
        suits = (same i).suits;
      }

module _ {A R : Type 0} (w u : Spelling A R) (s : Shape) where
  none_own : (r : Option R) (pos : ℕ) → option_own s w None r pos ≡ option_own s u None r pos
  none_own None pos = refl
  none_own (Some r) pos = refl

  none_fits : (r : Option R) (pos : ℕ) → option_own_fits s w None r pos ≡ option_own_fits s u None r pos
  none_fits None pos = refl
  none_fits (Some r) pos = refl

  none_refused : (r : Option R) (pos : ℕ) (e : Error) → option_own_refused s w None r pos e ≡ option_own_refused s u None r pos e
  none_refused None pos e = refl
  none_refused (Some r) pos e = refl

  none_agree : said (option_spelling s w) None ≡ said (option_spelling s u) None
  none_agree =
      let o = option_spelling s w in
      λ i. record {
        value = o.value None;
        plain = o.plain None;
        piece = o.piece None;
        resolver = λ st. None;
        met = o.met None;
        own = λ r pos. none_own r pos i;
        piece_fits = o.piece_fits None;
        piece_refused = o.piece_refused None;
        own_fits = λ r pos. none_fits r pos i;
        own_refused = λ r pos e. none_refused r pos e i;
        suits = λ fit keys. o.suits fit keys None;
      }

-- ---- nodes

trees_agree : (w u : Spelling Tree Resolver) (n : ℕ) (ts : Trees) → suc (most_depth ts) ≤ n → ((y : Tree) → suc (depth y) ≤ n → said w y ≡ said u y) → AgreeOn w u (trees_in ts)
trees_agree w u n no_trees less same = tt
trees_agree w u n (more_trees t ts) less same =
    let a = le-max_left (depth t) (most_depth ts) in
    let b = le-max_right (depth t) (most_depth ts) in
    (same t (omega (arith, a)), trees_agree w u n ts (omega (arith, b)) same)

pairs_agree : (w u : Spelling Tree Resolver) (n : ℕ) (ps : Pairs) → suc (pairs_depth ps) ≤ n → ((y : Tree) → suc (depth y) ≤ n → said w y ≡ said u y) → AgreeOn w u (mapped (λ (e : List ℕ × Tree). e.1) (pairs_in ps))
pairs_agree w u n no_pairs less same = tt
pairs_agree w u n (more_pairs k t ps) less same =
    let a = le-max_left (depth t) (pairs_depth ps) in
    let b = le-max_right (depth t) (pairs_depth ps) in
    (same t (omega (arith, a)), pairs_agree w u n ps (omega (arith, b)) same)

-- a pair by its value
pair_agrees : (w u : Spelling Tree Resolver) (p : List ℕ × Tree) → said w p.1 ≡ said u p.1 → said (pair_spelling w) p ≡ said (pair_spelling u) p
pair_agrees w u p same = ap (λ s. said (tuple2_spelling text str_spelling node_shape s) (p.0, 0)) (one_spelling w u (λ (i : ℕ). p.1) (λ i. same))

all_pairs_agree : (w u : Spelling Tree Resolver) (xs : List (List ℕ × Tree)) → AgreeOn w u (mapped (λ (e : List ℕ × Tree). e.1) xs) → AgreeOn (pair_spelling w) (pair_spelling u) xs
all_pairs_agree w u [] h = tt
all_pairs_agree w u (x ∷ xs) h = (pair_agrees w u x h.0, all_pairs_agree w u xs h.1)

level_agrees : (wholes : List Tree) (w u : Spelling Tree Resolver) (t : Tree) → ((y : Tree) → suc (depth y) ≤ depth t → said w y ≡ said u y) → said (node_level wholes w) t ≡ said (node_level wholes u) t
level_agrees wholes w u (leaf (document.truth b)) same = refl
level_agrees wholes w u (leaf (document.number n)) same = refl
level_agrees wholes w u (leaf (document.text s)) same = refl
level_agrees wholes w u (shared s) same = refl
level_agrees wholes w u nothing same =
    node_of_agrees (maybe_spelling w) (maybe_spelling u) None (none_agree (boxed_spelling w) (boxed_spelling u) boxed_shape) 4 (option boxed_shape) resolver.maybe maybe_in nothing
level_agrees wholes w u (just t) same =
    let box = boxes_agree w u t (same t (omega arith)) node_shape in
    let kept = kept_agree (box_spelling node_shape w) (box_spelling node_shape u) t box (λ n. record { pos = n }) (λ r. r.pos) in
    node_of_agrees (maybe_spelling w) (maybe_spelling u) (Some t) (some_agree (boxed_spelling w) (boxed_spelling u) t kept boxed_shape) 4 (option boxed_shape) resolver.maybe maybe_in (just t)
level_agrees wholes w u (list ts) same =
    let xs = trees_in ts in
    let all = slices_agree w u node_shape xs (trees_agree w u (suc (most_depth ts)) ts (omega arith) same) in
    let kept = kept_agree (slice_spelling node_shape w) (slice_spelling node_shape u) xs all (λ n. record { pos = n }) (λ r. r.pos) in
    node_of_agrees (list_spelling w) (list_spelling u) xs kept 5 (vector node_shape) resolver.list list_in (list ts)
level_agrees wholes w u (map ordered ps) same =
    let xs = pairs_in ps in
    let all = btree_agrees 5 text node_shape str_spelling w u xs (pairs_agree w u (suc (pairs_depth ps)) ps (omega arith) same) in
    let kept = kept_agree (btree_spelling 5 text node_shape str_spelling w) (btree_spelling 5 text node_shape str_spelling u) xs all (λ o. record { pos = o }) (λ r. r.pos) in
    node_of_agrees (ordered_spelling w) (ordered_spelling u) xs kept 6 (tree 5 text node_shape) resolver.ordered ordered_in (map ordered ps)
level_agrees wholes w u (map hashed ps) same =
    let xs = pairs_in ps in
    let hash : List ℕ × Tree → ℕ = λ p. text_hash p.0 in
    let pairs = all_pairs_agree w u xs (pairs_agree w u (suc (pairs_depth ps)) ps (omega arith) same) in
    let all = tables_agree (pair_spelling w) (pair_spelling u) pair_shape 7 8 hash xs pairs in
    let kept = kept_agree (table_spelling 7 8 pair_shape (pair_spelling w) hash) (table_spelling 7 8 pair_shape (pair_spelling u) hash) xs all (λ o. record { pos = o }) (λ r. r.pos) in
    node_of_agrees (hashed_spelling w) (hashed_spelling u) xs kept 7 (table pair_shape) resolver.hashed hashed_in (map hashed ps)
level_agrees wholes w u (map kept ps) same =
    let xs = pairs_in ps in
    let hash : List ℕ × Tree → ℕ = λ p. text_hash p.0 in
    let pairs = all_pairs_agree w u xs (pairs_agree w u (suc (pairs_depth ps)) ps (omega arith) same) in
    let all = index_agrees (pair_spelling w) (pair_spelling u) pair_shape 7 8 hash xs pairs in
    let one = kept_agree (index_spelling 7 8 pair_shape (pair_spelling w) hash) (index_spelling 7 8 pair_shape (pair_spelling u) hash) xs all resolver_of positions_of in
    node_of_agrees (kept_spelling w) (kept_spelling u) xs one 8 (index_map text node_shape) resolver.kept kept_in (map kept ps)
level_agrees wholes w u (whole t) same =
    let box = boxes_agree w u t (same t (omega arith)) node_shape in
    let counted = shared_agree (sized node_shape) (λ x. 1) (key_of_whole wholes) (box_spelling node_shape w) (box_spelling node_shape u) t box in
    let kept = kept_agree (shared_value_spelling node_shape (key_of_whole wholes) w) (shared_value_spelling node_shape (key_of_whole wholes) u) t counted (λ n. record { pos = n }) (λ r. r.pos) in
    node_of_agrees (whole_spelling wholes w) (whole_spelling wholes u) t kept 9 whole_shape resolver.whole whole_in (whole t)

pub node_said : (wholes : List Tree) (t : Tree) → said (node_level wholes (node_spelling wholes)) t ≡ said (node_spelling wholes) t
node_said wholes = self_agrees (node_level wholes) refused depth (level_agrees wholes)

pub one_level_is_written_law : {W : Type 0} → OneLevelIsWritten W
one_level_is_written_law wholes m t old new result h =
    serializes_alike (node_level wholes (node_spelling wholes)) (node_spelling wholes) t (node_said wholes t) m old new result h
