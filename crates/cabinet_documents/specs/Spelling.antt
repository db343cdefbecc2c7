-- How documents are archived, by their kinds.
use Rattle.std.specs.Prelude.{◌≡◌, ℕ, ℤ, Bool, true, false, List, [], ◌∷◌, Option, Some, None, ⊤}
use Rattle.std.specs.Int.{w64, to_le_bytes, cast_unsigned}
use Rattle.archive_shape_layout.specs.Bytes.{align_up}
use Rattle.archive_shape_layout.specs.Shape.{Shape, size_of, align_of}
use Rattle.archive_shape_layout.specs.Shape.Shape.{number, truth, text, option, choice, box, vector, tree, table, index_map, shared as shared_shape}
use Rattle.archive_shape_layout.specs.Shape.Pointee.{sized, str}
use Rattle.archive_shape_layout.specs.Value.{Value}
use Rattle.archive_shape_layout.specs.Value.Value.{integer, boolean, group}
use Rattle.archive_shape_layout.specs.Value.Values.{no_values}
use Rattle.archive_shape_layout.specs.Numbers.{truth_bytes}
use Rattle.archive_shape_canonical.specs.Hash.{text_hash}
use Rattle.archive_shape_layout.specs.declared.error.Error.TheVariants.{InvalidTag}
use Rattle.archive_forms_laws.specs.Spelling.{Spelling}
use Rattle.archive_forms_laws.specs.Forms.{leaf_spelling, seen_as, kept_as}
use Rattle.archive_forms_laws.specs.Pointers.{box_spelling, slice_spelling}
use Rattle.archive_forms_laws.specs.Options.{option_spelling}
use Rattle.archive_forms_laws.specs.Payloads.{payload_spelling}
use Rattle.archive_forms_laws.specs.Fields.{tuple2_spelling}
use Rattle.archive_forms_laws.specs.Shared.{shared_text_spelling, shared_value_spelling}
use Rattle.archive_forms_laws.specs.Levels.{self_spelling}
use Rattle.archive_forms_values.specs.declared.reading.resolving.BoxResolver.{BoxResolver}
use Rattle.archive_forms_values.specs.declared.reading.resolving.VecResolver.{VecResolver}
use Rattle.archive_forms_values.specs.declared.text.resolving.StringResolver.{StringResolver}
use Rattle.archive_forms_rc.specs.declared.resolving.RcResolver.{RcResolver}
use Rattle.archive_btree_spelling.specs.Maps.{btree_spelling}
use Rattle.archive_btree_maps.specs.declared.map.resolving.BTreeMapResolver.{BTreeMapResolver}
use Rattle.archive_hash_maps.specs.declared.map.resolving.HashTableResolver.{HashTableResolver}
use Rattle.archive_hash_writing.specs.Tables.{table_spelling}
use Rattle.archive_hash_writing.specs.IndexResolvers.{pairs_spelling}
use Rattle.archive_hash_writing.specs.declared.index.resolver.IndexMapResolver.{IndexMapResolver}
use Rattle.cabinet_text_grammar.specs.Keys.{ordered, hashed, kept}
use Rattle.cabinet_text_grammar.specs.Tree as document
use Rattle.cabinet_text_grammar.specs.Tree.{Tree, Trees, Pairs, leaf, shared, nothing, just, list, map, whole, no_trees, more_trees, no_pairs, more_pairs, depth}
use Rattle.cabinet_text_grammar.specs.Wholes.{wholes_of}
use Rattle.cabinet_documents.specs.Node.{node_shape, pair_shape, whole_shape, payloads}
use Rattle.cabinet_documents.specs.SharedKeys.{key_of_text, key_of_whole}
use Rattle.cabinet_documents.specs.Resolver.{Resolver}
use Rattle.cabinet_documents.specs.Resolver as resolver
use Rattle.archive_forms_writing.specs.Owned.{str_spelling}

-- ---- payloads

abbrev pub truth_spelling : Spelling Bool (Unit {0})
truth_spelling = leaf_spelling truth truth_bytes boolean

abbrev pub number_spelling : Spelling ℤ (Unit {0})
number_spelling = leaf_spelling (number w64 true) (λ n. to_le_bytes w64 (cast_unsigned w64 n)) integer

-- a counted pointer to a text, which is written once under its number
abbrev pub shared_string_spelling : Spelling (List ℕ) RcResolver
shared_string_spelling = kept_as (λ n. record { pos = n }) (λ r. r.pos) (shared_text_spelling key_of_text)

abbrev pub boxed_shape : Shape
boxed_shape = box (sized node_shape)

-- a box of a node, an option of one, and a vector of nodes, where a node is archived by `w`
abbrev pub boxed_spelling : Spelling Tree Resolver → Spelling Tree BoxResolver
boxed_spelling w = kept_as (λ n. record { pos = n }) (λ r. r.pos) (box_spelling node_shape w)

abbrev pub maybe_spelling : Spelling Tree Resolver → Spelling (Option Tree) (Option BoxResolver)
maybe_spelling w = option_spelling boxed_shape (boxed_spelling w)

abbrev pub list_spelling : Spelling Tree Resolver → Spelling (List Tree) VecResolver
list_spelling w = kept_as (λ n. record { pos = n }) (λ r. r.pos) (slice_spelling node_shape w)

abbrev pub trees_in : Trees → List Tree
trees_in no_trees = []
trees_in (more_trees t ts) = t ∷ trees_in ts

-- a search tree of pairs, at most five in a node, where a node of a document is archived by `w`
abbrev pub ordered_spelling : Spelling Tree Resolver → Spelling (List (List ℕ × Tree)) BTreeMapResolver
ordered_spelling w = kept_as (λ o. record { pos = o }) (λ r. r.pos) (btree_spelling 5 text node_shape str_spelling w)

-- a table of pairs by the hashes of their keys, at most seven of eight places full; the data of a pair is that of its
-- key and then that of its node
abbrev pub pair_spelling : Spelling Tree Resolver → Spelling (List ℕ × Tree) (StringResolver × Resolver)
pair_spelling w = tuple2_spelling text str_spelling node_shape w

abbrev pub hashed_spelling : Spelling Tree Resolver → Spelling (List (List ℕ × Tree)) HashTableResolver
hashed_spelling w = kept_as (λ o. record { pos = o }) (λ r. r.pos) (table_spelling 7 8 pair_shape (pair_spelling w) (λ p. text_hash p.0))

-- an index map of pairs: a table of the numbers of the pairs by the hashes of their keys, at most seven of eight places
-- full, and then the pairs in their order
abbrev pub kept_spelling : Spelling Tree Resolver → Spelling (List (List ℕ × Tree)) IndexMapResolver
kept_spelling w = pairs_spelling text_hash text node_shape str_spelling w

-- a counted pointer to the node in a whole, which is written once under its number
abbrev pub whole_spelling : List Tree → Spelling Tree Resolver → Spelling Tree RcResolver
whole_spelling wholes w = kept_as (λ n. record { pos = n }) (λ r. r.pos) (shared_value_spelling node_shape (key_of_whole wholes) w)

abbrev pub pairs_in : Pairs → List (List ℕ × Tree)
pairs_in no_pairs = []
pairs_in (more_pairs k t ps) = (k, t) ∷ pairs_in ps

-- ---- the resolvers of payloads in that of a node

abbrev pub text_in : Resolver → StringResolver
text_in (resolver.text r) = r
text_in _ = record { pos = 0 }

abbrev pub shared_in : Resolver → RcResolver
shared_in (resolver.shared r) = r
shared_in _ = record { pos = 0 }

abbrev pub maybe_in : Resolver → Option BoxResolver
maybe_in (resolver.maybe r) = r
maybe_in _ = None

abbrev pub list_in : Resolver → VecResolver
list_in (resolver.list r) = r
list_in _ = record { pos = 0 }

abbrev pub ordered_in : Resolver → BTreeMapResolver
ordered_in (resolver.ordered r) = r
ordered_in _ = record { pos = None }

abbrev pub hashed_in : Resolver → HashTableResolver
hashed_in (resolver.hashed r) = r
hashed_in _ = record { pos = None }

abbrev pub kept_in : Resolver → IndexMapResolver
kept_in (resolver.kept r) = r
kept_in _ = record { table = record { pos = None }; entries = None }

abbrev pub whole_in : Resolver → RcResolver
whole_in (resolver.whole r) = r
whole_in _ = record { pos = 0 }

-- ---- nodes

-- a payload after a tag, at its alignment in the 24 bytes of a node
abbrev pub node_of : {A R : Type 0} → ℕ → Shape → Spelling A R → (R → Resolver) → (Resolver → R) → A → Spelling Tree Resolver
node_of tag s w make get x =
    kept_as make get (seen_as (λ _. x) (payload_spelling tag (align_up 1 (align_of s)) (size_of (choice payloads)) w))

-- where no level is left, nothing is archived; a document has as many levels as it is deep
abbrev pub refused : Spelling Tree Resolver
refused = record {
  value = λ t st. group no_values;
  plain = λ t. group no_values;
  piece = λ t st. [];
  resolver = λ t st. resolver.leaf;
  met = λ t st. st.met;
  own = λ t r pos. [];
  piece_fits = λ t st. ⊥;
  piece_refused = λ t st e. e ≡ InvalidTag;
  own_fits = λ t r pos. ⊥;
  own_refused = λ t r pos e. e ≡ InvalidTag;
  suits = λ fit keys t. ⊤;
}

-- the spelling of one document, where the documents in it are archived by `w`, and wholes have the numbers of their trees
-- in a table
abbrev pub spelling_of : List Tree → Spelling Tree Resolver → Tree → Spelling Tree Resolver
spelling_of wholes w (leaf (document.truth b)) = node_of 0 truth truth_spelling (λ _. resolver.leaf) (λ _. tt) b
spelling_of wholes w (leaf (document.number n)) = node_of 1 (number w64 true) number_spelling (λ _. resolver.leaf) (λ _. tt) n
spelling_of wholes w (leaf (document.text s)) = node_of 2 text str_spelling resolver.text text_in s
spelling_of wholes w (shared s) = node_of 3 (shared_shape false str) shared_string_spelling resolver.shared shared_in s
spelling_of wholes w nothing = node_of 4 (option boxed_shape) (maybe_spelling w) resolver.maybe maybe_in None
spelling_of wholes w (just t) = node_of 4 (option boxed_shape) (maybe_spelling w) resolver.maybe maybe_in (Some t)
spelling_of wholes w (list ts) = node_of 5 (vector node_shape) (list_spelling w) resolver.list list_in (trees_in ts)
spelling_of wholes w (map ordered ps) = node_of 6 (tree 5 text node_shape) (ordered_spelling w) resolver.ordered ordered_in (pairs_in ps)
spelling_of wholes w (map hashed ps) = node_of 7 (table pair_shape) (hashed_spelling w) resolver.hashed hashed_in (pairs_in ps)
spelling_of wholes w (map kept ps) = node_of 8 (index_map text node_shape) (kept_spelling w) resolver.kept kept_in (pairs_in ps)
spelling_of wholes w (whole t) = node_of 9 whole_shape (whole_spelling wholes w) resolver.whole whole_in t

-- the spelling of each document, by its case
abbrev pub node_level : List Tree → Spelling Tree Resolver → Spelling Tree Resolver
node_level wholes w = record {
  value = λ t st. (spelling_of wholes w t).value t st;
  plain = λ t. (spelling_of wholes w t).plain t;
  piece = λ t st. (spelling_of wholes w t).piece t st;
  resolver = λ t st. (spelling_of wholes w t).resolver t st;
  met = λ t st. (spelling_of wholes w t).met t st;
  own = λ t r pos. (spelling_of wholes w t).own t r pos;
  piece_fits = λ t st. (spelling_of wholes w t).piece_fits t st;
  piece_refused = λ t st e. (spelling_of wholes w t).piece_refused t st e;
  own_fits = λ t r pos. (spelling_of wholes w t).own_fits t r pos;
  own_refused = λ t r pos e. (spelling_of wholes w t).own_refused t r pos e;
  suits = λ fit keys t. (spelling_of wholes w t).suits fit keys t;
}

-- the spelling of a document has as many levels as the document is deep
abbrev pub node_spelling : List Tree → Spelling Tree Resolver
node_spelling wholes = self_spelling (node_level wholes) refused depth

-- the value that the layout has for a document, except for the positions of shared texts and of wholes
abbrev pub node_value : Tree → Value
node_value t = (node_spelling (wholes_of t)).plain t
