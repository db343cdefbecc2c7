-- What a document stores is past a limit exactly where writing it is refused.
use Rattle.std.proofs.Common.{◌≡◌, ℕ, zero, suc, ◌+◌, ◌≤◌, ◌^◌, Bool, true, false, List, [], ◌∷◌, ◌++◌, length, Option, Some, None, refl, sym, ap, subst, ◌∙◌, arith, inl, inr, ⊎_elim}
use Rattle.std.specs.List.{AllByRecursion}
use Rattle.std.specs.Int.{w32, w64, to_le_bytes, cast_unsigned}
use Rattle.std.proofs.Math.Nat.{le-max_left, le-max_right}
use Rattle.std.specs.Prelude.{IsTrue}
use Rattle.std.proofs.lemmas.List.{length-replicate}
use Rattle.archive_shape_layout.specs.Bytes.{align_up}
use Rattle.archive_shape_layout.specs.Shape.{align_of}
use Rattle.archive_shape_layout.specs.Shape.Shape.{number, truth, text, option, vector, tree, table, index_map, shared as shared_shape}
use Rattle.archive_shape_layout.specs.Shape.Pointee.{str}
use Rattle.archive_shape_layout.specs.Value.{Value, count_values}
use Rattle.archive_shape_layout.specs.Value.Value.{integer, boolean, string, group, chosen, counted}
use Rattle.archive_shape_layout.specs.Value.Values.{no_values}
use Rattle.archive_shape_layout.specs.Numbers.{truth_bytes}
use Rattle.archive_shape_layout.proofs.Framed.{le_align_up}
use Rattle.archive_shape_layout.specs.declared.error.Error.{Error}
use Rattle.archive_shape_layout.specs.declared.error.Error.TheVariants.{PositionTooLarge}
use Rattle.archive_shape_canonical.specs.FirstFit.{first_fit}
use Rattle.archive_shape_canonical.specs.Hash.{text_hash}
use Rattle.archive_shape_canonical.specs.Settled.{Fit}
use Rattle.archive_shape_canonical.specs.Sharing.{erased}
use Rattle.archive_shape_canonical.specs.Plan.{Plan, flat}
use Rattle.archive_shape_canonical.specs.Limits.{Field, position, count, IsSomePast, Lies, PastLimits}
use Rattle.archive_shape_canonical.specs.Limits as limits
use Rattle.archive_shape.specs.Offsets.{offset_bytes}
use Rattle.archive_forms_laws.specs.State.{State, initial}
use Rattle.archive_forms_laws.specs.Spelling.{Spelling}
use Rattle.archive_forms_laws.specs.Regions.{state_after_all, region_at, region_refused}
use Rattle.archive_forms_laws.specs.Views.{listed}
use Rattle.archive_forms_laws.specs.Links.{link_bytes}
use Rattle.archive_forms_laws.specs.Options.{option_own}
use Rattle.archive_forms_laws.specs.Texts.{is_short, text_own}
use Rattle.archive_forms_laws.specs.Levels.{levels_spelling}
use Rattle.archive_forms_laws.proofs.Payloads.{length-tagged}
use Rattle.archive_forms_values.specs.declared.reading.resolving.BoxResolver.{BoxResolver}
use Rattle.archive_forms_writing.specs.Owned.{str_spelling}
use Rattle.archive_btree_spelling.proofs.Parting.{EachIs}
use Rattle.archive_hash_writing.specs.Fitted.{capacity_of}
use Rattle.archive_hash_writing.specs.IndexMaps.{numbers}
use Rattle.cabinet_text_grammar.specs.Keys.{MapKind, ordered, hashed, kept}
use Rattle.cabinet_text_grammar.specs.Tree as document
use Rattle.cabinet_text_grammar.specs.Tree.{Tree, Trees, Pairs, leaf, shared, nothing, just, list, map, whole, no_trees, more_trees, no_pairs, more_pairs, depth, most_depth, pairs_depth, IsLegal, AreLegal, ArePairs}
use Rattle.cabinet_text_grammar.specs.Wholes.{has, wholes_of, IsNumbered, AreNumbered, ArePairsNumbered, IsTable}
use Rattle.cabinet_text_grammar.proofs.Tables.{listed_table, listed_numbered, document_table, document_numbered}
use Rattle.cabinet_documents.specs.Node.{node_shape, node_names, pair_shape, whole_shape}
use Rattle.cabinet_documents.specs.Denotes.{tagged_value}
use Rattle.cabinet_documents.specs.Resolver.{Resolver}
use Rattle.cabinet_documents.specs.Resolver as resolver
use Rattle.cabinet_documents.specs.Spelling.{truth_spelling, number_spelling, shared_string_spelling, boxed_shape, boxed_spelling, maybe_spelling, list_spelling, ordered_spelling, hashed_spelling, kept_spelling, whole_spelling, trees_in, pairs_in, text_in, shared_in, maybe_in, list_in, ordered_in, hashed_in, kept_in, whole_in, refused, spelling_of, node_level, node_spelling}
use Rattle.cabinet_documents.specs.SpellingLaws.{RefusedIsPast}
use Rattle.cabinet_documents.proofs.FirstFit.{by_first_fit}
use Rattle.cabinet_documents.proofs.PlacedPairs.{pair_hashes}
use Rattle.cabinet_documents.proofs.Values.{keys_of, texts_stand, value_of, values_of, values_of_pairs, node_agrees, one_value_law}
use Rattle.cabinet_documents.proofs.SharedMet.{Sharing, Begun}
use Rattle.cabinet_documents.proofs.SpellingDenoted.{tagged, simply_tagged, counted_value, shared_text, grouped}
use Rattle.cabinet_documents.proofs.Plans.{entry_values, places_for, values_listed, pairs_listed, length-values, FillsMaps, pairs_planned, map_planned, kept_planned, Planned, node_planned, truth_planned, number_planned, text_planned, shared_planned, whole_planned, none_planned, some_planned, box_planned, list_planned, has_plan, slice_plan}
use Rattle.cabinet_documents.proofs.Fields.{text_length_of, laid, past_left, past_right, past_either, flat_lies, part_lies, Reads, no_fields, text_reads, shared_reads, shared_lies}
use Rattle.cabinet_documents.proofs.StoredPairs.{TellsEntry}
use Rattle.cabinet_documents.proofs.StoredTables.{hashed_reads, hashed_lies}
use Rattle.cabinet_documents.proofs.StoredIndexMaps.{kept_reads, kept_lies}
use Rattle.cabinet_documents.proofs.Filling.{first_fit_fills}
use Rattle.cabinet_documents.proofs.StoredTrees.{map_reads, map_lies}
use Rattle.cabinet_documents.proofs.StoredWholes.{shares, whole_reads, whole_lies}
use Rattle.cabinet_documents.proofs.Storing.{as_plan, node_reads, Tells, ReadsNode, LiesNode, ReadsAll, as_part, flat_can_lie, text_can_lie, one_read, box_region, box_lies, slice_region, slice_lies, box_reads, some_reads, list_reads}

-- ---- the sizes of nodes

truth_length : (b : Bool) → length (truth_bytes b) ≡ 1
truth_length true = refl
truth_length false = refl

map_length : (root : Option ℕ) (pos n : ℕ) → length (link_bytes root pos ++ to_le_bytes w32 n) ≡ 8
map_length None pos n = refl
map_length (Some to) pos n = refl

table_length : (controls : Option ℕ) (pos n cap : ℕ) → length (link_bytes controls pos ++ (to_le_bytes w32 n ++ to_le_bytes w32 cap)) ≡ 12
table_length None pos n cap = refl
table_length (Some to) pos n cap = refl

index_length : (controls entries : Option ℕ) (pos n cap : ℕ) → length ((link_bytes controls pos ++ (to_le_bytes w32 n ++ to_le_bytes w32 cap)) ++ link_bytes entries (pos + 12)) ≡ 16
index_length None None pos n cap = refl
index_length None (Some start) pos n cap = refl
index_length (Some to) None pos n cap = refl
index_length (Some to) (Some start) pos n cap = refl

module _ (wholes : List Tree) (w : Spelling Tree Resolver) where
  none_length : (r : Option BoxResolver) (pos : ℕ) → length (option_own boxed_shape (boxed_spelling w) None r pos) ≡ 8
  unfolding align_up
  none_length None pos = length-replicate {A = ℕ} 8 0
  none_length (Some r) pos = length-replicate {A = ℕ} 8 0

  some_length : (t : Tree) (r : Option BoxResolver) (pos : ℕ) → length (option_own boxed_shape (boxed_spelling w) (Some t) r pos) ≡ 8
  unfolding align_up
  some_length t None pos = length-replicate {A = ℕ} 8 0
  some_length t (Some r) pos = length-tagged 1 4 8 (offset_bytes (pos + 4) r.pos) (omega arith) (omega arith)

  node_length : (t : Tree) → (r : Resolver) (pos : ℕ) → length ((node_level wholes w).own t r pos) ≡ 24
  unfolding align_up
  node_length (leaf (document.truth b)) r pos = let n = truth_length b in length-tagged 0 1 24 (truth_bytes b) (omega arith) (omega (arith, n))
  node_length (leaf (document.number z)) r pos = length-tagged 1 8 24 (to_le_bytes w64 (cast_unsigned w64 z)) (omega arith) (omega arith)
  node_length (leaf (document.text t)) r pos =
      let n = text_length_of t (text_in r).pos (pos + 4) in
      length-tagged 2 4 24 (text_own (is_short t) t (text_in r).pos (pos + 4)) (omega arith) (omega (arith, n))
  node_length (shared t) r pos = length-tagged 3 4 24 (offset_bytes (pos + 4) (shared_in r).pos ++ to_le_bytes w32 (length t)) (omega arith) (omega arith)
  node_length nothing r pos =
      let n = none_length (maybe_in r) (pos + 4) in
      length-tagged 4 4 24 (option_own boxed_shape (boxed_spelling w) None (maybe_in r) (pos + 4)) (omega arith) (omega (arith, n))
  node_length (just t) r pos =
      let n = some_length t (maybe_in r) (pos + 4) in
      length-tagged 4 4 24 (option_own boxed_shape (boxed_spelling w) (Some t) (maybe_in r) (pos + 4)) (omega arith) (omega (arith, n))
  node_length (list ts) r pos =
      length-tagged 5 4 24 (offset_bytes (pos + 4) (list_in r).pos ++ to_le_bytes w32 (length (trees_in ts))) (omega arith) (omega arith)
  node_length (map ordered ps) r pos =
      let root = (ordered_in r).pos in
      let count = length (pairs_in ps) in
      let n = map_length root (pos + 4) count in
      length-tagged 6 4 24 (link_bytes root (pos + 4) ++ to_le_bytes w32 count) (omega arith) (omega (arith, n))
  node_length (map hashed ps) r pos =
      let controls = (hashed_in r).pos in
      let count = length (pairs_in ps) in
      let places = places_for (pairs_in ps) in
      let n = table_length controls (pos + 4) count places in
      length-tagged 7 4 24 (link_bytes controls (pos + 4) ++ (to_le_bytes w32 count ++ to_le_bytes w32 places)) (omega arith) (omega (arith, n))
  node_length (map kept ps) r pos =
      let controls = (kept_in r).table.pos in
      let entries = (kept_in r).entries in
      let count = length (numbers (pairs_in ps)) in
      let places = capacity_of 7 8 (pair_hashes (pairs_in ps)) (numbers (pairs_in ps)) in
      let n = index_length controls entries (pos + 4) count places in
      length-tagged 8 4 24 ((link_bytes controls (pos + 4) ++ (to_le_bytes w32 count ++ to_le_bytes w32 places)) ++ link_bytes entries (pos + 4 + 12)) (omega arith) (omega (arith, n))
  node_length (whole t) r pos = length-tagged 9 4 24 (offset_bytes (pos + 4) (whole_in r).pos) (omega arith) (omega arith)

-- ---- one level of nodes

module _ (fit : Fit) (fills : FillsMaps fit) (wholes : List Tree) (is_table : IsTable wholes) (w : Spelling Tree Resolver) where
  abbrev by : ℕ → Sharing
  by d = shares wholes is_table d

  -- what is read of the kind of a node is read of the node
  as_level : (d : ℕ) (t : Tree) (s : State) (own : ℕ) (fs : List Field) (b : limits.State) → Reads (by d) (spelling_of wholes w t) t s own fs b → Reads (by d) (node_level wholes w) t s own fs b
  as_level d t s own fs b h = record {
    alike = h.alike;
    spares = h.spares;
    there = h.there;
    piece_past = h.piece_past;
    own_past = h.own_past;
    refused = h.refused;
  }

  -- of documents that are less deep
  abbrev EachTells : ℕ → Type 0
  EachTells n = (d : ℕ) (y : Tree) → suc (depth y) ≤ n → depth y ≤ d → IsLegal y → IsNumbered wholes y → Tells (by d) fit w y

  trees_tell : (n : ℕ) → EachTells n → (d : ℕ) (ts : Trees) → suc (most_depth ts) ≤ n → most_depth ts ≤ d → AreLegal ts → AreNumbered wholes ts → AllByRecursion (Tells (by d) fit w) (trees_in ts)
  trees_tell n each d no_trees less deep legal known = tt
  trees_tell n each d (more_trees t ts) less deep legal known =
      let a = le-max_left (depth t) (most_depth ts) in
      let b = le-max_right (depth t) (most_depth ts) in
      (each d t (omega (arith, a)) (omega (arith, a, deep)) legal.0 known.0, trees_tell n each d ts (omega (arith, b)) (omega (arith, b, deep)) legal.1 known.1)

  pairs_tell : (n : ℕ) → EachTells n → (d : ℕ) (kind : MapKind) (keys : List (List ℕ)) (ps : Pairs) → suc (pairs_depth ps) ≤ n → pairs_depth ps ≤ d → ArePairs kind keys ps → ArePairsNumbered wholes ps → EachIs (TellsEntry (by d) w fit) (pairs_in ps)
  pairs_tell n each d kind keys no_pairs less deep legal known = tt
  pairs_tell n each d kind keys (more_pairs k t ps) less deep legal known =
      let a = le-max_left (depth t) (pairs_depth ps) in
      let b = le-max_right (depth t) (pairs_depth ps) in
      (each d t (omega (arith, a)) (omega (arith, a, deep)) legal.1.0 known.0, pairs_tell n each d kind (k ∷ keys) ps (omega (arith, b)) (omega (arith, b, deep)) legal.1.1 known.1)

  level_reads : (n : ℕ) → EachTells n → (d : ℕ) (t : Tree) → depth t ≤ n → depth t ≤ d → IsLegal t → IsNumbered wholes t → ReadsNode (by d) fit (node_level wholes w) t
  level_reads n each d (leaf (document.truth b)) less deep legal known v p same planned s seen alike begun own fs c h =
      let x = tagged 0 (boolean b) v same in
      let q = node_planned fit 0 truth x.inner v p x.is refl planned in
      let l = part_lies (align_up 1 (align_of truth)) own q.inner (laid s seen) c fs (subst (λ z. Lies z own (laid s seen) fs c) q.is h) in
      let ends = flat_lies (own + align_up 1 (align_of truth)) (laid s seen) c l.0 (subst (λ z. Lies z (own + align_up 1 (align_of truth)) (laid s seen) l.0 c) (truth_planned fit x.inner q.inner q.planned) l.1) in
      as_level d (leaf (document.truth b)) s own fs c
      (node_reads (by d) 0 truth truth_spelling (λ _. resolver.leaf) (λ _. tt) b (leaf (document.truth b)) s own l.0 fs c refl
      (no_fields (by d) truth_spelling b s seen (own + align_up 1 (align_of truth)) l.0 c alike refl refl (λ e r. r) (λ e r. r) ends) l.2)
  level_reads n each d (leaf (document.number z)) less deep legal known v p same planned s seen alike begun own fs c h =
      let shape = number w64 true in
      let x = tagged 1 (integer z) v same in
      let q = node_planned fit 1 shape x.inner v p x.is refl planned in
      let l = part_lies (align_up 1 (align_of shape)) own q.inner (laid s seen) c fs (subst (λ y. Lies y own (laid s seen) fs c) q.is h) in
      let ends = flat_lies (own + align_up 1 (align_of shape)) (laid s seen) c l.0 (subst (λ y. Lies y (own + align_up 1 (align_of shape)) (laid s seen) l.0 c) (number_planned fit x.inner q.inner q.planned) l.1) in
      as_level d (leaf (document.number z)) s own fs c
      (node_reads (by d) 1 shape number_spelling (λ _. resolver.leaf) (λ _. tt) z (leaf (document.number z)) s own l.0 fs c refl
      (no_fields (by d) number_spelling z s seen (own + align_up 1 (align_of shape)) l.0 c alike refl refl (λ e r. r) (λ e r. r) ends) l.2)
  level_reads n each d (leaf (document.text t)) less deep legal known v p same planned s seen alike begun own fs c h =
      let is = simply_tagged 2 (string t) v tt same in
      let q = node_planned fit 2 text (string t) v p is refl planned in
      let l = part_lies (align_up 1 (align_of text)) own q.inner (laid s seen) c fs (subst (λ y. Lies y own (laid s seen) fs c) q.is h) in
      as_level d (leaf (document.text t)) s own fs c
      (node_reads (by d) 2 text str_spelling resolver.text text_in t (leaf (document.text t)) s own l.0 fs c refl
      (text_reads (by d) t s seen (own + align_up 1 (align_of text)) q.inner l.0 c (text_planned fit t (string t) q.inner refl q.planned) alike l.1) l.2)
  level_reads n each d (shared t) less deep legal known v p same planned s seen alike begun own fs c h =
      let shape = shared_shape false str in
      let x = tagged 3 (counted 0 (string t)) v same in
      let y = shared_text t x.inner x.same in
      let q = node_planned fit 3 shape x.inner v p x.is refl planned in
      let l = part_lies (align_up 1 (align_of shape)) own q.inner (laid s seen) c fs (subst (λ z. Lies z own (laid s seen) fs c) q.is h) in
      as_level d (shared t) s own fs c
      (node_reads (by d) 3 shape shared_string_spelling resolver.shared shared_in t (shared t) s own l.0 fs c refl
      (shared_reads (by d) t s seen alike begun (own + align_up 1 (align_of shape)) q.inner l.0 c (shared_planned fit y.pos t x.inner q.inner y.is q.planned) l.1) l.2)
  level_reads n each d nothing less deep legal known v p same planned s seen alike begun own fs c h =
      let shape = option boxed_shape in
      let is = simply_tagged 4 (chosen 0 no_values) v tt same in
      let q = node_planned fit 4 shape (chosen 0 no_values) v p is refl planned in
      let l = part_lies (align_up 1 (align_of shape)) own q.inner (laid s seen) c fs (subst (λ z. Lies z own (laid s seen) fs c) q.is h) in
      let ends = flat_lies (own + align_up 1 (align_of shape)) (laid s seen) c l.0 (subst (λ y. Lies y (own + align_up 1 (align_of shape)) (laid s seen) l.0 c) (none_planned fit (chosen 0 no_values) q.inner refl q.planned) l.1) in
      as_level d nothing s own fs c
      (node_reads (by d) 4 shape (maybe_spelling w) resolver.maybe maybe_in None nothing s own l.0 fs c refl
      (no_fields (by d) (maybe_spelling w) None s seen (own + align_up 1 (align_of shape)) l.0 c alike refl refl (λ e r. r) (λ e r. r) ends) l.2)
  level_reads n each d (just t) less deep legal known v p same planned s seen alike begun own fs c h =
      let shape = option boxed_shape in
      let x = tagged 4 (tagged_value 1 (value_of t)) v same in
      let y = tagged 1 (value_of t) x.inner x.same in
      let q = node_planned fit 4 shape x.inner v p x.is refl planned in
      let l = part_lies (align_up 1 (align_of shape)) own q.inner (laid s seen) c fs (subst (λ z. Lies z own (laid s seen) fs c) q.is h) in
      let at = own + align_up 1 (align_of shape) in
      let some = some_planned fit y.inner x.inner q.inner y.is q.planned in
      let m = part_lies (align_up 1 (align_of boxed_shape)) at some.0 (laid s seen) c l.0 (subst (λ z. Lies z at (laid s seen) l.0 c) some.2 l.1) in
      let box = box_planned fit y.inner some.0 some.1 in
      let region = box_region (by d) fit w t (each d t less (omega (arith, deep)) legal known) y.inner box.inner some.0 y.same box.planned box.is s seen alike begun (at + align_up 1 (align_of boxed_shape)) m.0 c m.1 in
      as_level d (just t) s own fs c
      (node_reads (by d) 4 shape (maybe_spelling w) resolver.maybe maybe_in (Some t) (just t) s own l.0 fs c refl
      (some_reads (by d) fit w t s at m.0 l.0 c (box_reads (by d) fit w t s (at + align_up 1 (align_of boxed_shape)) m.0 c region) m.2) l.2)
  level_reads n each d (list ts) less deep legal known v p same planned s seen alike begun own fs c h =
      let shape = vector node_shape in
      let x = tagged 5 (group (values_of ts)) v same in
      let y = grouped (values_of ts) x.inner x.same in
      let q = node_planned fit 5 shape x.inner v p x.is refl planned in
      let l = part_lies (align_up 1 (align_of shape)) own q.inner (laid s seen) c fs (subst (λ z. Lies z own (laid s seen) fs c) q.is h) in
      let many = list_planned fit y.inner x.inner q.inner y.is q.planned in
      let these = ap listed y.same ∙ values_listed ts in
      let is = many.is ∙ ap (λ k. slice_plan node_shape (k ∷ []) (count_values y.inner) many.inner) (length-values value_of (trees_in ts) y.inner these) in
      let region = slice_region (by d) fit node_shape value_of w (trees_in ts) (trees_tell n each d ts less (omega (arith, deep)) legal.0 known) y.inner many.inner q.inner (length (trees_in ts) ∷ []) these many.planned is s seen alike begun (own + align_up 1 (align_of shape)) l.0 c l.1 in
      as_level d (list ts) s own fs c
      (node_reads (by d) 5 shape (list_spelling w) resolver.list list_in (trees_in ts) (list ts) s own l.0 fs c refl
      (list_reads (by d) fit w (trees_in ts) s (own + align_up 1 (align_of shape)) l.0 c region) l.2)
  level_reads n each d (map ordered ps) less deep legal known v p same planned s seen alike begun own fs c h =
      let shape = tree 5 text node_shape in
      let xs = pairs_in ps in
      let x = tagged 6 (group (values_of_pairs ps)) v same in
      let y = grouped (values_of_pairs ps) x.inner x.same in
      let q = node_planned fit 6 shape x.inner v p x.is refl planned in
      let l = part_lies (align_up 1 (align_of shape)) own q.inner (laid s seen) c fs (subst (λ z. Lies z own (laid s seen) fs c) q.is h) in
      let m = map_planned fit xs y.inner x.inner q.inner y.is (y.same ∙ entry_values fit ps) q.planned in
      as_level d (map ordered ps) s own fs c
      (node_reads (by d) 6 shape (ordered_spelling w) resolver.ordered ordered_in xs (map ordered ps) s own l.0 fs c refl
      (map_reads (by d) w fit xs q.inner m (pairs_tell n each d ordered [] ps less (omega (arith, deep)) legal.0 known) s seen alike begun (own + align_up 1 (align_of shape)) l.0 c l.1) l.2)
  level_reads n each d (map hashed ps) less deep legal known v p same planned s seen alike begun own fs c h =
      let shape = table pair_shape in
      let xs = pairs_in ps in
      let vs = by_first_fit (values_of_pairs ps) in
      let x = tagged 7 (group vs) v same in
      let y = grouped vs x.inner x.same in
      let q = node_planned fit 7 shape x.inner v p x.is refl planned in
      let l = part_lies (align_up 1 (align_of shape)) own q.inner (laid s seen) c fs (subst (λ z. Lies z own (laid s seen) fs c) q.is h) in
      let filled = fills.hashed_maps ps legal.0 in
      let m = pairs_planned fit xs vs y.inner x.inner q.inner filled y.is y.same q.planned in
      as_level d (map hashed ps) s own fs c
      (node_reads (by d) 7 shape (hashed_spelling w) resolver.hashed hashed_in xs (map hashed ps) s own l.0 fs c refl
      (hashed_reads (by d) w fit xs vs q.inner filled m (pairs_tell n each d hashed [] ps less (omega (arith, deep)) legal.0 known) s seen alike begun (own + align_up 1 (align_of shape)) l.0 c l.1) l.2)
  level_reads n each d (map kept ps) less deep legal known v p same planned s seen alike begun own fs c h =
      let shape = index_map text node_shape in
      let xs = pairs_in ps in
      let x = tagged 8 (group (values_of_pairs ps)) v same in
      let y = grouped (values_of_pairs ps) x.inner x.same in
      let q = node_planned fit 8 shape x.inner v p x.is refl planned in
      let l = part_lies (align_up 1 (align_of shape)) own q.inner (laid s seen) c fs (subst (λ z. Lies z own (laid s seen) fs c) q.is h) in
      let these = ap listed y.same ∙ pairs_listed ps in
      let m = kept_planned fit fills.kept_maps xs y.inner x.inner q.inner y.is these q.planned in
      as_level d (map kept ps) s own fs c
      (node_reads (by d) 8 shape (kept_spelling w) resolver.kept kept_in xs (map kept ps) s own l.0 fs c refl
      (kept_reads (by d) w fit xs y.inner q.inner these m (pairs_tell n each d kept [] ps less (omega (arith, deep)) legal.0 known) s seen alike begun (own + align_up 1 (align_of shape)) l.0 c l.1) l.2)
  level_reads n each d (whole t) less deep legal known v p same planned s seen alike begun own fs c h =
      let x = tagged 9 (counted 0 (value_of t)) v same in
      let y = counted_value (value_of t) x.inner x.same in
      let q = node_planned fit 9 whole_shape x.inner v p x.is refl planned in
      let l = part_lies (align_up 1 (align_of whole_shape)) own q.inner (laid s seen) c fs (subst (λ z. Lies z own (laid s seen) fs c) q.is h) in
      let m = whole_planned fit y.pos (value_of t) y.inner x.inner q.inner y.is y.same q.planned in
      let tell = each (depth t) t less (omega arith) legal (listed_numbered wholes t (listed_table wholes is_table) known) in
      as_level d (whole t) s own fs c
      (node_reads (by d) 9 whole_shape (whole_spelling wholes w) resolver.whole whole_in t (whole t) s own l.0 fs c refl
      (whole_reads fit wholes is_table w d t deep known tell y.inner m.inner y.same m.planned s seen alike begun (own + align_up 1 (align_of whole_shape)) q.inner l.0 c m.is l.1) l.2)

  level_lies : (n : ℕ) → EachTells n → (d : ℕ) (t : Tree) → depth t ≤ n → depth t ≤ d → IsLegal t → IsNumbered wholes t → LiesNode (by d) fit (node_level wholes w) t
  level_lies n each d (leaf (document.truth b)) less deep legal known v p same planned s seen alike begun own =
      let x = tagged 0 (boolean b) v same in
      let q = node_planned fit 0 truth x.inner v p x.is refl planned in
      as_part truth p q.inner own (laid s seen) q.is (as_plan q.inner flat _ (laid s seen) (truth_planned fit x.inner q.inner q.planned) (flat_can_lie _ (laid s seen)))
  level_lies n each d (leaf (document.number z)) less deep legal known v p same planned s seen alike begun own =
      let shape = number w64 true in
      let x = tagged 1 (integer z) v same in
      let q = node_planned fit 1 shape x.inner v p x.is refl planned in
      as_part shape p q.inner own (laid s seen) q.is (as_plan q.inner flat _ (laid s seen) (number_planned fit x.inner q.inner q.planned) (flat_can_lie _ (laid s seen)))
  level_lies n each d (leaf (document.text t)) less deep legal known v p same planned s seen alike begun own =
      let q = node_planned fit 2 text (string t) v p (simply_tagged 2 (string t) v tt same) refl planned in
      as_part text p q.inner own (laid s seen) q.is (text_can_lie t q.inner _ (laid s seen) (text_planned fit t (string t) q.inner refl q.planned))
  level_lies n each d (shared t) less deep legal known v p same planned s seen alike begun own =
      let shape = shared_shape false str in
      let x = tagged 3 (counted 0 (string t)) v same in
      let y = shared_text t x.inner x.same in
      let q = node_planned fit 3 shape x.inner v p x.is refl planned in
      as_part shape p q.inner own (laid s seen) q.is (shared_lies (by d) t s seen alike begun (own + align_up 1 (align_of shape)) q.inner (shared_planned fit y.pos t x.inner q.inner y.is q.planned))
  level_lies n each d nothing less deep legal known v p same planned s seen alike begun own =
      let shape = option boxed_shape in
      let q = node_planned fit 4 shape (chosen 0 no_values) v p (simply_tagged 4 (chosen 0 no_values) v tt same) refl planned in
      as_part shape p q.inner own (laid s seen) q.is (as_plan q.inner flat _ (laid s seen) (none_planned fit (chosen 0 no_values) q.inner refl q.planned) (flat_can_lie _ (laid s seen)))
  level_lies n each d (just t) less deep legal known v p same planned s seen alike begun own =
      let shape = option boxed_shape in
      let x = tagged 4 (tagged_value 1 (value_of t)) v same in
      let y = tagged 1 (value_of t) x.inner x.same in
      let q = node_planned fit 4 shape x.inner v p x.is refl planned in
      let at = own + align_up 1 (align_of shape) in
      let some = some_planned fit y.inner x.inner q.inner y.is q.planned in
      let box = box_planned fit y.inner some.0 some.1 in
      as_part shape p q.inner own (laid s seen) q.is
      (as_part boxed_shape q.inner some.0 at (laid s seen) some.2
      (box_lies (by d) fit w t (each d t less (omega (arith, deep)) legal known) y.inner box.inner some.0 y.same box.planned box.is s seen alike begun (at + align_up 1 (align_of boxed_shape))))
  level_lies n each d (list ts) less deep legal known v p same planned s seen alike begun own =
      let shape = vector node_shape in
      let x = tagged 5 (group (values_of ts)) v same in
      let y = grouped (values_of ts) x.inner x.same in
      let q = node_planned fit 5 shape x.inner v p x.is refl planned in
      let many = list_planned fit y.inner x.inner q.inner y.is q.planned in
      as_part shape p q.inner own (laid s seen) q.is
      (slice_lies (by d) fit node_shape value_of w (trees_in ts) (trees_tell n each d ts less (omega (arith, deep)) legal.0 known) y.inner many.inner q.inner (count_values y.inner ∷ []) (ap listed y.same ∙ values_listed ts) many.planned many.is s seen alike begun (own + align_up 1 (align_of shape)))
  level_lies n each d (map ordered ps) less deep legal known v p same planned s seen alike begun own =
      let shape = tree 5 text node_shape in
      let xs = pairs_in ps in
      let x = tagged 6 (group (values_of_pairs ps)) v same in
      let y = grouped (values_of_pairs ps) x.inner x.same in
      let q = node_planned fit 6 shape x.inner v p x.is refl planned in
      let m = map_planned fit xs y.inner x.inner q.inner y.is (y.same ∙ entry_values fit ps) q.planned in
      as_part shape p q.inner own (laid s seen) q.is (map_lies (by d) w fit xs q.inner m (pairs_tell n each d ordered [] ps less (omega (arith, deep)) legal.0 known) s seen alike begun (own + align_up 1 (align_of shape)))
  level_lies n each d (map hashed ps) less deep legal known v p same planned s seen alike begun own =
      let shape = table pair_shape in
      let xs = pairs_in ps in
      let vs = by_first_fit (values_of_pairs ps) in
      let x = tagged 7 (group vs) v same in
      let y = grouped vs x.inner x.same in
      let q = node_planned fit 7 shape x.inner v p x.is refl planned in
      let filled = fills.hashed_maps ps legal.0 in
      let m = pairs_planned fit xs vs y.inner x.inner q.inner filled y.is y.same q.planned in
      as_part shape p q.inner own (laid s seen) q.is
      (hashed_lies (by d) w fit xs vs q.inner filled m (pairs_tell n each d hashed [] ps less (omega (arith, deep)) legal.0 known) s seen alike begun (own + align_up 1 (align_of shape)))
  level_lies n each d (map kept ps) less deep legal known v p same planned s seen alike begun own =
      let shape = index_map text node_shape in
      let xs = pairs_in ps in
      let x = tagged 8 (group (values_of_pairs ps)) v same in
      let y = grouped (values_of_pairs ps) x.inner x.same in
      let q = node_planned fit 8 shape x.inner v p x.is refl planned in
      let these = ap listed y.same ∙ pairs_listed ps in
      let m = kept_planned fit fills.kept_maps xs y.inner x.inner q.inner y.is these q.planned in
      as_part shape p q.inner own (laid s seen) q.is
      (kept_lies (by d) w fit xs y.inner q.inner these m (pairs_tell n each d kept [] ps less (omega (arith, deep)) legal.0 known) s seen alike begun (own + align_up 1 (align_of shape)))
  level_lies n each d (whole t) less deep legal known v p same planned s seen alike begun own =
      let x = tagged 9 (counted 0 (value_of t)) v same in
      let y = counted_value (value_of t) x.inner x.same in
      let q = node_planned fit 9 whole_shape x.inner v p x.is refl planned in
      let m = whole_planned fit y.pos (value_of t) y.inner x.inner q.inner y.is y.same q.planned in
      let tell = each (depth t) t less (omega arith) legal (listed_numbered wholes t (listed_table wholes is_table) known) in
      as_part whole_shape p q.inner own (laid s seen) q.is
      (whole_lies fit wholes is_table w d t deep known tell y.inner m.inner y.same m.planned s seen alike begun (own + align_up 1 (align_of whole_shape)) q.inner m.is)

  level_tells : (n : ℕ) → EachTells n → (d : ℕ) (t : Tree) → depth t ≤ n → depth t ≤ d → IsLegal t → IsNumbered wholes t → Tells (by d) fit (node_level wholes w) t
  level_tells n each d t less deep legal known = record {
    sized = node_length wholes w t;
    reads = level_reads n each d t less deep legal known;
    lies = level_lies n each d t less deep legal known;
  }

-- ---- documents

levels_tell : (fit : Fit) → FillsMaps fit → (wholes : List Tree) (is : IsTable wholes) (n d : ℕ) (t : Tree) → depth t ≤ n → depth t ≤ d → IsLegal t → IsNumbered wholes t → Tells (shares wholes is d) fit (levels_spelling (node_level wholes) refused (suc n)) t
levels_tell fit fills wholes is zero d t less deep legal known = level_tells fit fills wholes is refused zero (λ e y h. absurd (omega (arith, h))) d t less deep legal known
levels_tell fit fills wholes is (suc n) d t less deep legal known =
    level_tells fit fills wholes is (levels_spelling (node_level wholes) refused (suc n)) (suc n) (λ e y h. levels_tell fit fills wholes is n e y (omega (arith, h))) d t less deep legal known

node_tells : (fit : Fit) → FillsMaps fit → (wholes : List Tree) (is : IsTable wholes) (t : Tree) → IsLegal t → IsNumbered wholes t → Tells (shares wholes is (depth t)) fit (node_spelling wholes) t
node_tells fit fills wholes is t legal known =
    let h = levels_tell fit fills wholes is (depth t) (depth t) t (omega arith) (omega arith) legal known in
    record {
      sized = h.sized;
      reads = λ v p same planned s seen alike begun own fs b l.
          let r = h.reads v p same planned s seen alike begun own fs b l in
          record { alike = r.alike; spares = r.spares; there = r.there; piece_past = r.piece_past; own_past = r.own_past; refused = r.refused };
      lies = h.lies;
    }

-- ---- the root's region, which no pointer leads to

module _ (fit : Fit) (fills : FillsMaps fit) (wholes : List Tree) (is : IsTable wholes) (t : Tree) (legal : IsLegal t) (known : IsNumbered wholes t) (v : Value) (same : erased v ≡ value_of t) (e : Error) where
  tell : Tells (shares wholes is (depth t)) fit (node_spelling wholes) t
  tell = node_tells fit fills wholes is t legal known

  abbrev AtRoot : List Field → limits.State → Type 0
  AtRoot within inner = ReadsAll (shares wholes is (depth t)) fit node_shape value_of (node_spelling wholes) (t ∷ []) initial (region_at (node_spelling wholes) node_shape (t ∷ []) initial) within inner

  at_root : (p : Plan) → Planned fit node_shape v p → (within : List Field) (inner : limits.State) → Lies p (region_at (node_spelling wholes) node_shape (t ∷ []) initial) (laid initial []) within inner → AtRoot within inner
  at_root p planned within inner h =
      let start = region_at (node_spelling wholes) node_shape (t ∷ []) initial in
      one_read (shares wholes is (depth t)) fit node_shape value_of (node_spelling wholes) t initial start within inner (tell.sized ((node_spelling wholes).resolver t initial) start) (tell.reads v p same planned initial [] tt tt start within inner h)

  root_past : (within : List Field) (inner : limits.State) → AtRoot within inner
      → region_refused (node_spelling wholes) node_shape (t ∷ []) initial e → IsSomePast (within ++ position (region_at (node_spelling wholes) node_shape (t ∷ []) initial) ∷ []) e
  root_past within inner h =
      let start = region_at (node_spelling wholes) node_shape (t ∷ []) initial in
      let last : List Field = position start ∷ [] in
      let up : inner.pos ≤ start = subst (λ n. n ≤ start) (sym h.there) (le_align_up (state_after_all (node_spelling wholes) (t ∷ []) initial).pos (align_of node_shape)) in
      let high : 2 ^ 32 ≤ start → e ≡ PositionTooLarge → IsSomePast (within ++ last) e = λ far is. past_right within last e (inl (far, is)) in
      ⊎_elim
      (λ r. ⊎_elim (λ p. past_left within last e p) (λ far. high (omega (arith, far.0, up)) far.1) (h.pieces_past e r))
      (⊎_elim
      (λ far. high far.0 far.1)
      (λ r. ⊎_elim (λ p. past_left within last e p) (λ far. high (omega (arith, far.0)) far.1) (h.owns_past e r)))

  root_refused : (within : List Field) (inner : limits.State) → AtRoot within inner
      → IsSomePast (within ++ position (region_at (node_spelling wholes) node_shape (t ∷ []) initial) ∷ []) e → region_refused (node_spelling wholes) node_shape (t ∷ []) initial e
  root_refused within inner h p =
      ⊎_elim
      (λ q. ⊎_elim (λ r. inl r) (λ r. inr (inr r)) (h.refused_all e q))
      (⊎_elim (λ far. inr (inl far)) (λ none. absurd none))
      (past_either within (position (region_at (node_spelling wholes) node_shape (t ∷ []) initial) ∷ []) e p)

  pub stored_past : region_refused (node_spelling wholes) node_shape (t ∷ []) initial e → PastLimits fit node_names node_shape v e
  stored_past r =
      let start = region_at (node_spelling wholes) node_shape (t ∷ []) initial in
      let plan = has_plan fit fills t v legal same in
      let l = tell.lies v plan.0 same plan.1 initial [] tt tt start in
      let there = (tell.reads v plan.0 same plan.1 initial [] tt tt start l.0 l.1 l.2).there in
      record {
        fields = l.0 ++ position start ∷ [];
        stores = record {
          plan = plan.0;
          has_plan = plan.1;
          root = start;
          inner = l.1;
          within = l.0;
          lies = l.2;
          root_is = ap (λ n. align_up n (align_of node_shape)) (sym there);
          fields_are = refl;
        };
        past = root_past l.0 l.1 (at_root plan.0 plan.1 l.0 l.1 l.2) r;
      }

  pub past_refused : PastLimits fit node_names node_shape v e → region_refused (node_spelling wholes) node_shape (t ∷ []) initial e
  past_refused past =
      let start = region_at (node_spelling wholes) node_shape (t ∷ []) initial in
      let x = past.stores in
      let there = (tell.reads v x.plan same x.has_plan initial [] tt tt x.root x.within x.inner x.lies).there in
      let begins : x.root ≡ start = x.root_is ∙ ap (λ n. align_up n (align_of node_shape)) there in
      let lies = subst (λ n. Lies x.plan n (laid initial []) x.within x.inner) begins x.lies in
      root_refused x.within x.inner (at_root x.plan x.has_plan x.within x.inner lies)
      (subst (λ l. IsSomePast l e) (x.fields_are ∙ ap (λ n. x.within ++ position n ∷ []) begins) past.past)

pub refused_is_past_law : RefusedIsPast
refused_is_past_law t v e document denotes fitted =
    let fit = first_fit text_hash in
    let same : erased v ≡ value_of t = one_value_law v t document denotes fitted ∙ (node_agrees (wholes_of t) (document_table t document) t).plain in
    let wholes = wholes_of t in
    let is = document_table t document in
    (stored_past fit first_fit_fills wholes is t document.0 (document_numbered t) v same e, past_refused fit first_fit_fills wholes is t document.0 (document_numbered t) v same e)
