-- The value of a document, by its kinds, is the one that the spelling gives it, except for positions of shared values.
use Rattle.std.proofs.Common.{◌≡◌, ℕ, zero, suc, ◌%◌, ◌/◌, ◌==◌, cond, ◌≤◌, List, [], ◌∷◌, length, map as list_map, Option, Some, None, refl, sym, ap, ap₂, subst, ◌∙◌, arith}
use Rattle.std.specs.Prelude.{IsTrue}
use Rattle.std.proofs.Math.Nat.{le-max_left, le-max_right}
use Rattle.archive_shape_layout.specs.Shape.Pointee.{sized, str}
use Rattle.archive_shape_layout.specs.Value.{Value, Values, count_values}
use Rattle.archive_shape_layout.specs.Value.Value.{integer, boolean, string, group, chosen, counted}
use Rattle.archive_shape_layout.specs.Value.Values.{no_values, more_values}
use Rattle.archive_shape_canonical.specs.FirstFit.{ascending, first_fit, keys_in, map_capacity, placed_keys}
use Rattle.archive_shape_canonical.specs.Hash.{text_hash}
use Rattle.archive_shape_canonical.specs.Sharing.{erased, all_erased}
use Rattle.archive_forms_laws.specs.State.{Keys, SharedValue}
use Rattle.archive_forms_laws.specs.Spelling.{Spelling}
use Rattle.archive_forms_laws.specs.Regions.{plain_values, all_suit}
use Rattle.archive_forms_laws.specs.Levels.{levels_spelling}
use Rattle.archive_hash_writing.specs.Fitted.{capacity_of, places_of, by_place}
use Rattle.archive_hash_writing.proofs.FirstFitted.{filled_by, all_suit_placed}
use Rattle.archive_hash_writing.specs.IndexMaps.{IsKeptBy}
use Rattle.archive_hash_writing.proofs.IndexKept.{texts_kept}
use Rattle.cabinet_text_grammar.specs.Keys.{MapKind, ordered, hashed, kept}
use Rattle.cabinet_text_grammar.specs.TextKey.{text_key, text_of_key}
use Rattle.cabinet_text_grammar.proofs.KeyLemmas.{key_has_text_law}
use Rattle.cabinet_text_grammar.proofs.Tables.{numbered_back, listed_table, listed_numbered, document_table}
use Rattle.cabinet_text_grammar.specs.Wholes.{has, number_in, numbered, wholes_of, IsNumbered, AreNumbered, ArePairsNumbered, IsTable, IsDocument}
use Rattle.cabinet_text_grammar.specs.Tree as document
use Rattle.cabinet_text_grammar.specs.Tree.{Tree, Trees, Pairs, leaf, shared, nothing, just, list, map, whole, no_trees, more_trees, no_pairs, more_pairs, depth, most_depth, pairs_depth, IsLegal, AreLegal, ArePairs}
use Rattle.cabinet_documents.specs.Node.{node_shape, pair_shape}
use Rattle.cabinet_documents.specs.SharedKeys.{key_of_text, key_of_whole}
use Rattle.cabinet_documents.specs.Denotes.{tagged_value, pair_value, Denotes, DenoteAll, DenotePairs}
use Rattle.cabinet_documents.specs.Denotes.Denotes.{denotes_truth, denotes_number, denotes_text, denotes_shared, denotes_nothing, denotes_some, denotes_list, denotes_ordered, denotes_hashed, denotes_kept, denotes_whole}
use Rattle.cabinet_documents.specs.Denotes.DenoteAll.{denote_none, denote_more}
use Rattle.cabinet_documents.specs.Denotes.DenotePairs.{denote_no_pairs, denote_pair}
use Rattle.cabinet_documents.specs.Resolver.{Resolver}
use Rattle.cabinet_documents.specs.Fitted.{IsFitted, AreFitted, ArePairsFitted}
use Rattle.cabinet_documents.specs.Order.{arranged}
use Rattle.cabinet_documents.specs.Spelling.{trees_in, pairs_in, pair_spelling, refused, node_level, node_spelling, node_value}
use Rattle.cabinet_documents.specs.SpellingLaws.{OneValue}
use Rattle.cabinet_documents.proofs.ByKey.{pair_keys, AreDistinct, distinct, distinct_in_order}
use Rattle.cabinet_documents.proofs.FirstFit.{values_in, by_first_fit, first_fit_mapped, first_fit_plain}
use Rattle.cabinet_documents.proofs.Fitting.{fitted_some, fitted_list, fitted_ordered, fitted_hashed, fitted_kept, fitted_whole, fitted_more, fitted_pair}
use Rattle.cabinet_documents.proofs.KeyOrder.{ascending_stays}
use Rattle.cabinet_documents.proofs.PlacedPairs.{pairs_of, keys_listed, pair_hashes, placed_pairs, placed_arranged}

abbrev mutual
  pub value_of : Tree → Value
  value_of (leaf (document.truth b)) = tagged_value 0 (boolean b)
  value_of (leaf (document.number n)) = tagged_value 1 (integer n)
  value_of (leaf (document.text s)) = tagged_value 2 (string s)
  value_of (shared s) = tagged_value 3 (counted 0 (string s))
  value_of nothing = tagged_value 4 (chosen 0 no_values)
  value_of (just t) = tagged_value 4 (tagged_value 1 (value_of t))
  value_of (list ts) = tagged_value 5 (group (values_of ts))
  value_of (map ordered ps) = tagged_value 6 (group (values_of_pairs ps))
  value_of (map hashed ps) = tagged_value 7 (group (by_first_fit (values_of_pairs ps)))
  value_of (map kept ps) = tagged_value 8 (group (values_of_pairs ps))
  value_of (whole t) = tagged_value 9 (counted 0 (value_of t))

  pub values_of : Trees → Values
  values_of no_trees = no_values
  values_of (more_trees t ts) = more_values (value_of t) (values_of ts)

  pub values_of_pairs : Pairs → Values
  values_of_pairs no_pairs = no_values
  values_of_pairs (more_pairs k t ps) = more_values (pair_value k (value_of t)) (values_of_pairs ps)

-- ---- what keys stand for

abbrev pub shared_string : List ℕ → SharedValue
shared_string s = record { pointee = str; len = length s; value = string s }

abbrev pub shared_node : Tree → SharedValue
shared_node t = record { pointee = sized node_shape; len = 1; value = value_of t }

abbrev pub node_if : Option Tree → Option SharedValue
node_if None = None
node_if (Some t) = Some (shared_node t)

-- an even key stands for a text, and an odd one for the tree of a table with a number, if there is one
abbrev pub keys_of : List Tree → Keys
keys_of table k = cond (k % 2 == 0) (Some (shared_string (text_of_key (k / 2)))) (node_if (numbered table (k / 2)))

pub texts_stand : (table : List Tree) (s : List ℕ) → keys_of table (key_of_text s) ≡ Some (shared_string s)
texts_stand table s =
    let even : key_of_text s % 2 ≡ 0 = omega arith in
    let half : key_of_text s / 2 ≡ text_key s = omega arith in
    let rest = node_if (numbered table (key_of_text s / 2)) in
    ap (λ n. cond (n == 0) (Some (shared_string (text_of_key (key_of_text s / 2)))) rest) even
    ∙ ap (λ n. Some (shared_string (text_of_key n))) half
    ∙ ap (λ t. Some (shared_string t)) (key_has_text_law s)

pub wholes_stand : (table : List Tree) (t : Tree) → IsTrue (has table t) → keys_of table (key_of_whole table t) ≡ Some (shared_node t)
wholes_stand table t there =
    let k = key_of_whole table t in
    let odd : k % 2 ≡ 1 = omega arith in
    let half : k / 2 ≡ number_in table t = omega arith in
    ap (λ n. cond (n == 0) (Some (shared_string (text_of_key (k / 2)))) (node_if (numbered table (k / 2)))) odd
    ∙ ap (λ n. node_if (numbered table n)) half
    ∙ ap node_if (numbered_back table t there)

-- ---- a spelling gives a document this value, and its tables are by first fit, and shared values under their keys

pub record Agrees (table : List Tree) (w : Spelling Tree Resolver) (t : Tree) : Type 0 where
  pub plain : w.plain t ≡ value_of t
  pub suits : IsLegal t → IsNumbered table t → w.suits (first_fit text_hash) (keys_of table) t

record AllAgree (table : List Tree) (w : Spelling Tree Resolver) (ts : Trees) : Type 0 where
  plain : plain_values w (trees_in ts) ≡ values_of ts
  suits : AreLegal ts → AreNumbered table ts → all_suit w (first_fit text_hash) (keys_of table) (trees_in ts)

record PairsAgree (table : List Tree) (w : Spelling Tree Resolver) (ps : Pairs) : Type 0 where
  plain : plain_values (pair_spelling w) (pairs_in ps) ≡ values_of_pairs ps
  suits : (kind : MapKind) (before : List (List ℕ)) → ArePairs kind before ps → ArePairsNumbered table ps → all_suit (pair_spelling w) (first_fit text_hash) (keys_of table) (pairs_in ps)

module _ (table : List Tree) (is : IsTable table) (w : Spelling Tree Resolver) where
  all_agree : (n : ℕ) → ((y : Tree) → depth y ≤ n → Agrees table w y) → (ts : Trees) → most_depth ts ≤ n → AllAgree table w ts
  all_agree n each no_trees less = record { plain = refl; suits = λ legal known. tt }
  all_agree n each (more_trees t ts) less =
      let a = le-max_left (depth t) (most_depth ts) in
      let b = le-max_right (depth t) (most_depth ts) in
      let first = each t (omega (arith, a)) in
      let rest = all_agree n each ts (omega (arith, b)) in
      record {
        plain = ap₂ more_values first.plain rest.plain;
        suits = λ legal known. (first.suits legal.0 known.0, rest.suits legal.1 known.1);
      }

  pairs_agree : (n : ℕ) → ((y : Tree) → depth y ≤ n → Agrees table w y) → (ps : Pairs) → pairs_depth ps ≤ n → PairsAgree table w ps
  pairs_agree n each no_pairs less = record { plain = refl; suits = λ kind before legal known. tt }
  pairs_agree n each (more_pairs k t ps) less =
      let a = le-max_left (depth t) (pairs_depth ps) in
      let b = le-max_right (depth t) (pairs_depth ps) in
      let first = each t (omega (arith, a)) in
      let rest = pairs_agree n each ps (omega (arith, b)) in
      record {
        plain = ap₂ (λ (v : Value) (vs : Values). more_values (pair_value k v) vs) first.plain rest.plain;
        suits = λ kind before legal known. ((tt, (first.suits legal.1.0 known.0, tt)), rest.suits kind (k ∷ before) legal.1.1 known.1);
      }

  -- first fit fills a kept map as it is written
  pairs_kept : (xs : List (List ℕ × Tree)) → IsKeptBy 7 8 pair_shape (pair_spelling w) (pair_hashes xs) (first_fit text_hash) xs
  pairs_kept xs =
      texts_kept pair_shape (pair_spelling w) (λ x. x.0) (λ x. record { rest = more_values (w.plain x.1) no_values; is = refl }) (λ x. text_hash x.0) (λ x. refl) xs

  level_agrees : (n : ℕ) → ((y : Tree) → suc (depth y) ≤ n → Agrees table w y) → (t : Tree) → depth t ≤ n → Agrees table (node_level table w) t
  level_agrees n each (leaf (document.truth b)) less = record { plain = refl; suits = λ legal known. tt }
  level_agrees n each (leaf (document.number z)) less = record { plain = refl; suits = λ legal known. tt }
  level_agrees n each (leaf (document.text s)) less = record { plain = refl; suits = λ legal known. tt }
  level_agrees n each (shared s) less = record { plain = refl; suits = λ legal known. (texts_stand table s, tt) }
  level_agrees n each nothing less = record { plain = refl; suits = λ legal known. tt }
  level_agrees n each (just t) less =
      let one = each t less in
      record {
        plain = ap (λ v. tagged_value 4 (tagged_value 1 v)) one.plain;
        suits = one.suits;
      }
  level_agrees zero each (list ts) less = absurd (omega (arith, less))
  level_agrees (suc n) each (list ts) less =
      let all = all_agree n (λ y h. each y (omega (arith, h))) ts (omega (arith, less)) in
      record {
        plain = ap (λ vs. tagged_value 5 (group vs)) all.plain;
        suits = λ legal known. all.suits legal.0 known;
      }
  level_agrees zero each (map kind ps) less = absurd (omega (arith, less))
  level_agrees (suc n) each (map ordered ps) less =
      let all = pairs_agree n (λ y h. each y (omega (arith, h))) ps (omega (arith, less)) in
      record {
        plain = ap (λ vs. tagged_value 6 (group vs)) all.plain;
        suits = λ legal known. all.suits ordered [] legal.0 known;
      }
  level_agrees (suc n) each (map hashed ps) less =
      let pairs = pair_spelling w in
      let xs = pairs_in ps in
      let hashes = pair_hashes xs in
      let all = pairs_agree n (λ y h. each y (omega (arith, h))) ps (omega (arith, less)) in
      let ascend = λ (legal : ArePairs hashed [] ps). ap ascending (keys_listed ps) ∙ ascending_stays [] ps legal ∙ sym (keys_listed ps) in
      record {
        plain = ap (λ vs. tagged_value 7 (group vs)) (first_fit_plain pairs (λ x. x.0) (λ x. refl) xs ∙ ap by_first_fit all.plain);
        suits = λ legal known. (
          all_suit_placed pairs (first_fit text_hash) (keys_of table) (capacity_of 7 8 hashes xs) (places_of 7 8 hashes xs) xs (all.suits hashed [] legal.0 known),
          filled_by pairs (λ x. x.0) (λ x. refl) pair_shape text_hash xs (ascend legal.0),
        );
      }
  level_agrees (suc n) each (map kept ps) less =
      let all = pairs_agree n (λ y h. each y (omega (arith, h))) ps (omega (arith, less)) in
      record {
        plain = ap (λ vs. tagged_value 8 (group vs)) all.plain;
        suits = λ legal known. (all.suits kept [] legal.0 known, pairs_kept (pairs_in ps));
      }
  level_agrees n each (whole t) less =
      let one = each t less in
      record {
        plain = ap (λ v. tagged_value 9 (counted 0 v)) one.plain;
        suits = λ legal known. (
          wholes_stand table t known ∙ ap (λ v. Some (record { pointee = sized node_shape; len = 1; value = v })) (sym one.plain),
          one.suits legal (listed_numbered table t (listed_table table is) known),
        );
      }

levels_agree : (table : List Tree) → IsTable table → (n : ℕ) (t : Tree) → depth t ≤ n → Agrees table (levels_spelling (node_level table) refused (suc n)) t
levels_agree table is zero t less = level_agrees table is refused zero (λ y h. absurd (omega (arith, h))) t less
levels_agree table is (suc n) t less =
    level_agrees table is (levels_spelling (node_level table) refused (suc n)) (suc n) (λ y h. levels_agree table is n y (omega (arith, h))) t less

pub node_agrees : (table : List Tree) → IsTable table → (t : Tree) → Agrees table (node_spelling table) t
node_agrees table is t = let h = levels_agree table is (depth t) t (omega arith) in record { plain = h.plain; suits = h.suits }

-- of a document under its own table
pub node_value_is : (t : Tree) → IsDocument t → node_value t ≡ value_of t
node_value_is t document = (node_agrees (wholes_of t) (document_table t document) t).plain

-- ---- a map's pairs by place

-- the value of a pair
abbrev pub entry_value : List ℕ × Tree → Value
entry_value p = pair_value p.0 (value_of p.1)

pub pairs_are : (ps : Pairs) → values_of_pairs ps ≡ values_in (list_map entry_value (pairs_in ps))
pairs_are no_pairs = refl
pairs_are (more_pairs k t ps) = ap (more_values (pair_value k (value_of t))) (pairs_are ps)

values_are : (xs : List (List ℕ × Tree)) → values_in (list_map entry_value xs) ≡ values_of_pairs (pairs_of xs)
values_are [] = refl
values_are (x ∷ xs) = ap (more_values (entry_value x)) (values_are xs)

pub first_fit_pairs : (ps : Pairs) → by_first_fit (values_of_pairs ps) ≡ values_of_pairs (placed_pairs ps)
first_fit_pairs ps =
    ap by_first_fit (pairs_are ps) ∙ first_fit_mapped entry_value (λ p. p.0) (λ p. refl) (pairs_in ps) ∙ values_are (by_place 7 8 (pair_hashes (pairs_in ps)) (pairs_in ps))

-- ---- no other value denotes it, except for the positions of shared values

keys_denoted : {vs : Values} {ps : Pairs} → DenotePairs vs ps → keys_in vs ≡ pair_keys ps
keys_denoted (denote_no_pairs e f) = ap keys_in e ∙ sym (ap pair_keys f)
keys_denoted (denote_pair {k = k} e f d ds) = ap keys_in e ∙ ap (λ ks. k ∷ ks) (keys_denoted ds) ∙ sym (ap pair_keys f)

count_denoted : {vs : Values} {ps : Pairs} → DenotePairs vs ps → count_values vs ≡ length (pair_keys ps)
count_denoted (denote_no_pairs e f) = ap count_values e ∙ sym (ap (λ x. length (pair_keys x)) f)
count_denoted (denote_pair {vs = vs} e f d ds) = let rest = count_denoted ds in ap count_values e ∙ omega (arith, rest) ∙ sym (ap (λ x. length (pair_keys x)) f)

mutual
  only : (v : Value) (t : Tree) → IsLegal t → Denotes v t → IsFitted v → erased v ≡ value_of t
  only v t l (denotes_truth e f) i = ap erased e ∙ sym (ap value_of f)
  only v t l (denotes_number e f) i = ap erased e ∙ sym (ap value_of f)
  only v t l (denotes_text e f) i = ap erased e ∙ sym (ap value_of f)
  only v t l (denotes_shared e f) i = ap erased e ∙ sym (ap value_of f)
  only v t l (denotes_nothing e f) i = ap erased e ∙ sym (ap value_of f)
  only v t l (denotes_some {w = w} {u = u} e f d) i =
      ap erased e ∙ (ap (λ x. tagged_value 4 (tagged_value 1 x)) (only w u (subst IsLegal f l) d (fitted_some i e)) ∙ sym (ap value_of f))
  only v t l (denotes_list {vs = vs} {ts = ts} e f d) i =
      let legal = subst IsLegal f l in
      ap erased e ∙ (ap (λ x. tagged_value 5 (group x)) (all_only vs ts legal.0 d (fitted_list i e)) ∙ sym (ap value_of f))
  only v t l (denotes_ordered {vs = vs} {ps = ps} e f d) i =
      let legal = subst IsLegal f l in
      ap erased e ∙ (ap (λ x. tagged_value 6 (group x)) (pairs_only vs ps (distinct ordered [] ps legal.0) d (fitted_ordered i e)) ∙ sym (ap value_of f))
  only v t l (denotes_hashed {vs = vs} {ps = ps} e f d) i =
      let legal = subst IsLegal f l in
      let apart = distinct_in_order hashed ps (distinct hashed [] (arranged ps) legal.0) in
      let fit = fitted_hashed i e in
      let keys = keys_denoted d in
      let count = count_denoted d in
      let by_fit = sym keys ∙ fit.0 ∙ ap₂ (λ n ks. placed_keys text_hash (map_capacity n) (ascending ks)) count keys in
      ap erased e
      ∙ (ap (λ x. tagged_value 7 (group x)) (pairs_only vs ps apart d fit.1 ∙ ap values_of_pairs (sym (placed_arranged ps apart by_fit)) ∙ sym (first_fit_pairs (arranged ps)))
      ∙ sym (ap value_of f))
  only v t l (denotes_kept {vs = vs} {ps = ps} e f d) i =
      let legal = subst IsLegal f l in
      ap erased e ∙ (ap (λ x. tagged_value 8 (group x)) (pairs_only vs ps (distinct kept [] ps legal.0) d (fitted_kept i e)) ∙ sym (ap value_of f))
  only v t l (denotes_whole {w = w} {u = u} e f d) i =
      ap erased e ∙ (ap (λ x. tagged_value 9 (counted 0 x)) (only w u (subst IsLegal f l) d (fitted_whole i e)) ∙ sym (ap value_of f))

  all_only : (vs : Values) (ts : Trees) → AreLegal ts → DenoteAll vs ts → AreFitted vs → all_erased vs ≡ values_of ts
  all_only vs ts l (denote_none e f) i = ap all_erased e ∙ sym (ap values_of f)
  all_only ws us l (denote_more {v = v} {vs = vs} {t = t} {ts = ts} e f d ds) i =
      let legal = subst AreLegal f l in
      let fit = fitted_more i e in
      ap all_erased e ∙ (ap₂ more_values (only v t legal.0 d fit.0) (all_only vs ts legal.1 ds fit.1) ∙ sym (ap values_of f))

  pairs_only : (vs : Values) (ps : Pairs) → AreDistinct ps → DenotePairs vs ps → ArePairsFitted vs → all_erased vs ≡ values_of_pairs ps
  pairs_only vs ps l (denote_no_pairs e f) i = ap all_erased e ∙ sym (ap values_of_pairs f)
  pairs_only ws qs l (denote_pair {k = k} {v = v} {vs = vs} {t = t} {ps = ps} e f d ds) i =
      let legal = subst AreDistinct f l in
      let fit = fitted_pair i e in
      ap all_erased e
      ∙ (ap₂ (λ (x : Value) (xs : Values). more_values (pair_value k x) xs) (only v t legal.1 d fit.0) (pairs_only vs ps legal.2 ds fit.1) ∙ sym (ap values_of_pairs f))

pub one_value_law : OneValue
one_value_law v t document d fit = only v t document.0 d fit ∙ sym (node_value_is t document)
