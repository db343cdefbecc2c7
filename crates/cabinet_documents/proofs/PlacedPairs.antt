-- The pairs of a hashed map by place are arranged as a document has them, and arranged pairs by place are those in the
-- order of first fit.
use Rattle.std.proofs.Common.{◌≡◌, ℕ, List, [], ◌∷◌, length, map, refl, sym, ap, ap₂, subst, ◌∙◌}
use Rattle.std.proofs.lemmas.List.{length-map}
use Rattle.archive_shape_canonical.specs.FirstFit.{ascending, fitted_from, map_capacity, places_of, placed, placed_keys, present}
use Rattle.archive_shape_canonical.specs.Hash.{text_hash}
use Rattle.archive_hash_writing.specs.Fitted.{by_place}
use Rattle.archive_hash_writing.proofs.FirstFitted.{map_twice}
use Rattle.archive_hash_writing.proofs.Placed.{placed_mapped, keys_by_place}
use Rattle.cabinet_text_grammar.specs.Keys.{hashed}
use Rattle.cabinet_text_grammar.specs.Tree.{Tree, Pairs, no_pairs, more_pairs, ArePairs}
use Rattle.cabinet_documents.specs.Order.{arranged}
use Rattle.cabinet_documents.specs.Spelling.{pairs_in}
use Rattle.cabinet_documents.proofs.ByKey.{AreKeysDistinct, pair_keys, AreDistinct, keys_distinct, distinct}
use Rattle.cabinet_documents.proofs.KeyOrder.{with_nodes, node_of_key, with_own, arranged_with, distinct_ascending_back, ascending_stays, length_ascending}

abbrev pub pairs_of : List (List ℕ × Tree) → Pairs
pairs_of [] = no_pairs
pairs_of (p ∷ ps) = more_pairs p.0 p.1 (pairs_of ps)

pub pairs_of_in : (ps : Pairs) → pairs_of (pairs_in ps) ≡ ps
pairs_of_in no_pairs = refl
pairs_of_in (more_pairs k t ps) = ap (more_pairs k t) (pairs_of_in ps)

pub keys_listed : (ps : Pairs) → map (λ (p : List ℕ × Tree). p.0) (pairs_in ps) ≡ pair_keys ps
keys_listed no_pairs = refl
keys_listed (more_pairs k t ps) = ap (λ ks. k ∷ ks) (keys_listed ps)

-- the hash of each pair's key
abbrev pub pair_hashes : List (List ℕ × Tree) → List ℕ
pair_hashes xs = map (λ (p : List ℕ × Tree). text_hash p.0) xs

-- by ascending place, where first fit takes the pairs as they come
abbrev pub placed_pairs : Pairs → Pairs
placed_pairs ps = pairs_of (by_place 7 8 (pair_hashes (pairs_in ps)) (pairs_in ps))

abbrev pub keys_by_first_fit : List (List ℕ) → List (List ℕ)
keys_by_first_fit ks = placed_keys text_hash (map_capacity (length ks)) ks

pub ascending_by_first_fit : (ks : List (List ℕ)) → ascending (keys_by_first_fit ks) ≡ ascending ks
ascending_by_first_fit ks = keys_by_place 7 8 (map text_hash ks) ks (length-map ks text_hash)

module _ (f : List ℕ → Tree) where
  pairs_with : (ks : List (List ℕ)) → pairs_in (with_nodes f ks) ≡ map (λ k. (k, f k)) ks
  pairs_with [] = refl
  pairs_with (k ∷ ks) = ap (λ ps. (k, f k) ∷ ps) (pairs_with ks)

  pairs_of_with : (ks : List (List ℕ)) → pairs_of (map (λ k. (k, f k)) ks) ≡ with_nodes f ks
  pairs_of_with [] = refl
  pairs_of_with (k ∷ ks) = ap (more_pairs k (f k)) (pairs_of_with ks)

  placed_with : (ks : List (List ℕ)) → placed_pairs (with_nodes f ks) ≡ with_nodes f (keys_by_first_fit ks)
  placed_with ks =
      let g : List ℕ → List ℕ × Tree = λ k. (k, f k) in
      let cap = map_capacity (length ks) in
      ap (λ xs. pairs_of (by_place 7 8 (pair_hashes xs) xs)) (pairs_with ks)
      ∙ ap₂ (λ n hs. pairs_of (present (placed (map_capacity n) (fitted_from (map_capacity n) [] hs) (map g ks)))) (length-map ks g) (map_twice (λ (p : List ℕ × Tree). text_hash p.0) g ks)
      ∙ ap pairs_of (placed_mapped g cap (places_of text_hash cap ks) ks)
      ∙ pairs_of_with (keys_by_first_fit ks)

-- the pairs of a document by place denote the document's
pub arranged_placed : (ps : Pairs) → ArePairs hashed [] ps → arranged (placed_pairs ps) ≡ ps
arranged_placed ps legal =
    let h = distinct hashed [] ps legal in
    let f = node_of_key ps in
    let ks = pair_keys ps in
    let own = with_own ps h in
    let stay : ascending (keys_by_first_fit ks) ≡ ks = ascending_by_first_fit ks ∙ ascending_stays [] ps legal in
    let apart = distinct_ascending_back (keys_by_first_fit ks) (subst AreKeysDistinct (sym stay) (keys_distinct ps h)) in
    ap arranged (ap placed_pairs (sym own) ∙ placed_with f ks) ∙ arranged_with f (keys_by_first_fit ks) apart ∙ ap (with_nodes f) stay ∙ own

-- pairs in the order of first fit are the arranged ones by place
pub placed_arranged : (ps : Pairs) → AreDistinct ps → pair_keys ps ≡ placed_keys text_hash (map_capacity (length (pair_keys ps))) (ascending (pair_keys ps)) → placed_pairs (arranged ps) ≡ ps
placed_arranged ps h fit =
    let f = node_of_key ps in
    let ks = pair_keys ps in
    let own = with_own ps h in
    ap placed_pairs (ap arranged (sym own) ∙ arranged_with f ks (keys_distinct ps h)) ∙ placed_with f (ascending ks)
    ∙ ap (λ n. with_nodes f (placed_keys text_hash (map_capacity n) (ascending ks))) (length_ascending ks) ∙ ap (with_nodes f) (sym fit) ∙ own

-- ---- their keys are by first fit

pairs_keys : (xs : List (List ℕ × Tree)) → pair_keys (pairs_of xs) ≡ map (λ (p : List ℕ × Tree). p.0) xs
pairs_keys [] = refl
pairs_keys (x ∷ xs) = ap (λ ks. x.0 ∷ ks) (pairs_keys xs)

placed_keys_are : (ps : Pairs) → pair_keys (placed_pairs ps) ≡ keys_by_first_fit (pair_keys ps)
placed_keys_are ps =
    let xs = pairs_in ps in
    let key : List ℕ × Tree → List ℕ = λ p. p.0 in
    let cap = map_capacity (length xs) in
    let len : length xs ≡ length (pair_keys ps) = sym (length-map xs key) ∙ ap length (keys_listed ps) in
    let hashes : pair_hashes xs ≡ map text_hash (pair_keys ps) = sym (map_twice text_hash key xs) ∙ ap (map text_hash) (keys_listed ps) in
    pairs_keys (by_place 7 8 (pair_hashes xs) xs) ∙ sym (placed_mapped key cap (fitted_from cap [] (pair_hashes xs)) xs)
    ∙ (λ i. let room = map_capacity (len i) in present (placed room (fitted_from room [] (hashes i)) (keys_listed ps i)))

pub first_fit_keys : (ps : Pairs) → ArePairs hashed [] ps
    → pair_keys (placed_pairs ps) ≡ placed_keys text_hash (map_capacity (length (pair_keys (placed_pairs ps)))) (ascending (pair_keys (placed_pairs ps)))
first_fit_keys ps legal =
    let ks = pair_keys (placed_pairs ps) in
    let here = placed_keys_are ps in
    let stay : ascending ks ≡ pair_keys ps = ap ascending here ∙ ascending_by_first_fit (pair_keys ps) ∙ ascending_stays [] ps legal in
    let len : length ks ≡ length (pair_keys ps) = sym (length_ascending ks) ∙ ap length stay in
    here ∙ sym (ap₂ (λ n ls. placed_keys text_hash (map_capacity n) ls) len stay)
