-- First fit gives the pairs of a document's hashed map the places where they are written, and kept maps as many places.
use Rattle.std.proofs.Common.{◌≡◌, ℕ, ◌<◌, List, [], ◌∷◌, map, length, refl, sym, ap, ◌∙◌, arith}
use Rattle.std.proofs.lemmas.List.{length-map}
use Rattle.archive_shape_layout.specs.Value.{Values}
use Rattle.archive_shape_layout.specs.Value.Value.{string, group}
use Rattle.archive_shape_layout.specs.Value.Values.{no_values, more_values}
use Rattle.archive_shape_canonical.specs.FirstFit.{ascending, first_fit}
use Rattle.archive_shape_canonical.specs.Hash.{text_hash}
use Rattle.archive_shape_canonical.specs.Seen.{keys_alone}
use Rattle.archive_forms_laws.specs.Regions.{plain_values}
use Rattle.archive_forms_laws.specs.Views.{listed}
use Rattle.archive_hash_writing.specs.Fitted.{by_place}
use Rattle.archive_hash_writing.proofs.FirstFitted.{filled_by}
use Rattle.archive_hash_writing.proofs.Small.{text_hashes_small}
use Rattle.archive_hash_writing.proofs.SpellingFitting.{length-table, length-by_place, controls_of_table}
use Rattle.cabinet_text_grammar.specs.Tree.{Tree}
use Rattle.cabinet_documents.specs.Node.{pair_shape}
use Rattle.cabinet_documents.specs.Spelling.{pairs_in, pair_spelling, refused}
use Rattle.cabinet_documents.proofs.FirstFit.{values_in, by_first_fit, listed_mapped, first_fit_mapped}
use Rattle.cabinet_documents.proofs.KeyOrder.{ascending_stays}
use Rattle.cabinet_documents.proofs.PlacedPairs.{pair_hashes, keys_listed}
use Rattle.cabinet_documents.proofs.Values.{values_of_pairs, entry_value, pairs_are}
use Rattle.cabinet_documents.proofs.Plans.{FillsPairs, FillsMaps}

abbrev key_of : List ℕ × Tree → List ℕ
key_of x = x.0

abbrev placed : List (List ℕ × Tree) → List (List ℕ × Tree)
placed xs = by_place 7 8 (pair_hashes xs) xs

-- the key of a pair is seen without its node
keys_only : (xs : List (List ℕ × Tree)) → keys_alone (plain_values (pair_spelling refused) xs) ≡ keys_alone (values_in (map entry_value xs))
keys_only [] = refl
keys_only (x ∷ xs) = ap (more_values (group (more_values (string x.0) no_values))) (keys_only xs)

pairs_fill : (xs : List (List ℕ × Tree)) (vs : Values) → ascending (map key_of xs) ≡ map key_of xs → vs ≡ values_in (map entry_value (placed xs)) → FillsPairs (first_fit text_hash) xs vs
pairs_fill [] vs stay is = is
pairs_fill (x ∷ xs) vs stay is =
    let all : List (List ℕ × Tree) = x ∷ xs in
    let hashes = pair_hashes all in
    let even : length hashes ≡ length all = length-map all (λ (y : List ℕ × Tree). text_hash y.0) in
    let some : 0 < length all = omega arith in
    let filled = filled_by (pair_spelling refused) key_of (λ y. refl) pair_shape text_hash all stay in
    record {
      some = omega arith;
      count = length-by_place 7 8 hashes all even some;
      long = length-table 7 8 hashes all;
      are = controls_of_table 7 8 hashes all even some (text_hashes_small key_of all);
      values_are = ap listed is ∙ listed_mapped entry_value key_of (λ y. refl) (placed all);
      capacity_is = refl;
      controls_are = ap (first_fit text_hash).table_controls (ap keys_alone is ∙ sym (keys_only (placed all))) ∙ filled.1;
    }

pub first_fit_fills : FillsMaps (first_fit text_hash)
first_fit_fills = record {
  hashed_maps = λ ps legal.
      pairs_fill (pairs_in ps) (by_first_fit (values_of_pairs ps)) (ap ascending (keys_listed ps) ∙ ascending_stays [] ps legal ∙ sym (keys_listed ps))
      (ap by_first_fit (pairs_are ps) ∙ first_fit_mapped entry_value key_of (λ x. refl) (pairs_in ps));
  kept_maps = λ xs. refl;
}
