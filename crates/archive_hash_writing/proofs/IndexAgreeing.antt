-- Spellings that say the same of each entry of an index map say the same of the map.
use Rattle.std.proofs.Common.{◌≡◌, ℕ, List, [], ◌∷◌, ◌++◌, length, map, ◌⊎◌, refl, Some}
use Rattle.archive_shape_layout.specs.Shape.{Shape}
use Rattle.archive_shape_layout.specs.Content.{members}
use Rattle.archive_shape_canonical.specs.Seen.{keys_alone}
use Rattle.archive_forms_laws.specs.State.{State}
use Rattle.archive_forms_laws.specs.Spelling.{Spelling}
use Rattle.archive_forms_laws.proofs.Agreeing.{said, AgreeOn, slices_agree}
use Rattle.archive_hash_writing.specs.Fitted.{capacity_of, by_place, controls_of}
use Rattle.archive_hash_writing.specs.IndexMaps.{numbers, numbers_spelling, state_behind, map_spelling, index_spelling}
use Rattle.archive_shape_canonical.specs.Settled.{IsAsked}

-- the table of the numbers of entries is the same, and behind it the entries are those of a slice
module _ {A R : Type 0} (w u : Spelling A R) (s : Shape) (most places : ℕ) where
  maps_agree : (hashes : List ℕ) (xs : List A) → AgreeOn w u xs → said (map_spelling most places s w hashes) xs ≡ said (map_spelling most places s u hashes) xs
  maps_agree hashes [] agree = refl
  maps_agree hashes (x ∷ xs) agree =
      let all : List A = x ∷ xs in
      let ns = numbers all in
      let table = numbers_spelling most places s w hashes in
      let spelled = map_spelling most places s w hashes in
      let behind : State → State = λ st. state_behind most places s w hashes all st in
      let entries = slices_agree w u s all agree in
      λ i. record {
        value = λ st. (entries i).value (behind st);
        plain = (entries i).plain;
        piece = λ st. table.piece ns st ++ (entries i).piece (behind st);
        resolver = λ st. (table.resolver ns st, Some ((entries i).resolver (behind st)));
        met = λ st. (entries i).met (behind st);
        own = spelled.own all;
        piece_fits = λ st. table.piece_fits ns st × (entries i).piece_fits (behind st);
        piece_refused = λ st e. table.piece_refused ns st e ⊎ (entries i).piece_refused (behind st) e;
        own_fits = spelled.own_fits all;
        own_refused = spelled.own_refused all;
        suits = λ fit given.
            let keys = keys_alone (members (entries i).plain) in
            (entries i).suits fit given
            × IsAsked fit.binds ((fit.capacity (length all) ≡ capacity_of most places hashes all)
            × (fit.map_controls keys ≡ controls_of most places hashes ns)
            × (fit.map_numbers keys ≡ by_place most places hashes ns));
      }

  pub index_agrees : (hash : A → ℕ) (xs : List A) → AgreeOn w u xs → said (index_spelling most places s w hash) xs ≡ said (index_spelling most places s u hash) xs
  index_agrees hash xs agree = maps_agree (map hash xs) xs agree
