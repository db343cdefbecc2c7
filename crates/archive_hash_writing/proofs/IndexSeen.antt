-- The index map of entries that are seen as others is the index map of those.
use Rattle.std.proofs.Common.{◌≡◌, ℕ, ◌+◌, List, [], ◌∷◌, ◌++◌, map, ◌⊎◌, refl, sym, Some, Option}
use Rattle.std.specs.List.{range_with_len}
use Rattle.std.proofs.lemmas.List.{length-map}
use Rattle.archive_shape_layout.specs.Shape.{Shape}
use Rattle.archive_shape_canonical.specs.FirstFit.{capacity_for}
use Rattle.archive_shape_canonical.specs.Seen.{keys_alone}
use Rattle.archive_shape_canonical.specs.Settled.{IsAsked}
use Rattle.archive_forms_laws.specs.State.{State}
use Rattle.archive_forms_laws.specs.Spelling.{Spelling, state_after}
use Rattle.archive_forms_laws.specs.Forms.{seen_as, kept_as}
use Rattle.archive_forms_laws.specs.Links.{link_bytes, LinkFits, LinkRefused}
use Rattle.archive_forms_laws.proofs.Agreeing.{said}
use Rattle.archive_hash_writing.specs.Fitted.{by_place, controls_of}
use Rattle.archive_hash_writing.specs.IndexMaps.{numbers_spelling, map_spelling}
use Rattle.archive_hash_writing.proofs.ListSeen.{plains_seen, slice_seen}

module _ {A B R Q : Type 0} (s : Shape) (view : B → A) (make : R → Q) (get : Q → R) (back : (r : R) → get (make r) ≡ r) (w : Spelling A R) where
  -- an entry is seen as another, and its resolver is kept as another
  abbrev as_other : Spelling B Q
  as_other = kept_as make get (seen_as view w)

  module _ (most places : ℕ) (hashes : List ℕ) where
    abbrev table : Spelling (List ℕ) (Option ℕ)
    table = numbers_spelling most places s w hashes

    -- the numbers of entries, and the state when their table is written
    abbrev numbered : ℕ → List ℕ
    numbered n = range_with_len 0 n

    abbrev behind : ℕ → State → State
    behind n st = state_after table (numbered n) st

    -- the index map of entries that are seen as others is the index map of those, for all resolvers
    pub map_seen : (xs : List B) → said (map_spelling most places s as_other hashes) xs ≡ said (map_spelling most places s w hashes) (map view xs)
    map_seen [] = refl
    map_seen (x ∷ xs) =
        let all = x ∷ xs in
        let long = sym (length-map all view) in
        let entries = slice_seen s view make get back w all in
        λ i. record {
          value = λ st. (entries i).value (behind (long i) st);
          plain = (entries i).plain;
          piece = λ st. table.piece (numbered (long i)) st ++ (entries i).piece (behind (long i) st);
          resolver = λ st. (table.resolver (numbered (long i)) st, Some ((entries i).resolver (behind (long i) st)));
          met = λ st. (entries i).met (behind (long i) st);
          own = λ r pos. table.own (numbered (long i)) r.0 pos ++ link_bytes r.1 (pos + 12);
          piece_fits = λ st. table.piece_fits (numbered (long i)) st × (entries i).piece_fits (behind (long i) st);
          piece_refused = λ st e. table.piece_refused (numbered (long i)) st e ⊎ (entries i).piece_refused (behind (long i) st) e;
          own_fits = λ r pos. table.own_fits (numbered (long i)) r.0 pos × LinkFits r.1 (pos + 12);
          own_refused = λ r pos e. table.own_refused (numbered (long i)) r.0 pos e ⊎ LinkRefused r.1 (pos + 12) e;
          suits = λ fit given.
              let keys = keys_alone (plains_seen s view make get back w all i) in
              (entries i).suits fit given
              × IsAsked fit.binds ((fit.capacity (long i) ≡ capacity_for (long i) most places)
              × (fit.map_controls keys ≡ controls_of most places hashes (numbered (long i)))
              × (fit.map_numbers keys ≡ by_place most places hashes (numbered (long i))));
        }
