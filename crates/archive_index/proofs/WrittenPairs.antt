-- What is written of a value as a whole archive is the archive of an index map of its entries, and what is written of entries
-- anywhere is their map.
use Rattle.std.proofs.Common.{◌≡◌, ℕ, ◌^◌, ◌<◌, true, List, [], ◌∷◌, get_or, map, refl, arith}
use Rattle.std.proofs.lemmas.List.{length-map}
use Rattle.std.proofs.lemmas.List.Elements.{All-map}
use Rattle.archive_shape_layout.specs.Shape.{Shape}
use Rattle.archive_shape_layout.specs.Shape.Shape.{index_map}
use Rattle.archive_shape_layout.specs.Content.{Names}
use Rattle.archive_shape_canonical.specs.FirstFit.{capacity_for}
use Rattle.archive_shape_canonical.specs.Settled.{Fit}
use Rattle.archive_forms_values.specs.Parts.{both}
use Rattle.archive_forms_values.specs.Tuples.{tuple2}
use Rattle.archive_forms_laws.specs.Fields.{tuple2_spelling}
use Rattle.archive_forms_laws.specs.Forms.{seen_as}
use Rattle.archive_forms_laws.specs.Regions.{all_suit}
use Rattle.archive_forms_laws.specs.Spelling.{Spelling}
use Rattle.archive_forms_laws.specs.Spells.{Spells}
use Rattle.archive_forms_laws.specs.State.{AreOneToOne, Keys, initial}
use Rattle.archive_forms_laws.specs.WrittenAt.{IsReadableAt}
use Rattle.archive_forms_laws.proofs.Fields.{tuple2_spells}
use Rattle.archive_forms_laws.proofs.Views.{kept_spells, known_spells, seen_spells}
use Rattle.archive_forms_laws.proofs.Written.{is_written}
use Rattle.archive_hash_probing.specs.Inputs.{input_hash}
use Rattle.archive_hash_probing.proofs.Small.{input_hash_small}
use Rattle.archive_hash_writing.specs.Fitted.{by_place, controls_of}
use Rattle.archive_hash_writing.specs.IndexMaps.{IsKeptBy, map_spelling, numbers}
use Rattle.archive_hash_writing.specs.IndexResolvers.{pairs_spelling, positions_of, resolver_of}
use Rattle.archive_hash_writing.specs.declared.index.resolver.IndexMapResolver.{IndexMapResolver}
use Rattle.archive_hash_writing.proofs.IndexMaps.{index_spells}
use Rattle.archive_hash.proofs.WrittenAt.{written_held}
use Rattle.archive_index.specs.Answering.{IsWrittenMap}
use Rattle.archive_index.specs.Owned.{IsWrittenOf}
use Rattle.archive_index.proofs.InOrder.{HasMapOf}
use Rattle.archive_index.proofs.Numbered.{filled_as_written}

module _ {A B R P : Type 0} (k v : Shape) (knows others : Names → Type 0) (keys : Spelling A R) (vals : Spelling B P) (fed : A → List (List ℕ))
    (key_spells : (fit : Fit) → Spells fit k knows keys) (value_spells : (fit : Fit) → Spells fit v others vals) where
  abbrev hash_of : A × B → ℕ
  hash_of e = input_hash (fed e.0)

  abbrev pair : Spelling (A × B) (R × P)
  pair = tuple2_spelling k keys v vals

  abbrev listed : Spelling (List (A × B)) IndexMapResolver
  listed = pairs_spelling (λ x. input_hash (fed x)) k v keys vals

  pub pair_spells : (fit : Fit) → Spells fit (tuple2 k v) (both knows others) pair
  pair_spells fit =
      tuple2_spells fit (both knows others) k keys v vals
      (known_spells fit k knows (both knows others) (λ _ n. n.0) keys (key_spells fit))
      (known_spells fit v others (both knows others) (λ _ n. n.1) vals (value_spells fit))

  listed_spells : (fit : Fit) → Spells fit (index_map k v) (both knows others) listed
  listed_spells fit =
      kept_spells fit (index_map k v) (both knows others) resolver_of positions_of (λ r. refl) _
      (index_spells fit k v (both knows others) pair 7 8 hash_of (λ e. input_hash_small (fed e.0)) (pair_spells fit))

  -- the fit that fills the map of these pairs as it is written
  abbrev own_fit : List (A × B) → Fit
  own_fit es = record {
    binds = true;
    capacity = λ n. capacity_for n 7 8;
    table_controls = λ items. [];
    table_items = λ items. items;
    map_controls = λ entries. controls_of 7 8 (map hash_of es) (numbers es);
    map_numbers = λ entries. by_place 7 8 (map hash_of es) (numbers es);
  }

  kept : (es : List (A × B)) → IsKeptBy 7 8 (tuple2 k v) pair (map hash_of es) (own_fit es) es
  kept [] = tt
  kept (e ∷ es) = (refl, refl, refl)

  -- the map as it is written, regardless of what its resolver is kept as and of where its hashes come from
  pub as_hashed : (names : Names) (given : Keys) (bytes : List ℕ) (pos : ℕ) (es : List (A × B)) → IsReadableAt names given (index_map k v) listed bytes pos es
      → IsReadableAt names given (index_map k v) (map_spelling 7 8 (tuple2 k v) pair (map hash_of es)) bytes pos es
  as_hashed names given bytes pos es r =
      let h = r.written in
      record {
        written = record { state = h.state; consistent = h.consistent; keyed = h.keyed; piece_fits = h.piece_fits; own_fits = h.own_fits; piece = h.piece; own = h.own };
        stand = r.stand;
        behind = r.behind;
        within = r.within;
      }

  -- where what was written of entries can be read, the layout has their map, with each number at its place
  pub map_there : (fit : Fit) (names : Names) (given : Keys) (bytes : List ℕ) (pos : ℕ) (es : List (A × B)) → both knows others names → listed.suits fit given es
      → IsReadableAt names given (index_map k v) listed bytes pos es → HasMapOf k v knows others keys vals bytes fed pos es
  map_there fit names given bytes pos [] known suits r =
      written_held fit (index_map k v) (both knows others) listed [] names given bytes pos (listed_spells fit []) known suits r.written r.within r.stand r.behind
  map_there fit names given bytes pos (e ∷ es) known suits r =
      let small = All-map (λ h. h < 2 ^ 64) hash_of (e ∷ es) (λ i d l. input_hash_small (fed (get_or (e ∷ es) i d).0)) in (
        7,
        8,
        filled_as_written 7 8 k v pair (map hash_of (e ∷ es)) e es (length-map (e ∷ es) hash_of) small fit knows others (pair_spells fit) names given bytes pos known suits (as_hashed names given bytes pos (e ∷ es) r),
      )

  -- what is written of a value of which these are the entries
  module _ {M : Type 0} (entries : M → List (A × B)) (m : M) (bytes : List ℕ) where
    abbrev spelled : Spelling M IndexMapResolver
    spelled = seen_as entries listed

    abbrev Written : Type 0
    Written = IsWrittenMap k v knows others keys vals bytes fed (entries m)

    pub owned_written : (fit : Fit) (names : Names) (given : Keys) → fit.binds ≡ true → spelled.suits fit given m → both knows others names → AreOneToOne given → IsWrittenOf (index_map k v) spelled m bytes
        → Written
    owned_written fit names given binds suits known one w =
        let spells = seen_spells fit (index_map k v) (both knows others) entries listed (listed_spells fit) in
        let h = is_written fit (index_map k v) (both knows others) spelled m names given bytes spells known suits one w.fits w.is in
        record {
          most = 7;
          places = 8;
          fit = fit;
          binds = binds;
          names = names;
          given = given;
          start = 0;
          state = initial;
          regions = h.archive.regions;
          visits = h.archive.visits;
          known = known;
          suits = suits;
          plain = h.plain;
          archive = h.archive.canonical;
        }

    pub plain_written : (names : Names) (given : Keys) → ((fit : Fit) → all_suit pair fit given (entries m)) → both knows others names → AreOneToOne given → IsWrittenOf (index_map k v) spelled m bytes → Written
    plain_written names given each known one w = owned_written (own_fit (entries m)) names given refl (each (own_fit (entries m)), kept (entries m)) known one w
