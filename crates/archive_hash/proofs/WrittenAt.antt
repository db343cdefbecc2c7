-- A table of entries answers wherever it was written, and the values of its entries can be read there.
use Rattle.std.proofs.Common.{◌≡◌, ◌∙◌, ℕ, ◌+◌, ◌^◌, ◌<◌, ◌≤◌, List, [], ◌∷◌, get_or, length, map, Option, arith}
use Rattle.std.specs.List.{All}
use Rattle.std.proofs.lemmas.List.{length-map}
use Rattle.std.proofs.lemmas.List.Elements.{All-map}
use Rattle.archive_shape_layout.specs.Shape.{Shape, size_of}
use Rattle.archive_shape_layout.specs.Shape.Shape.{table}
use Rattle.archive_shape_layout.specs.Content.{Names}
use Rattle.archive_shape_layout.specs.Content.Part.{at}
use Rattle.archive_shape_layout.specs.Visited.{AllStand}
use Rattle.archive_shape_layout.proofs.Evaluated.{ascends_raised}
use Rattle.archive_shape_canonical.specs.Settled.{Fit, free}
use Rattle.archive_shape.specs.Key.{HeldAt}
use Rattle.archive_forms_values.specs.Fields.{second_position}
use Rattle.archive_forms_values.specs.Parts.{both}
use Rattle.archive_forms_values.specs.Tuples.{tuple2}
use Rattle.archive_forms_laws.specs.Fields.{tuple2_spelling}
use Rattle.archive_forms_laws.specs.Forms.{seen_as}
use Rattle.archive_forms_laws.specs.Spelling.{Spelling, state_after}
use Rattle.archive_forms_laws.specs.Spells.{CanonicalPart, Spells, SpellsAt}
use Rattle.archive_forms_laws.specs.State.{Keys, visits_of}
use Rattle.archive_forms_laws.specs.WrittenAt.{IsWrittenAt, IsReadableAt}
use Rattle.archive_forms_laws.proofs.Fields.{tuple2_spells}
use Rattle.archive_forms_laws.proofs.Views.{each_spells, known_spells}
use Rattle.archive_forms_writing.proofs.Readable.{fields2_readable_law}
use Rattle.archive_hash_probing.specs.Inputs.{input_hash}
use Rattle.archive_hash_probing.proofs.Small.{input_hash_small}
use Rattle.archive_hash_maps.specs.Tables.{Buckets, IsTableAt, item_position}
use Rattle.archive_hash_writing.specs.Fitted.{by_place, places_of}
use Rattle.archive_hash_writing.specs.Tables.{hashed_spelling, table_spelling}
use Rattle.archive_hash_writing.proofs.ReadableItems.{item_readable, item_suits}
use Rattle.archive_hash_writing.proofs.SpellingTables.{table_spells}
use Rattle.archive_hash_writing.proofs.WrittenItems.{HasWrittenPlaces}
use Rattle.archive_hash_writing.proofs.WrittenPlaces.{written_places}
use Rattle.archive_hash.specs.Owned.{entries_spelling}
use Rattle.archive_hash.proofs.Answering.{IsEntryTable}

-- ---- a value where it was written

module _ {A R : Type 0} (fit : Fit) (s : Shape) (knows : Names → Type 0) (w : Spelling A R) (x : A) (names : Names) (given : Keys) (bytes : List ℕ) (pos : ℕ)
    (spells : SpellsAt fit s knows w x) (known : knows names) (suits : w.suits fit given x) (t : IsWrittenAt given w bytes pos x) where
  pub part : CanonicalPart fit names bytes 0 [] (visits_of t.state.met) (visits_of (w.met x t.state)) (at pos s) (w.value x t.state) t.state.pos (state_after w x t.state).pos
  part = spells.canonical t.state pos names given bytes 0 [] known suits t.keyed t.consistent tt t.piece_fits t.own_fits t.piece t.own

  -- the layout has the value, where it has what was written before it
  abbrev pub written_held : pos + size_of s ≤ length bytes → AllStand names bytes t.state.pos (visits_of t.state.met) → (state_after w x t.state).pos ≤ pos → HeldAt s knows bytes pos (w.value x t.state)
  written_held within stand behind = record {
    names = names;
    known = known;
    level = 0;
    inside = [];
    regions = part.regions;
    before = visits_of t.state.met;
    after = visits_of (w.met x t.state);
    own_within = within;
    low = t.state.pos;
    claimed = record { stand = stand; below = omega (arith, behind); ascends = ascends_raised t.state.pos (state_after w x t.state).pos pos part.regions behind part.ascends };
    holds = part.reads.holds;
  }

-- ---- a table of entries

module _ {A B R P : Type 0} (k v : Shape) (knows others : Names → Type 0) (keys : Spelling A R) (vals : Spelling B P) (fed : A → List (List ℕ))
    (key_spells : (fit : Fit) → Spells fit k knows keys) (value_spells : (fit : Fit) → Spells fit v others vals) where
  abbrev hash_of : A × B → ℕ
  hash_of e = input_hash (fed e.0)

  abbrev pair : Spelling (A × B) (R × P)
  pair = tuple2_spelling k keys v vals

  abbrev spelled : Spelling (List (A × B)) (Option ℕ)
  spelled = table_spelling 7 8 (tuple2 k v) pair hash_of

  pair_spells : Spells free (tuple2 k v) (both knows others) pair
  pair_spells =
      tuple2_spells free (both knows others) k keys v vals
      (known_spells free k knows (both knows others) (λ _ n. n.0) keys (key_spells free))
      (known_spells free v others (both knows others) (λ _ n. n.1) vals (value_spells free))

  spells : Spells free (table (tuple2 k v)) (both knows others) spelled
  spells = table_spells free (tuple2 k v) (both knows others) pair 7 8 hash_of (λ e. input_hash_small (fed e.0)) pair_spells

  small : (es : List (A × B)) → All (λ h. h < 2 ^ 64) (map hash_of es)
  small es = All-map (λ h. h < 2 ^ 64) hash_of es (λ i d l. input_hash_small (fed (get_or es i d).0))

  module _ (names : Names) (known : both knows others names) (given : Keys) (bytes : List ℕ) (pos : ℕ) where
    -- the table of entries can be read at the position
    abbrev pub TableIsReadable : List (A × B) → Type 0
    TableIsReadable es = IsReadableAt names given (table (tuple2 k v)) spelled bytes pos es

    -- so it can where a map or a set can be read that has these entries
    pub entries_readable : {M : Type 0} (view : M → List (A × B)) (m : M)
        → IsReadableAt names given (table (tuple2 k v)) (seen_as view (entries_spelling (λ x. input_hash (fed x)) k v keys vals)) bytes pos m → TableIsReadable (view m)
    entries_readable view m h =
        let t = h.written in
        record {
          written = record { state = t.state; consistent = t.consistent; keyed = t.keyed; piece_fits = t.piece_fits; own_fits = t.own_fits; piece = t.piece; own = t.own };
          stand = h.stand;
          behind = h.behind;
          within = h.within;
        }

    -- as a table of items with a hash for each
    unfoldable hashed : (es : List (A × B)) → TableIsReadable es → IsReadableAt names given (table (tuple2 k v)) (hashed_spelling 7 8 (tuple2 k v) pair (map hash_of es)) bytes pos es
    hashed es h =
        let t = h.written in
        record {
          written = record { state = t.state; consistent = t.consistent; keyed = t.keyed; piece_fits = t.piece_fits; own_fits = t.own_fits; piece = t.piece; own = t.own };
          stand = h.stand;
          behind = h.behind;
          within = h.within;
        }

    has_written : (es : List (A × B)) (h : TableIsReadable es) → 0 < length es
        → HasWrittenPlaces (tuple2 k v) (both knows others) bytes pair 7 8 (map hash_of es) pos es h.written.state
    unfolding hashed
    has_written [] h some = absurd (omega (arith, some))
    has_written (e ∷ es) h some =
        let hashes = map hash_of (e ∷ es) in
        written_places free (tuple2 k v) (both knows others) bytes pair 7 8 hashes e es (length-map (e ∷ es) hash_of) (small (e ∷ es))
        (each_spells free (tuple2 k v) (both knows others) pair pair_spells (by_place 7 8 hashes (e ∷ es))) given pos (hashed (e ∷ es) h).written

    pub written_entries : (es : List (A × B)) → spelled.suits free given es → TableIsReadable es → IsEntryTable k v knows others keys vals bytes fed pos es
    written_entries es suits h = record {
      most = 7;
      places = 8;
      state = h.written.state;
      held = written_held free (table (tuple2 k v)) (both knows others) spelled es names given bytes pos (spells es) known suits h.written h.within h.stand h.behind;
      written = has_written es h;
    }

    -- the value of an entry at a position can be read, behind its key
    abbrev pub HasReadableValue : ℕ → A × B → Type 0
    HasReadableValue spot e = vals.suits free given e.1 × IsReadableAt names given v vals bytes (second_position k v spot) e.1

    pub values_readable : (es : List (A × B)) (suits : spelled.suits free given es) (h : TableIsReadable es) (b : Buckets) → IsTableAt bytes (tuple2 k v) pos b
        → (i : ℕ) (d : A × B) → i < length es
        → HasReadableValue (item_position (tuple2 k v) b.target (get_or (places_of (written_entries es suits h).most (written_entries es suits h).places (map hash_of es) es) i 0)) (get_or es i d)
    unfolding written_entries
    values_readable [] suits h b there i d l = absurd (omega (arith, l))
    values_readable (e ∷ es) suits h b there i d l =
        let hashes = map hash_of (e ∷ es) in
        let even = length-map (e ∷ es) hash_of in
        let entry = get_or (e ∷ es) i d in
        let spot = item_position (tuple2 k v) b.target (get_or (places_of 7 8 hashes (e ∷ es)) i 0) in
        let item = item_readable free (tuple2 k v) (both knows others) pair pair_spells 7 8 hashes e es even (small (e ∷ es)) names known given bytes pos suits (hashed (e ∷ es) h) b there i d l in
        let fits = item_suits free (tuple2 k v) (both knows others) pair pair_spells 7 8 hashes e es even (small (e ∷ es)) names known given bytes pos suits (hashed (e ∷ es) h) i d l in
        (fits.1.0, (fields2_readable_law k keys v vals knows others key_spells value_spells entry bytes spot free names given known fits item).1)
