-- How an index map is archived: the table of the numbers of its entries, then the entries in their order, behind their data.
-- Its own bytes are those of the table, and a pointer to the entries.
use Rattle.std.specs.Prelude.{◌≡◌, ℕ, ◌+◌, List, [], ◌∷◌, ◌++◌, length, map, Option, Some, None, ⊤, ◌⊎◌}
use Rattle.std.specs.List.{range_with_len}
use Rattle.archive_shape_layout.specs.Shape.{Shape}
use Rattle.archive_shape_layout.specs.Value.Value.{group}
use Rattle.archive_shape_canonical.specs.Seen.{keys_alone}
use Rattle.archive_shape_canonical.specs.Settled.{Fit, IsAsked}
use Rattle.archive_shape_layout.specs.declared.error.Error.{Error}
use Rattle.archive_forms_laws.specs.State.{State}
use Rattle.archive_forms_laws.specs.Spelling.{Spelling, state_after}
use Rattle.archive_forms_laws.specs.Links.{link_bytes, LinkFits, LinkRefused}
use Rattle.archive_forms_laws.specs.Regions.{state_after_all, values, plain_values, all_suit, region_at, region_piece, region_fits, region_refused}
use Rattle.archive_hash_writing.specs.Fitted.{capacity_of, by_place, controls_of}
use Rattle.archive_forms_laws.specs.Sample.{number_shape, number_spelling}
use Rattle.archive_hash_writing.specs.Tables.{hashed_spelling}

-- the numbers of entries, in their order
abbrev pub numbers : {A : Type 0} → List A → List ℕ
numbers xs = range_with_len 0 (length xs)

-- of entries with the hash of its key beside each, of whose table `most` of `places` places may be full
module _ {A R : Type 0} (most places : ℕ) (s : Shape) (w : Spelling A R) (hashes : List ℕ) where
  -- the table of their numbers
  abbrev pub numbers_spelling : Spelling (List ℕ) (Option ℕ)
  numbers_spelling = hashed_spelling most places number_shape number_spelling hashes

  -- the state when the table is written
  abbrev pub state_behind : List A → State → State
  state_behind xs st = state_after numbers_spelling (numbers xs) st

  -- nothing is written of a map without entries
  abbrev pub map_piece : List A → State → List ℕ
  map_piece [] st = []
  map_piece (x ∷ xs) st = numbers_spelling.piece (numbers (x ∷ xs)) st ++ region_piece w s (x ∷ xs) (state_behind (x ∷ xs) st)

  -- where its entries begin
  abbrev pub entries_at : List A → State → Option ℕ
  entries_at [] st = None
  entries_at (x ∷ xs) st = Some (region_at w s (x ∷ xs) (state_behind (x ∷ xs) st))

  abbrev pub map_fits : List A → State → Type 0
  map_fits [] st = ⊤
  map_fits (x ∷ xs) st = numbers_spelling.piece_fits (numbers (x ∷ xs)) st × region_fits w s (x ∷ xs) (state_behind (x ∷ xs) st)

  abbrev pub map_refused : List A → State → Error → Type 0
  map_refused [] st e = ⊥
  map_refused (x ∷ xs) st e = numbers_spelling.piece_refused (numbers (x ∷ xs)) st e ⊎ region_refused w s (x ∷ xs) (state_behind (x ∷ xs) st) e

  -- how a fit fills an index map with these entries, where they are seen by their keys
  abbrev pub IsKeptSo : Fit → A → List A → Type 0
  IsKeptSo fit x xs =
      let keys = keys_alone (plain_values w (x ∷ xs)) in
      (fit.capacity (length (x ∷ xs)) ≡ capacity_of most places hashes (x ∷ xs))
      × (fit.map_controls keys ≡ controls_of most places hashes (numbers (x ∷ xs)))
      × (fit.map_numbers keys ≡ by_place most places hashes (numbers (x ∷ xs)))

  -- it fills it so, where it binds
  abbrev pub IsKeptBy : Fit → List A → Type 0
  IsKeptBy fit [] = ⊤
  IsKeptBy fit (x ∷ xs) = IsAsked fit.binds (IsKeptSo fit x xs)

  -- the resolver is where the controls stand, and where the entries do
  abbrev pub map_spelling : Spelling (List A) (Option ℕ × Option ℕ)
  map_spelling = record {
    value = λ xs st. group (values w xs (state_behind xs st));
    plain = λ xs. group (plain_values w xs);
    piece = map_piece;
    resolver = λ xs st. (numbers_spelling.resolver (numbers xs) st, entries_at xs st);
    met = λ xs st. (state_after_all w xs (state_behind xs st)).met;
    own = λ xs r pos. numbers_spelling.own (numbers xs) r.0 pos ++ link_bytes r.1 (pos + 12);
    piece_fits = map_fits;
    piece_refused = map_refused;
    own_fits = λ xs r pos. numbers_spelling.own_fits (numbers xs) r.0 pos × LinkFits r.1 (pos + 12);
    own_refused = λ xs r pos e. numbers_spelling.own_refused (numbers xs) r.0 pos e ⊎ LinkRefused r.1 (pos + 12) e;
    suits = λ fit keys xs. all_suit w fit keys xs × IsKeptBy fit xs;
  }

-- the hash of an entry follows from the entry
abbrev pub index_spelling : {A R : Type 0} (most places : ℕ) → Shape → Spelling A R → (A → ℕ) → Spelling (List A) (Option ℕ × Option ℕ)
index_spelling most places s w hash = record {
  value = λ xs. (map_spelling most places s w (map hash xs)).value xs;
  plain = λ xs. (map_spelling most places s w (map hash xs)).plain xs;
  piece = λ xs. (map_spelling most places s w (map hash xs)).piece xs;
  resolver = λ xs. (map_spelling most places s w (map hash xs)).resolver xs;
  met = λ xs. (map_spelling most places s w (map hash xs)).met xs;
  own = λ xs. (map_spelling most places s w (map hash xs)).own xs;
  piece_fits = λ xs. (map_spelling most places s w (map hash xs)).piece_fits xs;
  piece_refused = λ xs. (map_spelling most places s w (map hash xs)).piece_refused xs;
  own_fits = λ xs. (map_spelling most places s w (map hash xs)).own_fits xs;
  own_refused = λ xs. (map_spelling most places s w (map hash xs)).own_refused xs;
  suits = λ fit keys xs. (map_spelling most places s w (map hash xs)).suits fit keys xs;
}
