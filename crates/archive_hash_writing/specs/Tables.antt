-- How a hash table is archived: the data of its items by ascending place, after it the buckets and the controls, and a
-- pointer to the controls with the number of items and that of places.
use Rattle.std.specs.Prelude.{◌≡◌, ℕ, ◌+◌, ◌-◌, ◌*◌, ◌^◌, ◌<◌, ◌≤◌, List, [], ◌∷◌, ◌++◌, length, map, Option, Some, None, ⊤, ◌⊎◌}
use Rattle.std.specs.Int.{w32, to_le_bytes}
use Rattle.archive_shape_layout.specs.Bytes.{align_up}
use Rattle.archive_shape_layout.specs.Shape.{Shape, size_of, align_of}
use Rattle.archive_shape_layout.specs.Value.Value.{group}
use Rattle.archive_shape_canonical.specs.FirstFit.{present}
use Rattle.archive_shape_canonical.specs.Seen.{keys_alone}
use Rattle.archive_shape_canonical.specs.Settled.{Fit, IsAsked}
use Rattle.archive_shape.specs.Bytes.{zeros}
use Rattle.archive_shape_layout.specs.declared.error.Error.{Error}
use Rattle.archive_shape_layout.specs.declared.error.Error.TheVariants.{LengthTooLarge, PositionTooLarge}
use Rattle.archive_forms_laws.specs.State.{State}
use Rattle.archive_forms_laws.specs.Spelling.{Spelling, state_after}
use Rattle.archive_forms_laws.specs.Links.{link_bytes, LinkFits, LinkRefused}
use Rattle.archive_forms_laws.specs.Regions.{state_after_all, values, plain_values, all_suit, pieces, pieces_fit, pieces_refused, placed_fits, placed_refused}
use Rattle.archive_hash_writing.specs.Fitted.{capacity_of, table_of, by_place, controls_of}

-- ---- buckets

-- The buckets of places, of which the first one ends at a position and each other one where the one before begins; the
-- data of the items there was written from a state on. An empty bucket is zero.
module _ {A R : Type 0} (s : Shape) (w : Spelling A R) where
  abbrev pub buckets : List (Option A) → State → ℕ → List ℕ
  buckets [] st end = []
  buckets (None ∷ os) st end = buckets os st (end - size_of s) ++ zeros (size_of s)
  buckets (Some x ∷ os) st end =
      let pos = end - size_of s in buckets os (state_after w x st) pos ++ w.own x (w.resolver x st) pos

  abbrev pub buckets_fit : List (Option A) → State → ℕ → Type 0
  buckets_fit [] st end = ⊤
  buckets_fit (None ∷ os) st end = buckets_fit os st (end - size_of s)
  buckets_fit (Some x ∷ os) st end =
      let pos = end - size_of s in placed_fits w s x (w.resolver x st) pos × buckets_fit os (state_after w x st) pos

  abbrev pub buckets_refused : List (Option A) → State → ℕ → Error → Type 0
  buckets_refused [] st end e = ⊥
  buckets_refused (None ∷ os) st end e = buckets_refused os st (end - size_of s) e
  buckets_refused (Some x ∷ os) st end e =
      let pos = end - size_of s in placed_refused w s x (w.resolver x st) pos e ⊎ buckets_refused os (state_after w x st) pos e

  -- ---- the region of a table that has places: its buckets and controls, after the data of its items

  abbrev pub state_after_items : List (Option A) → State → State
  state_after_items os st = state_after_all w (present os) st

  -- it begins at the next position of the items' alignment
  abbrev pub region_from : List (Option A) → State → ℕ
  region_from os st = align_up (state_after_items os st).pos (align_of s)

  -- where the buckets end and the controls begin
  abbrev pub controls_at : List (Option A) → State → ℕ
  controls_at os st = region_from os st + length os * size_of s

  abbrev pub filled_piece : List (Option A) → List ℕ → State → List ℕ
  filled_piece os controls st =
      pieces w (present os) st
      ++ (zeros (region_from os st - (state_after_items os st).pos) ++ (buckets os st (controls_at os st) ++ controls))

  -- the number of places is below 2^32, the region begins before position 2^32 and ends before position 2^64
  abbrev pub IsPlaced : List (Option A) → List ℕ → State → Type 0
  IsPlaced os controls st = (region_from os st < 2 ^ 32) × (controls_at os st + length controls < 2 ^ 64)

  abbrev pub filled_fits : List (Option A) → List ℕ → State → Type 0
  filled_fits os controls st =
      (length os < 2 ^ 32) × pieces_fit w (present os) st × IsPlaced os controls st × buckets_fit os st (controls_at os st)

  abbrev pub filled_refused : List (Option A) → List ℕ → State → Error → Type 0
  filled_refused os controls st e =
      ((2 ^ 32 ≤ length os) × (e ≡ LengthTooLarge))
      ⊎ (pieces_refused w (present os) st e
      ⊎ (((IsPlaced os controls st → ⊥) × (e ≡ PositionTooLarge)) ⊎ buckets_refused os st (controls_at os st) e))

-- ---- tables

-- of items with a hash for each, of whose table `most` of `places` places may be full
module _ {A R : Type 0} (most places : ℕ) (s : Shape) (w : Spelling A R) where
  module _ (hashes : List ℕ) where
    -- a table without items has no places
    abbrev pub table_piece : List A → State → List ℕ
    table_piece [] st = []
    table_piece (x ∷ xs) st = filled_piece s w (table_of most places hashes (x ∷ xs)) (controls_of most places hashes (x ∷ xs)) st

    abbrev pub table_controls : List A → State → Option ℕ
    table_controls [] st = None
    table_controls (x ∷ xs) st = Some (controls_at s w (table_of most places hashes (x ∷ xs)) st)

    abbrev pub table_fits : List A → State → Type 0
    table_fits [] st = ⊤
    table_fits (x ∷ xs) st = filled_fits s w (table_of most places hashes (x ∷ xs)) (controls_of most places hashes (x ∷ xs)) st

    abbrev pub table_refused : List A → State → Error → Type 0
    table_refused [] st e = ⊥
    table_refused (x ∷ xs) st e = filled_refused s w (table_of most places hashes (x ∷ xs)) (controls_of most places hashes (x ∷ xs)) st e

    -- how a fit fills a table with these items, where it is given the items' keys
    abbrev pub IsFilledSo : Fit → A → List A → Type 0
    IsFilledSo fit x xs =
        let keys = keys_alone (plain_values w (by_place most places hashes (x ∷ xs))) in
        (fit.capacity (length (x ∷ xs)) ≡ capacity_of most places hashes (x ∷ xs))
        × (fit.table_controls keys ≡ controls_of most places hashes (x ∷ xs))
        × (fit.table_items keys ≡ keys)

    -- it fills it so, where it binds
    abbrev pub IsFilledBy : Fit → List A → Type 0
    IsFilledBy fit [] = ⊤
    IsFilledBy fit (x ∷ xs) = IsAsked fit.binds (IsFilledSo fit x xs)

    -- the items are passed as a list, and have values by ascending place
    abbrev pub hashed_spelling : Spelling (List A) (Option ℕ)
    hashed_spelling = record {
      value = λ xs st. group (values w (by_place most places hashes xs) st);
      plain = λ xs. group (plain_values w (by_place most places hashes xs));
      piece = table_piece;
      resolver = table_controls;
      met = λ xs st. (state_after_all w (by_place most places hashes xs) st).met;
      own = λ xs controls pos. link_bytes controls pos ++ (to_le_bytes w32 (length xs) ++ to_le_bytes w32 (capacity_of most places hashes xs));
      piece_fits = table_fits;
      piece_refused = table_refused;
      own_fits = λ xs controls pos. LinkFits controls pos × (capacity_of most places hashes xs < 2 ^ 32);
      own_refused = λ xs controls pos e. LinkRefused controls pos e ⊎ ((2 ^ 32 ≤ capacity_of most places hashes xs) × (e ≡ LengthTooLarge));
      suits = λ fit given xs. all_suit w fit given (by_place most places hashes xs) × IsFilledBy fit xs;
    }

  -- the hash of an item follows from the item
  abbrev pub table_spelling : (A → ℕ) → Spelling (List A) (Option ℕ)
  table_spelling hash = record {
    value = λ xs. (hashed_spelling (map hash xs)).value xs;
    plain = λ xs. (hashed_spelling (map hash xs)).plain xs;
    piece = λ xs. (hashed_spelling (map hash xs)).piece xs;
    resolver = λ xs. (hashed_spelling (map hash xs)).resolver xs;
    met = λ xs. (hashed_spelling (map hash xs)).met xs;
    own = λ xs. (hashed_spelling (map hash xs)).own xs;
    piece_fits = λ xs. (hashed_spelling (map hash xs)).piece_fits xs;
    piece_refused = λ xs. (hashed_spelling (map hash xs)).piece_refused xs;
    own_fits = λ xs. (hashed_spelling (map hash xs)).own_fits xs;
    own_refused = λ xs. (hashed_spelling (map hash xs)).own_refused xs;
    suits = λ fit given xs. (hashed_spelling (map hash xs)).suits fit given xs;
  }
