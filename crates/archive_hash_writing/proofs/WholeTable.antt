-- The table of items with their hashes, whose data and whose region are written.
use Rattle.std.proofs.Common.{◌≡◌, ℕ, zero, suc, ◌+◌, ◌-◌, ◌*◌, ◌/◌, ◌^◌, ◌≤◌, ◌<◌, max, cond, List, [], ◌∷◌, ◌++◌, refl, sym, ap, subst, ◌∙◌, arith, length, map, inl, inr, ◌⊎◌, Option, Some, None, Ok, Err, add-zero}
use Rattle.std.specs.Prelude.{⊤, Result}
use denote.Bor.{Bor}
use Rattle.std.proofs.Math.Dec.{eqb-suc-zero}
use Rattle.archive_shape_layout.specs.Shape.{Shape}
use Rattle.archive_shape.specs.Bytes.{zeros}
use Rattle.archive_shape_canonical.specs.FirstFit.{capacity_for, first_fit, fitted_from, placed, present, written_controls}
use Rattle.archive_shape_layout.specs.Writing.{WriterMembers}
use Rattle.archive_shape_layout.specs.declared.error.Error.{Error}
use Rattle.archive_shape_layout.specs.declared.error.Error.TheVariants.{LengthTooLarge, InvalidLoadFactor, PositionTooLarge}
use Rattle.archive_shape_layout.proofs.Joined.{written_none}
use Rattle.archive_forms_laws.specs.State.{State, visit_of_key}
use Rattle.archive_forms_laws.specs.Spelling.{Spelling, state_after}
use Rattle.archive_forms_laws.specs.Regions.{state_after_all, pieces, pieces_fit, pieces_refused}
use Rattle.archive_forms_laws.specs.Serializing.{of_data, IsAt, Serializes, is_begun, progress_by}
use Rattle.archive_forms_laws.proofs.Regions.{state_after_all_begun}
use Rattle.archive_forms_writing.proofs.Laying.{Wrote, Stops, wrote_both, stopped_after, stopped_first, stopped_before, as_data, stops_as_data}
use Rattle.archive_hash_probing.specs.Loads.{IsLoadFactor}
use Rattle.archive_hash_probing.proofs.FirstFits.{written_are}
use Rattle.archive_hash_probing.proofs.Wrapping.{count_is}
use Rattle.archive_hash_maps.specs.declared.map.resolving.HashTableResolver.{HashTableResolver}
use Rattle.archive_hash_writing.specs.Fitted.{table_of, controls_of}
use Rattle.archive_hash_writing.specs.Tables.{buckets, controls_at, region_from, state_after_items, IsPlaced, buckets_refused, filled_piece, filled_refused, filled_fits}
use Rattle.archive_hash_writing.specs.Claimed.{written_spelling}
use Rattle.archive_hash_writing.specs.Standing.{standing}
use Rattle.archive_hash_writing.specs.Laying.{LaysRegion}
use Rattle.archive_hash_writing.proofs.Standing.{length-placed}

-- ---- the number of places

capacity_is : (n most places : ℕ) → capacity_for (suc n) most places ≡ max (suc n * places / most) (suc n + 1)
capacity_is n most places = ap (λ b. cond b 0 (max (suc n * places / most) (suc n + 1))) (eqb-suc-zero n)

-- more than items
pub capacity_more : (n most places : ℕ) → 0 < capacity_for n most places → n < capacity_for n most places
capacity_more zero most places h = h
capacity_more (suc n) most places h = omega (arith, capacity_is n most places)

pub some_items : {A : Type 0} (xs : List A) (most places : ℕ) → 0 < capacity_for (length xs) most places → 0 < length xs
some_items [] most places h = absurd (omega arith)
some_items (x ∷ xs) most places h = omega arith

-- and some controls
pub some_controls : (cap : ℕ) (hashes places : List ℕ) → 0 < length (written_controls cap hashes places)
some_controls cap hashes places = let are = (written_are cap hashes places).count in let n = count_is cap in omega (arith, are, n)

module _ {A R W : Type 0} (load : ℕ × ℕ) (sh : Shape) (w : Spelling A R) (hashes : List ℕ) (s : WriterMembers W) where
  abbrev spelled : Spelling (List A) HashTableResolver
  spelled = written_spelling load sh w hashes

  -- the items at the table's places, and its controls
  abbrev pub os : List A → List (Option A)
  os xs = table_of load.0 load.1 hashes xs

  abbrev pub controls : List A → List ℕ
  controls xs = controls_of load.0 load.1 hashes xs

  -- no items are written as nothing
  pub nothing_written : (xs : List A) (old : W) → capacity_for (length xs) load.0 load.1 ≡ 0 → Serializes spelled s xs old old (Ok (record { pos = None }))
  nothing_written [] old e st at = (written_none old, (refl, tt, record { stands = at.stands ∙ sym (add-zero st.pos); knows = at.knows }))
  nothing_written (x ∷ xs) old e st at = absurd (let n = capacity_is (length xs) load.0 load.1 in omega arith)

  -- a call stops before anything is written
  pub refused_first : (xs : List A) (old : W) (st : State) (e : Error) → IsLoadFactor load
      → ((IsLoadFactor load → ⊥) × (e ≡ InvalidLoadFactor)) ⊎ (IsLoadFactor load × (2 ^ 32 ≤ capacity_for (length xs) load.0 load.1) × (e ≡ LengthTooLarge))
      → Stops (of_data s) old old (spelled.piece xs st) (spelled.piece_refused xs st) e
  refused_first xs old st e is (inl r) = absurd (r.0 is)
  refused_first [] old st e is (inr r) = absurd (let h = r.1 in omega arith)
  refused_first (x ∷ xs) old st e is (inr r) =
      let n : length (os (x ∷ xs)) ≡ capacity_for (length (x ∷ xs)) load.0 load.1 = length-placed _ _ (x ∷ xs) in
      stopped_before (of_data s) old (spelled.piece (x ∷ xs) st) (spelled.piece_refused (x ∷ xs) st) e (inr (inl (omega (arith, n, r.1), r.2)))

  -- ---- a table of some items

  module _ (xs : List A) (some : 0 < length xs) (old : W) (st : State) where
    -- its region, after the data of the items
    abbrev region : List ℕ
    region = zeros (region_from sh w (os xs) st - (state_after_items sh w (os xs) st).pos) ++ (buckets sh w (os xs) st (controls_at sh w (os xs) st) ++ controls xs)

    abbrev own_data : List ℕ
    own_data = pieces w (present (os xs)) st

    piece_is : spelled.piece xs st ≡ own_data ++ region
    piece_is = elim xs as (λ ys. 0 < length ys → spelled.piece ys st ≡ filled_piece sh w (os ys) (controls ys) st) [ [] ↦ λ h. absurd (omega arith) | x ∷ xs ↦ λ h. refl ] some

    refused_so : (e : Error) → filled_refused sh w (os xs) (controls xs) st e → spelled.piece_refused xs st e
    refused_so e = elim xs as (λ ys. 0 < length ys → filled_refused sh w (os ys) (controls ys) st e → spelled.piece_refused ys st e) [ [] ↦ λ h r. absurd (omega arith) | x ∷ xs ↦ λ h r. r ] some

    fits_so : filled_fits sh w (os xs) (controls xs) st → spelled.piece_fits xs st
    fits_so = elim xs as (λ ys. 0 < length ys → filled_fits sh w (os ys) (controls ys) st → spelled.piece_fits ys st) [ [] ↦ λ h r. absurd (omega arith) | x ∷ xs ↦ λ h r. r ] some

    made_so : (to : ℕ) → to ≡ controls_at sh w (os xs) st → record { pos = Some to } ≡ spelled.resolver xs st
    made_so to e = ap (λ n. record { pos = Some n }) e ∙ elim xs as (λ ys. 0 < length ys → record { pos = Some (controls_at sh w (os ys) st) } ≡ spelled.resolver ys st) [ [] ↦ λ h. absurd (omega arith) | x ∷ xs ↦ λ h. refl ] some

    -- a call stopped in the data
    data_stopped : (new : W) (e : Error) → Stops (of_data s) old new own_data (pieces_refused w (present (os xs)) st) e → Stops (of_data s) old new (spelled.piece xs st) (spelled.piece_refused xs st) e
    data_stopped new e h = stopped_first (of_data s) region (spelled.piece xs st) (pieces_refused w (present (os xs)) st) (spelled.piece_refused xs st) piece_is (λ r. refused_so e (inr (inl r))) h

    -- a call stopped in the region
    region_stopped : (mid new : W) (e : Error) → Wrote (of_data s) old mid own_data → LaysRegion sh w s (os xs) (controls xs) st mid new (Err e) → Stops (of_data s) old new (spelled.piece xs st) (spelled.piece_refused xs st) e
    region_stopped mid new e g h =
        let far : Error → Type 0 = λ d. ((IsPlaced sh w (os xs) (controls xs) st → ⊥) × (d ≡ PositionTooLarge)) ⊎ buckets_refused sh w (os xs) st (controls_at sh w (os xs) st) d in
        stopped_after (of_data s) (spelled.piece xs st) far (spelled.piece_refused xs st) piece_is (λ r. refused_so e (inr (inr r))) g (stops_as_data s h)

    -- all of it was written
    table_written : (mid new : W) (to : ℕ) → IsAt s.pos s.known old st → capacity_for (length xs) load.0 load.1 < 2 ^ 32
        → Wrote (of_data s) old mid own_data → pieces_fit w (present (os xs)) st → IsAt s.pos s.known mid (state_after_all w (present (os xs)) st) → LaysRegion sh w s (os xs) (controls xs) st mid new (Ok to)
        → Wrote (of_data s) old new (spelled.piece xs st) × ((record { pos = Some to } ≡ spelled.resolver xs st) × spelled.piece_fits xs st × IsAt s.pos s.known new (state_after spelled xs st))
    table_written mid new to at small g f is h =
        let many : length (os xs) ≡ capacity_for (length xs) load.0 load.1 = length-placed _ _ xs in
        let few : length (os xs) < 2 ^ 32 = omega arith in
        let wrote : Wrote (of_data s) old new (spelled.piece xs st) = wrote_both (of_data s) (spelled.piece xs st) piece_is g (as_data s h.0) in
        let begun = state_after_all_begun (first_fit (λ _. 0)) sh (λ _. ⊤) w (present (os xs)) st in (
          wrote,
          (
            made_so to h.1.0,
            fits_so (few, f, h.1.1, h.1.2),
            record {
              stands = wrote.moves ∙ ap (λ p. p + length (spelled.piece xs st)) at.stands;
              knows = λ key. h.0.keeps key ∙ is.knows key ∙ ap (λ b. progress_by (visit_of_key (state_after_all w (present (os xs)) st).met key) (is_begun b key)) begun;
            },
          ),
        )

    -- the items at the places and the controls are those of the table
    module _ (o : List (Option A)) (cs : List ℕ) (eo : o ≡ os xs) (ec : cs ≡ controls xs) where
      laid_so : (mid new : W) (result : Result ℕ Error) → LaysRegion sh w s o cs st mid new result → LaysRegion sh w s (os xs) (controls xs) st mid new result
      laid_so mid new result h =
          let P : List (Option A) → Type 0 = λ l. LaysRegion sh w s l cs st mid new result in
          let Q : List ℕ → Type 0 = λ l. LaysRegion sh w s (os xs) l st mid new result in
          subst Q ec (subst P eo h)

      wrote_so : (mid : W) → Wrote (of_data s) old mid (pieces w (present o) st) → Wrote (of_data s) old mid own_data
      wrote_so mid g = let P : List (Option A) → Type 0 = λ l. Wrote (of_data s) old mid (pieces w (present l) st) in subst P eo g

      pub stopped_in_data : (new : W) (e : Error) → Stops (of_data s) old new (pieces w (present o) st) (pieces_refused w (present o) st) e → Stops (of_data s) old new (spelled.piece xs st) (spelled.piece_refused xs st) e
      stopped_in_data new e h = let P : List (Option A) → Type 0 = λ l. Stops (of_data s) old new (pieces w (present l) st) (pieces_refused w (present l) st) e in data_stopped new e (subst P eo h)

      pub stopped_in_region : (mid new : W) (e : Error) → Wrote (of_data s) old mid (pieces w (present o) st) → LaysRegion sh w s o cs st mid new (Err e) → Stops (of_data s) old new (spelled.piece xs st) (spelled.piece_refused xs st) e
      stopped_in_region mid new e g h = region_stopped mid new e (wrote_so mid g) (laid_so mid new (Err e) h)

      pub written_all : (mid new : W) (to : ℕ) → IsAt s.pos s.known old st → capacity_for (length xs) load.0 load.1 < 2 ^ 32
          → Wrote (of_data s) old mid (pieces w (present o) st) → pieces_fit w (present o) st → IsAt s.pos s.known mid (state_after_all w (present o) st) → LaysRegion sh w s o cs st mid new (Ok to)
          → Wrote (of_data s) old new (spelled.piece xs st) × ((record { pos = Some to } ≡ spelled.resolver xs st) × spelled.piece_fits xs st × IsAt s.pos s.known new (state_after spelled xs st))
      written_all mid new to at small g f is h =
          let F : List (Option A) → Type 0 = λ l. pieces_fit w (present l) st in
          let I : List (Option A) → Type 0 = λ l. IsAt s.pos s.known mid (state_after_all w (present l) st) in
          table_written mid new to at small (wrote_so mid g) (subst F eo f) (subst I eo is) (laid_so mid new (Ok to) h)

-- ---- the places of items

pub placed_so : {A : Type 0} (cap : ℕ) (given table : List (Option (Bor A))) (qs : List ℕ) (xs : List A) → given ≡ table → map standing table ≡ placed cap qs xs → map standing given ≡ placed cap qs xs
placed_so cap given table qs xs e h = ap (map standing) e ∙ h

module _ {A : Type 0} (load : ℕ × ℕ) (hashes : List ℕ) (xs : List A) (cap : ℕ) (is : cap ≡ capacity_for (length xs) load.0 load.1) where
  pub stands_so : (given table : List (Option (Bor A))) (at places : List ℕ) → given ≡ table → at ≡ places → places ≡ fitted_from cap [] hashes → map standing table ≡ placed cap at xs → map standing given ≡ table_of load.0 load.1 hashes xs
  stands_so given table at places t e f h = placed_so cap given table at xs t h ∙ ap (λ qs. placed cap qs xs) (e ∙ f) ∙ ap (λ n. placed n (fitted_from n [] hashes) xs) is

  pub controls_so : (cs given : List ℕ) → given ≡ cs → cs ≡ written_controls cap hashes (fitted_from cap [] hashes) → given ≡ controls_of load.0 load.1 hashes xs
  controls_so cs given e h = e ∙ h ∙ ap (λ n. written_controls n hashes (fitted_from n [] hashes)) is
