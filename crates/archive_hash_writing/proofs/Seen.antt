-- The table of items that are seen as others is the table of those.
use Rattle.std.proofs.Common.{◌≡◌, ◌∙◌, ℕ, ◌+◌, ◌-◌, ◌*◌, ◌^◌, ◌<◌, ◌≤◌, List, [], ◌∷◌, ◌++◌, length, map, ◌⊎◌, refl, ap, ap₂, sym, Option, Some, None}
use Rattle.std.specs.Int.{w32, to_le_bytes}
use Rattle.std.specs.List.{range_with_len}
use Rattle.std.specs.Option.{option_map}
use Rattle.std.proofs.lemmas.List.{length-map}
use Rattle.archive_shape_layout.specs.Bytes.{align_up}
use Rattle.archive_shape_layout.specs.Shape.{Shape, size_of, align_of}
use Rattle.archive_shape_layout.specs.Value.Value.{group}
use Rattle.archive_shape_layout.specs.Value.Values.{more_values}
use Rattle.archive_shape_canonical.specs.FirstFit.{capacity_for, fitted_from, item_at, present, written_controls}
use Rattle.archive_shape_canonical.specs.Seen.{keys_alone}
use Rattle.archive_shape_canonical.specs.Settled.{Fit, IsAsked}
use Rattle.archive_shape.specs.Bytes.{zeros}
use Rattle.archive_shape_layout.specs.declared.error.Error.{Error}
use Rattle.archive_shape_layout.specs.declared.error.Error.TheVariants.{LengthTooLarge, PositionTooLarge}
use Rattle.archive_forms_laws.specs.State.{State, Keys}
use Rattle.archive_forms_laws.specs.Spelling.{Spelling, state_after}
use Rattle.archive_forms_laws.specs.Forms.{seen_as, kept_as}
use Rattle.archive_forms_laws.specs.Links.{link_bytes, LinkFits, LinkRefused}
use Rattle.archive_forms_laws.specs.Regions.{state_after_all, values, plain_values, all_suit, pieces, pieces_fit, pieces_refused}
use Rattle.archive_forms_laws.proofs.Agreeing.{Said, said}
use Rattle.archive_hash_writing.specs.Fitted.{capacity_of, table_of, controls_of}
use Rattle.archive_hash_writing.proofs.Placed.{item_mapped}
use Rattle.archive_hash_writing.specs.Tables.{buckets, buckets_fit, buckets_refused, controls_at, region_from, IsPlaced, filled_piece, filled_fits, filled_refused, hashed_spelling}

-- what holds of a table with this number of items and places, with the items at these positions, and with these
-- controls
abbrev filled : {A R : Type 0} → Shape → Spelling A R → (len cap : ℕ) → List (Option A) → List ℕ → Said (Option ℕ)
filled s w len cap os controls = record {
  value = λ st. group (values w (present os) st);
  plain = group (plain_values w (present os));
  piece = filled_piece s w os controls;
  resolver = λ st. Some (controls_at s w os st);
  met = λ st. (state_after_all w (present os) st).met;
  own = λ to pos. link_bytes to pos ++ (to_le_bytes w32 len ++ to_le_bytes w32 cap);
  piece_fits = filled_fits s w os controls;
  piece_refused = filled_refused s w os controls;
  own_fits = λ to pos. LinkFits to pos × (cap < 2 ^ 32);
  own_refused = λ to pos e. LinkRefused to pos e ⊎ ((2 ^ 32 ≤ cap) × (e ≡ LengthTooLarge));
  suits = λ fit given.
      let keys = keys_alone (plain_values w (present os)) in
      all_suit w fit given (present os) × IsAsked fit.binds ((fit.capacity len ≡ cap) × (fit.table_controls keys ≡ controls) × (fit.table_items keys ≡ keys));
}

module _ {A B R Q : Type 0} (s : Shape) (view : B → A) (make : R → Q) (get : Q → R) (back : (r : R) → get (make r) ≡ r) (w : Spelling A R) where
  -- an item is seen as another, and its resolver is kept as another
  abbrev as_other : Spelling B Q
  as_other = kept_as make get (seen_as view w)

  abbrev seen : List (Option B) → List (Option A)
  seen os = map (option_map view) os

  -- ---- the items at places

  states_seen : (os : List (Option B)) (st : State) → state_after_all as_other (present os) st ≡ state_after_all w (present (seen os)) st
  states_seen [] st = refl
  states_seen (None ∷ os) st = states_seen os st
  states_seen (Some x ∷ os) st = states_seen os (state_after w (view x) st)

  values_seen : (os : List (Option B)) (st : State) → values as_other (present os) st ≡ values w (present (seen os)) st
  values_seen [] st = refl
  values_seen (None ∷ os) st = values_seen os st
  values_seen (Some x ∷ os) st = ap (more_values (w.value (view x) st)) (values_seen os (state_after w (view x) st))

  plains_seen : (os : List (Option B)) → plain_values as_other (present os) ≡ plain_values w (present (seen os))
  plains_seen [] = refl
  plains_seen (None ∷ os) = plains_seen os
  plains_seen (Some x ∷ os) = ap (more_values (w.plain (view x))) (plains_seen os)

  suits_seen : (os : List (Option B)) (fit : Fit) (given : Keys) → all_suit as_other fit given (present os) ≡ all_suit w fit given (present (seen os))
  suits_seen [] fit given = refl
  suits_seen (None ∷ os) fit given = suits_seen os fit given
  suits_seen (Some x ∷ os) fit given = λ i. w.suits fit given (view x) × suits_seen os fit given i

  pieces_seen : (os : List (Option B)) (st : State) → pieces as_other (present os) st ≡ pieces w (present (seen os)) st
  pieces_seen [] st = refl
  pieces_seen (None ∷ os) st = pieces_seen os st
  pieces_seen (Some x ∷ os) st = ap (λ l. w.piece (view x) st ++ l) (pieces_seen os (state_after w (view x) st))

  fits_seen : (os : List (Option B)) (st : State) → pieces_fit as_other (present os) st ≡ pieces_fit w (present (seen os)) st
  fits_seen [] st = refl
  fits_seen (None ∷ os) st = fits_seen os st
  fits_seen (Some x ∷ os) st = λ i. w.piece_fits (view x) st × fits_seen os (state_after w (view x) st) i

  refusals_seen : (os : List (Option B)) (st : State) (e : Error) → pieces_refused as_other (present os) st e ≡ pieces_refused w (present (seen os)) st e
  refusals_seen [] st e = refl
  refusals_seen (None ∷ os) st e = refusals_seen os st e
  refusals_seen (Some x ∷ os) st e = λ i. w.piece_refused (view x) st e ⊎ refusals_seen os (state_after w (view x) st) e i

  buckets_seen : (os : List (Option B)) (st : State) (end : ℕ) → buckets s as_other os st end ≡ buckets s w (seen os) st end
  buckets_seen [] st end = refl
  buckets_seen (None ∷ os) st end = ap (λ l. l ++ zeros (size_of s)) (buckets_seen os st (end - size_of s))
  buckets_seen (Some x ∷ os) st end = λ i.
      let pos = end - size_of s in buckets_seen os (state_after w (view x) st) pos i ++ w.own (view x) (back (w.resolver (view x) st) i) pos

  buckets_fit_seen : (os : List (Option B)) (st : State) (end : ℕ) → buckets_fit s as_other os st end ≡ buckets_fit s w (seen os) st end
  buckets_fit_seen [] st end = refl
  buckets_fit_seen (None ∷ os) st end = buckets_fit_seen os st (end - size_of s)
  buckets_fit_seen (Some x ∷ os) st end = λ i.
      let pos = end - size_of s in
      (w.own_fits (view x) (back (w.resolver (view x) st) i) pos × (pos + size_of s < 2 ^ 64)) × buckets_fit_seen os (state_after w (view x) st) pos i

  buckets_refused_seen : (os : List (Option B)) (st : State) (end : ℕ) (e : Error) → buckets_refused s as_other os st end e ≡ buckets_refused s w (seen os) st end e
  buckets_refused_seen [] st end e = refl
  buckets_refused_seen (None ∷ os) st end e = buckets_refused_seen os st (end - size_of s) e
  buckets_refused_seen (Some x ∷ os) st end e = λ i.
      let pos = end - size_of s in
      (w.own_refused (view x) (back (w.resolver (view x) st) i) pos e ⊎ ((2 ^ 64 ≤ pos + size_of s) × (e ≡ PositionTooLarge)))
      ⊎ buckets_refused_seen os (state_after w (view x) st) pos e i

  -- ---- the region

  length_seen : (os : List (Option B)) → length os ≡ length (seen os)
  length_seen os = sym (length-map os (option_map view))

  regions_seen : (os : List (Option B)) (st : State) → region_from s as_other os st ≡ region_from s w (seen os) st
  regions_seen os st = ap (λ (u : State). align_up u.pos (align_of s)) (states_seen os st)

  controls_seen : (os : List (Option B)) (st : State) → controls_at s as_other os st ≡ controls_at s w (seen os) st
  controls_seen os st = ap₂ (λ from n. from + n * size_of s) (regions_seen os st) (length_seen os)

  placed_seen : (os : List (Option B)) (controls : List ℕ) (st : State) → IsPlaced s as_other os controls st ≡ IsPlaced s w (seen os) controls st
  placed_seen os controls st = λ i. (regions_seen os st i < 2 ^ 32) × (controls_seen os st i + length controls < 2 ^ 64)

  filled_seen : (len cap : ℕ) (os : List (Option B)) (controls : List ℕ) → filled s as_other len cap os controls ≡ filled s w len cap (seen os) controls
  filled_seen len cap os controls = λ i. record {
    value = λ st. group (values_seen os st i);
    plain = group (plains_seen os i);
    piece = λ st. pieces_seen os st i ++ (zeros (regions_seen os st i - (states_seen os st i).pos) ++ (buckets_seen os st (controls_seen os st i) i ++ controls));
    resolver = λ st. Some (controls_seen os st i);
    met = λ st. (states_seen os st i).met;
    own = λ to pos. link_bytes to pos ++ (to_le_bytes w32 len ++ to_le_bytes w32 cap);
    piece_fits = λ st. (length_seen os i < 2 ^ 32) × fits_seen os st i × placed_seen os controls st i × buckets_fit_seen os st (controls_seen os st i) i;
    piece_refused = λ st e.
        ((2 ^ 32 ≤ length_seen os i) × (e ≡ LengthTooLarge))
        ⊎ (refusals_seen os st e i
        ⊎ (((placed_seen os controls st i → ⊥) × (e ≡ PositionTooLarge)) ⊎ buckets_refused_seen os st (controls_seen os st i) e i));
    own_fits = λ to pos. LinkFits to pos × (cap < 2 ^ 32);
    own_refused = λ to pos e. LinkRefused to pos e ⊎ ((2 ^ 32 ≤ cap) × (e ≡ LengthTooLarge));
    suits = λ fit given.
        let keys = keys_alone (plains_seen os i) in
        suits_seen os fit given i × IsAsked fit.binds ((fit.capacity len ≡ cap) × (fit.table_controls keys ≡ controls) × (fit.table_items keys ≡ keys));
  }

  -- ---- the positions of items

  items_seen : (xs : List B) (qs ps : List ℕ) → map (item_at (map view xs) qs) ps ≡ seen (map (item_at xs qs) ps)
  items_seen xs qs [] = refl
  items_seen xs qs (p ∷ ps) = ap₂ (λ o os. o ∷ os) (item_mapped view xs qs p) (items_seen xs qs ps)

  module _ (most places : ℕ) (hashes : List ℕ) where
    table_seen : (xs : List B) → seen (table_of most places hashes xs) ≡ table_of most places hashes (map view xs)
    table_seen xs =
        sym (items_seen xs (fitted_from (capacity_of most places hashes xs) [] hashes) (range_with_len 0 (capacity_of most places hashes xs)))
        ∙ ap (λ n. map (item_at (map view xs) (fitted_from (capacity_for n most places) [] hashes)) (range_with_len 0 (capacity_for n most places))) (sym (length-map xs view))

    -- the table of items that are seen as others is the table of those, for all resolvers
    pub hashed_seen : (xs : List B) → said (hashed_spelling most places s as_other hashes) xs ≡ said (hashed_spelling most places s w hashes) (map view xs)
    hashed_seen [] = refl
    hashed_seen (x ∷ xs) =
        let long = sym (length-map (x ∷ xs) view) in
        filled_seen (length (x ∷ xs)) (capacity_of most places hashes (x ∷ xs)) (table_of most places hashes (x ∷ xs)) (controls_of most places hashes (x ∷ xs))
        ∙ (λ i. filled s w (long i) (capacity_for (long i) most places) (table_seen (x ∷ xs) i) (written_controls (capacity_for (long i) most places) hashes (fitted_from (capacity_for (long i) most places) [] hashes)))
