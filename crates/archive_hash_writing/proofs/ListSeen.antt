-- Lists and boxes of values that are seen as others, their resolvers kept as others, are archived as those of the others.
use Rattle.std.proofs.Common.{◌≡◌, ℕ, ◌+◌, ◌-◌, ◌^◌, ◌<◌, ◌≤◌, List, [], ◌∷◌, ◌++◌, length, map, ◌⊎◌, refl, ap, sym}
use Rattle.std.specs.Int.{w32, to_le_bytes}
use Rattle.std.proofs.lemmas.List.{length-map}
use Rattle.archive_shape_layout.specs.Bytes.{align_up}
use Rattle.archive_shape_layout.specs.Shape.{Shape, size_of, align_of}
use Rattle.archive_shape_layout.specs.Value.Value.{group}
use Rattle.archive_shape_layout.specs.Value.Values.{more_values}
use Rattle.archive_shape_canonical.specs.Settled.{Fit}
use Rattle.archive_shape.specs.Bytes.{zeros}
use Rattle.archive_shape.specs.Offsets.{FitsOffset, offset_bytes}
use Rattle.archive_shape_layout.specs.declared.error.Error.{Error}
use Rattle.archive_shape_layout.specs.declared.error.Error.TheVariants.{IsizeOverflow, LengthTooLarge, PositionTooLarge}
use Rattle.archive_forms_laws.specs.State.{State, Keys}
use Rattle.archive_forms_laws.specs.Spelling.{Spelling, state_after}
use Rattle.archive_forms_laws.specs.Forms.{seen_as, kept_as}
use Rattle.archive_forms_laws.specs.Pointers.{slice_spelling, box_spelling}
use Rattle.archive_forms_laws.specs.Regions.{state_after_all, values, plain_values, all_suit, pieces, owns, pieces_fit, pieces_refused, owns_fit, owns_refused, region_at, region_piece, region_fits, region_refused}
use Rattle.archive_forms_laws.proofs.Agreeing.{said}

module _ {A B R Q : Type 0} (s : Shape) (view : B → A) (make : R → Q) (get : Q → R) (back : (r : R) → get (make r) ≡ r) (w : Spelling A R) where
  -- a value is seen as another, and its resolver is kept as another
  abbrev as_other : Spelling B Q
  as_other = kept_as make get (seen_as view w)

  -- ---- values one after the other

  states_seen : (xs : List B) (st : State) → state_after_all as_other xs st ≡ state_after_all w (map view xs) st
  states_seen [] st = refl
  states_seen (x ∷ xs) st = states_seen xs (state_after w (view x) st)

  values_seen : (xs : List B) (st : State) → values as_other xs st ≡ values w (map view xs) st
  values_seen [] st = refl
  values_seen (x ∷ xs) st = ap (more_values (w.value (view x) st)) (values_seen xs (state_after w (view x) st))

  pub plains_seen : (xs : List B) → plain_values as_other xs ≡ plain_values w (map view xs)
  plains_seen [] = refl
  plains_seen (x ∷ xs) = ap (more_values (w.plain (view x))) (plains_seen xs)

  suits_seen : (xs : List B) (fit : Fit) (given : Keys) → all_suit as_other fit given xs ≡ all_suit w fit given (map view xs)
  suits_seen [] fit given = refl
  suits_seen (x ∷ xs) fit given = λ i. w.suits fit given (view x) × suits_seen xs fit given i

  pieces_seen : (xs : List B) (st : State) → pieces as_other xs st ≡ pieces w (map view xs) st
  pieces_seen [] st = refl
  pieces_seen (x ∷ xs) st = ap (λ l. w.piece (view x) st ++ l) (pieces_seen xs (state_after w (view x) st))

  fits_seen : (xs : List B) (st : State) → pieces_fit as_other xs st ≡ pieces_fit w (map view xs) st
  fits_seen [] st = refl
  fits_seen (x ∷ xs) st = λ i. w.piece_fits (view x) st × fits_seen xs (state_after w (view x) st) i

  refusals_seen : (xs : List B) (st : State) (e : Error) → pieces_refused as_other xs st e ≡ pieces_refused w (map view xs) st e
  refusals_seen [] st e = refl
  refusals_seen (x ∷ xs) st e = λ i. w.piece_refused (view x) st e ⊎ refusals_seen xs (state_after w (view x) st) e i

  owns_seen : (xs : List B) (st : State) (pos : ℕ) → owns as_other xs st pos ≡ owns w (map view xs) st pos
  owns_seen [] st pos = refl
  owns_seen (x ∷ xs) st pos = λ i.
      let own = w.own (view x) (back (w.resolver (view x) st) i) pos in own ++ owns_seen xs (state_after w (view x) st) (pos + length own) i

  owns_fit_seen : (xs : List B) (st : State) (pos : ℕ) → owns_fit as_other s xs st pos ≡ owns_fit w s (map view xs) st pos
  owns_fit_seen [] st pos = refl
  owns_fit_seen (x ∷ xs) st pos = λ i.
      let r = back (w.resolver (view x) st) i in
      (w.own_fits (view x) r pos × (pos + size_of s < 2 ^ 64)) × owns_fit_seen xs (state_after w (view x) st) (pos + length (w.own (view x) r pos)) i

  owns_refused_seen : (xs : List B) (st : State) (pos : ℕ) (e : Error) → owns_refused as_other s xs st pos e ≡ owns_refused w s (map view xs) st pos e
  owns_refused_seen [] st pos e = refl
  owns_refused_seen (x ∷ xs) st pos e = λ i.
      let r = back (w.resolver (view x) st) i in
      (w.own_refused (view x) r pos e ⊎ ((2 ^ 64 ≤ pos + size_of s) × (e ≡ PositionTooLarge)))
      ⊎ owns_refused_seen xs (state_after w (view x) st) (pos + length (w.own (view x) r pos)) e i

  -- ---- their region

  regions_seen : (xs : List B) (st : State) → region_at as_other s xs st ≡ region_at w s (map view xs) st
  regions_seen xs st = ap (λ (u : State). align_up u.pos (align_of s)) (states_seen xs st)

  region_piece_seen : (xs : List B) (st : State) → region_piece as_other s xs st ≡ region_piece w s (map view xs) st
  region_piece_seen xs st = λ i. pieces_seen xs st i ++ (zeros (regions_seen xs st i - (states_seen xs st i).pos) ++ owns_seen xs st (regions_seen xs st i) i)

  region_fits_seen : (xs : List B) (st : State) → region_fits as_other s xs st ≡ region_fits w s (map view xs) st
  region_fits_seen xs st = λ i. fits_seen xs st i × (regions_seen xs st i < 2 ^ 32) × owns_fit_seen xs st (regions_seen xs st i) i

  region_refused_seen : (xs : List B) (st : State) (e : Error) → region_refused as_other s xs st e ≡ region_refused w s (map view xs) st e
  region_refused_seen xs st e = λ i.
      refusals_seen xs st e i
      ⊎ (((2 ^ 32 ≤ regions_seen xs st i) × (e ≡ PositionTooLarge)) ⊎ owns_refused_seen xs st (regions_seen xs st i) e i)

  -- ---- pointers to them

  -- the list of values that are seen as others is archived as the list of those, for all resolvers
  pub slice_seen : (xs : List B) → said (slice_spelling s as_other) xs ≡ said (slice_spelling s w) (map view xs)
  slice_seen xs =
      let long = sym (length-map xs view) in
      λ i. record {
        value = λ st. group (values_seen xs st i);
        plain = group (plains_seen xs i);
        piece = λ st. region_piece_seen xs st i;
        resolver = λ st. regions_seen xs st i;
        met = λ st. (states_seen xs st i).met;
        own = λ to pos. offset_bytes pos to ++ to_le_bytes w32 (long i);
        piece_fits = λ st. region_fits_seen xs st i;
        piece_refused = λ st e. region_refused_seen xs st e i;
        own_fits = λ to pos. FitsOffset pos to × (long i < 2 ^ 32);
        own_refused = λ to pos e. ((FitsOffset pos to → ⊥) × (e ≡ IsizeOverflow)) ⊎ ((2 ^ 32 ≤ long i) × (e ≡ LengthTooLarge));
        suits = λ fit given. suits_seen xs fit given i;
      }

  -- so is a box of one
  pub box_seen : (x : B) → said (box_spelling s as_other) x ≡ said (box_spelling s w) (view x)
  box_seen x = λ i. record {
    value = w.value (view x);
    plain = w.plain (view x);
    piece = λ st. region_piece_seen (x ∷ []) st i;
    resolver = λ st. regions_seen (x ∷ []) st i;
    met = w.met (view x);
    own = λ to pos. offset_bytes pos to;
    piece_fits = λ st. region_fits_seen (x ∷ []) st i;
    piece_refused = λ st e. region_refused_seen (x ∷ []) st e i;
    own_fits = λ to pos. FitsOffset pos to;
    own_refused = λ to pos e. (FitsOffset pos to → ⊥) × (e ≡ IsizeOverflow);
    suits = λ fit given. w.suits fit given (view x);
  }
