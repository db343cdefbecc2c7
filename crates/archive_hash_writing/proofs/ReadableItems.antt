-- Where a table was written and can be read, so can each item, at its place.
use Rattle.std.proofs.Common.{◌≡◌, ◌∙◌, ℕ, zero, suc, ◌+◌, ◌-◌, ◌*◌, ◌^◌, ◌<◌, ◌≤◌, List, [], ◌∷◌, length, get_or, Option, Some, None, refl, sym, subst, arith, mul-le-mul_right}
use Rattle.std.specs.List.{All}
use Rattle.std.proofs.lemmas.List.FromFn.{get_or-map-range_with_len}
use Rattle.archive_shape_layout.specs.Shape.{Shape, size_of, align_of}
use Rattle.archive_shape_layout.specs.Shape.Shape.{table}
use Rattle.archive_shape_layout.specs.Content.{Names}
use Rattle.archive_shape_layout.proofs.Framed.{le_align_up}
use Rattle.archive_shape_canonical.specs.FirstFit.{item_at, present}
use Rattle.archive_shape_canonical.specs.Settled.{Fit}
use Rattle.archive_shape.specs.Bytes.{HasBytes, zeros}
use Rattle.archive_shape.proofs.Pieces.{stands_left, stands_right}
use Rattle.archive_forms_laws.specs.Regions.{state_after_all, all_suit, pieces, pieces_fit}
use Rattle.archive_forms_laws.specs.Spelling.{Spelling, state_after}
use Rattle.archive_forms_laws.specs.Spells.{EachSpells, Spells}
use Rattle.archive_forms_laws.specs.State.{State, Keys, IsConsistent, AreKeyedBy}
use Rattle.archive_forms_laws.specs.WrittenAt.{IsWrittenAt, IsReadableAt}
use Rattle.archive_forms_laws.proofs.Regions.{state_after_all_pos}
use Rattle.archive_forms_laws.proofs.Views.{each_spells}
use Rattle.archive_forms_writing.proofs.Reached.{Carries, Reached}
use Rattle.archive_forms_writing.proofs.Readable.{Standing, readable, stand_after}
use Rattle.archive_hash_maps.specs.Tables.{Buckets, IsTableAt, item_position}
use Rattle.archive_hash_writing.specs.Fitted.{capacity_of, places_of, table_of, by_place, controls_of}
use Rattle.archive_hash_writing.specs.Tables.{buckets, buckets_fit, controls_at, hashed_spelling, region_from}
use Rattle.archive_hash_writing.proofs.SpellingBuckets.{length-buckets}
use Rattle.archive_hash_writing.proofs.SpellingFilled.{filled_end, filled_stands}
use Rattle.archive_hash_writing.proofs.SpellingFitting.{are_apart, length-places, length-table, places_below}
use Rattle.archive_hash_writing.proofs.SpellingPresent.{item_own}
use Rattle.archive_hash_writing.proofs.WrittenPlaces.{written_buckets}

-- what suits all items at places suits each of them
suits_there : {A R : Type 0} (w : Spelling A R) (fit : Fit) (keys : Keys) (os : List (Option A)) → all_suit w fit keys (present os) → (p : ℕ) (y : A) → get_or os p None ≡ Some y → w.suits fit keys y
suits_there w fit keys [] suits p y is = absurd cc
suits_there w fit keys (None ∷ os) suits zero y is = absurd cc
suits_there w fit keys (None ∷ os) suits (suc p) y is = suits_there w fit keys os suits p y is
suits_there w fit keys (Some x ∷ os) suits zero y is = let same : x ≡ y = cc in subst (w.suits fit keys) same suits.0
suits_there w fit keys (Some x ∷ os) suits (suc p) y is = suits_there w fit keys os suits.1 p y is

-- ---- buckets

module _ (Invariant : State → Type 0) (keys : Keys) (bytes : List ℕ) (limit top : ℕ) {A R : Type 0} (fit : Fit) (s : Shape) (knows : Names → Type 0) (w : Spelling A R) where
  -- buckets that begin at a position and end at another, where the data of their items was written from a state on
  record AreBuckets (os : List (Option A)) (st : State) (start end : ℕ) : Type 0 where
    each : EachSpells fit s knows w (present os)
    long : start + length os * size_of s ≡ end
    suits : all_suit w fit keys (present os)
    consistent : IsConsistent st
    keyed : AreKeyedBy keys st.met
    piece_fits : pieces_fit w (present os) st
    own_fits : buckets_fit s w os st end
    piece : HasBytes bytes st.pos (pieces w (present os) st)
    own : HasBytes bytes start (buckets s w os st end)
    invariant : Invariant st
    behind : (state_after_all w (present os) st).pos ≤ limit
    within : end ≤ top

  -- an empty bucket comes before the others
  after_none : (os : List (Option A)) (st : State) (start end : ℕ) → AreBuckets (None ∷ os) st start end → AreBuckets os st start (end - size_of s)
  after_none os st start end h =
      let long = h.long in
      let within = h.within in
      record {
        each = h.each;
        long = omega (arith, long);
        suits = h.suits;
        consistent = h.consistent;
        keyed = h.keyed;
        piece_fits = h.piece_fits;
        own_fits = h.own_fits;
        piece = h.piece;
        own = stands_left bytes start (buckets s w os st (end - size_of s)) (zeros (size_of s)) h.own;
        invariant = h.invariant;
        behind = h.behind;
        within = omega (arith, within);
      }

  module _ (x : A) (os : List (Option A)) (st : State) (start end : ℕ) (h : AreBuckets (Some x ∷ os) st start end) where
    abbrev first_at : ℕ
    first_at = end - size_of s

    -- the item in the first bucket
    unfoldable first_written : IsWrittenAt keys w bytes first_at x
    first_written =
        let then = state_after w x st in
        let rest = buckets s w os then first_at in
        let len = length-buckets fit s knows w os h.each.1 then first_at h.own_fits.1 in
        let long = h.long in
        record {
          state = st;
          consistent = h.consistent;
          keyed = h.keyed;
          piece_fits = h.piece_fits.0;
          own_fits = h.own_fits.0.0;
          piece = stands_left bytes st.pos (w.piece x st) (pieces w (present os) then) h.piece;
          own = stands_right bytes start rest (w.own x (w.resolver x st) first_at) first_at (omega (arith, len, long)) h.own;
        }

    first_reached : Reached Invariant keys bytes limit top s w first_at x
    unfolding first_written
    first_reached =
        let later = state_after_all_pos fit s knows w (present os) (state_after w x st) in
        let long = h.long in
        let behind = h.behind in
        let within = h.within in
        record { written = first_written; invariant = h.invariant; behind = omega (arith, later, behind); within = omega (arith, long, within) }

    -- it comes before the others
    after_some : Carries Invariant keys bytes w x → AreBuckets os (state_after w x st) start first_at
    unfolding first_written
    after_some carries =
        let then = state_after w x st in
        let long = h.long in
        let within = h.within in
        record {
          each = h.each.1;
          long = omega (arith, long);
          suits = h.suits.1;
          consistent = h.each.0.consistent st h.consistent h.piece_fits.0;
          keyed = (h.each.0.keyed keys st h.suits.0 h.keyed h.piece_fits.0).1;
          piece_fits = h.piece_fits.1;
          own_fits = h.own_fits.1;
          piece = stands_right bytes st.pos (w.piece x st) (pieces w (present os) then) then.pos refl h.piece;
          own = stands_left bytes start (buckets s w os then first_at) (w.own x (w.resolver x st) first_at) h.own;
          invariant = carries first_at first_written h.invariant;
          behind = h.behind;
          within = omega (arith, within);
        }

  module _ (carries : (y : A) → w.suits fit keys y → Carries Invariant keys bytes w y) where
    -- the item at each place: place p is the bucket p + 1 below the end
    item_reached : (os : List (Option A)) (st : State) (start end : ℕ) → AreBuckets os st start end
        → (p : ℕ) (y : A) → get_or os p None ≡ Some y → Reached Invariant keys bytes limit top s w (item_position s end p) y
    item_reached [] st start end h p y is = absurd cc
    item_reached (None ∷ os) st start end h zero y is = absurd cc
    item_reached (None ∷ os) st start end h (suc p) y is =
        subst (λ n. Reached Invariant keys bytes limit top s w n y) (omega arith) (item_reached os st start (end - size_of s) (after_none os st start end h) p y is)
    item_reached (Some x ∷ os) st start end h zero y is =
        let same : x ≡ y = cc in
        subst (λ z. Reached Invariant keys bytes limit top s w (item_position s end 0) z) same
        (subst (λ n. Reached Invariant keys bytes limit top s w n x) (omega arith) (first_reached x os st start end h))
    item_reached (Some x ∷ os) st start end h (suc p) y is =
        subst (λ n. Reached Invariant keys bytes limit top s w n y) (omega arith)
        (item_reached os (state_after w x st) start (end - size_of s) (after_some x os st start end h (carries x h.suits.0)) p y is)

-- ---- tables

module _ {A R : Type 0} (fit : Fit) (s : Shape) (knows : Names → Type 0) (w : Spelling A R) (spells : Spells fit s knows w) (most places : ℕ) (hashes : List ℕ) (x : A) (xs : List A)
    (even : length hashes ≡ suc (length xs)) (tags : All (λ h. h < 2 ^ 64) hashes) (names : Names) (known : knows names) (given : Keys) (bytes : List ℕ) (pos : ℕ)
    (suits : (hashed_spelling most places s w hashes).suits fit given (x ∷ xs)) (h : IsReadableAt names given (table s) (hashed_spelling most places s w hashes) bytes pos (x ∷ xs)) where
  abbrev Places : List ℕ
  Places = places_of most places hashes (x ∷ xs)

  abbrev Items : List (Option A)
  Items = table_of most places hashes (x ∷ xs)

  all_spell : EachSpells fit s knows w (by_place most places hashes (x ∷ xs))
  all_spell = each_spells fit s knows w spells (by_place most places hashes (x ∷ xs))

  place_low : (i : ℕ) → i < length (x ∷ xs) → get_or Places i 0 < capacity_of most places hashes (x ∷ xs)
  place_low i l = places_below most places hashes (x ∷ xs) even (omega arith) i (let long = length-places most places hashes (x ∷ xs) even (omega arith) in omega (arith, long, l))

  -- an item is at its place
  there : (i : ℕ) (d : A) → i < length (x ∷ xs) → get_or Items (get_or Places i 0) None ≡ Some (get_or (x ∷ xs) i d)
  there i d l =
      get_or-map-range_with_len (item_at (x ∷ xs) Places) 0 (capacity_of most places hashes (x ∷ xs)) (get_or Places i 0) (get_or Places i 0) None (place_low i l) (omega arith)
      ∙ item_own (x ∷ xs) Places i d (length-places most places hashes (x ∷ xs) even (omega arith)) (are_apart most places hashes (x ∷ xs) even (omega arith)) l

  pub item_suits : (i : ℕ) (d : A) → i < length (x ∷ xs) → w.suits fit given (get_or (x ∷ xs) i d)
  item_suits i d l = suits_there w fit given Items suits.0 (get_or Places i 0) (get_or (x ∷ xs) i d) (there i d l)

  pub item_readable : (b : Buckets) → IsTableAt bytes s pos b
      → (i : ℕ) (d : A) → i < length (x ∷ xs) → IsReadableAt names given s w bytes (item_position s b.target (get_or Places i 0)) (get_or (x ∷ xs) i d)
  item_readable b is_table i d l =
      let t = h.written in
      let st = t.state in
      let Controls : List ℕ = controls_of most places hashes (x ∷ xs) in
      let Start : ℕ = region_from s w Items st in
      let Target : ℕ = controls_at s w Items st in
      let place = get_or Places i 0 in
      let stands = filled_stands fit s knows w Items Controls all_spell st bytes t.piece_fits t.piece in
      let end = filled_end fit s knows w Items Controls all_spell st t.piece_fits in
      let behind = h.behind in
      let within = h.within in
      let low = place_low i l in
      let long = length-table most places hashes (x ∷ xs) in
      let up : (place + 1) * size_of s ≤ length Items * size_of s = mul-le-mul_right (size_of s) (omega (arith, low, long)) in
      let reached =
      item_reached (Standing names bytes) given bytes Start (length bytes) fit s knows w (λ y one. stand_after s knows w fit y (spells y) names known given one bytes) Items st Start Target
      (record {
        each = all_spell;
        long = refl;
        suits = suits.0;
        consistent = t.consistent;
        keyed = t.keyed;
        piece_fits = t.piece_fits.1;
        own_fits = t.piece_fits.3;
        piece = stands.items_stand;
        own = stands.buckets_stand;
        invariant = h.stand;
        behind = le_align_up (state_after_all w (present Items) st).pos (align_of s);
        within = omega (arith, end, behind, within);
      })
      place (get_or (x ∷ xs) i d) (there i d l)
      in
      let target : b.target ≡ Target = (written_buckets fit s knows bytes w most places hashes x xs even tags all_spell given pos t b is_table).0 in
      subst (λ n. IsReadableAt names given s w bytes (item_position s n place) (get_or (x ∷ xs) i d)) (sym target)
      (readable names given bytes Start (item_position s Target place) s w (get_or (x ∷ xs) i d) (omega (arith, up)) reached)
