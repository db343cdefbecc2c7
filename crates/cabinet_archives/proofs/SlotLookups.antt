-- What the look-up of a key in a table finds, by the slots of the table's full places.
use Rattle.std.proofs.Common.{◌≡◌, ℕ, zero, suc, ◌+◌, ◌<◌, ◌==◌, ◌&&◌, Bool, true, false, cond, List, [], ◌∷◌, length, filter, nat_lt, slice_index, Option, Some, None, MatchOption, refl, sym, ap, subst, ◌∙◌, arith, eqb-true, eq-eqb, ltb-true}
use Rattle.std.specs.List.{Contains, find, flat_map, range_with_len, slice_get}
use Rattle.std.specs.Option.{option_map}
use Rattle.std.proofs.lemmas.Map.Text.{is_eq-slice_cmp}
use Rattle.std.proofs.lemmas.Slice.Eq.{bytes_eq-Decides}
use Rattle.archive_shape_layout.specs.Shape.{Shape}
use Rattle.archive_shape_canonical.specs.FirstFit.{hash_tag}
use Rattle.archive_shape_canonical.specs.Hash.{text_hash}
use Rattle.archive_shape_canonical.specs.Strides.{places_shown, strides}
use Rattle.archive_shape_canonical.specs.Reach.{reach, searched}
use Rattle.archive_hash_probing.specs.Controls.{AreControls}
use Rattle.archive_hash_probing.specs.Search.{IsLookup}
use Rattle.archive_hash_probing.proofs.Counts.{counted_to}
use Rattle.archive_hash_probing.proofs.Wrapping.{wraps_of, count_of}
use Rattle.archive_hash_maps.specs.Tables.{Buckets, full_places, item_position, IsTableAt}
use Rattle.archive_hash_maps.specs.Tables.IsTableAt.{has_none, has_buckets}
use Rattle.archive_hash_maps.specs.Places.{LooksUp}
use Rattle.archive_hash_maps.specs.Places.LooksUp.{has_no_places, has_places}
use Rattle.archive_hash_maps.proofs.Found.{none_looked_up}
use Rattle.archive_hash_maps.proofs.Lookups.{no_strides}
use Rattle.cabinet_documents.specs.Order.{is_same}
use Rattle.cabinet_documents.specs.Table.{Slot, Entry, Table, Findable, answers, found, gives, has_key, is_numbered, slot_at, tag_of}
use Rattle.cabinet_documents.proofs.Found.{found_passes, look_up_gives}
use Rattle.cabinet_archives.specs.Cost.{strides_to}
use Rattle.cabinet_archives.proofs.Searched.{found_first}
use Rattle.cabinet_archives.proofs.Tables.{slot_of, slots_of, slot_there}

pub same_keys : (k l : List ℕ) → is_same k l ≡ true → k ≡ l
same_keys k l e = let d = bytes_eq-Decides k l in d.0 (sym (is_eq-slice_cmp k l) ∙ e)

-- ---- what is read of a place that is found or not

pub mapped_none : (f : ℕ → ℕ) (o : Option ℕ) → None ≡ option_map f o → o ≡ None
mapped_none f None e = refl
mapped_none f (Some q) e = absurd (cc)

pub mapped_some : (f : ℕ → ℕ) (o : Option ℕ) (x : ℕ) → Some x ≡ option_map f o → (q : ℕ) × (o ≡ Some q) × (f q ≡ x)
mapped_some f None x e = absurd (cc)
mapped_some f (Some q) x e = (q, refl, cc)

-- ---- full places

module _ (b : Buckets) where
  abbrev full_between : ℕ → ℕ → List ℕ
  full_between i n = filter (λ p. nat_lt (slice_index b.controls p) 128) (range_with_len i n)

  full_among : (n i k q : ℕ) → slice_get (full_between i n) k ≡ Some q → (q < i + n) × (slice_index b.controls q < 128)
  full_among zero i k q e = absurd (cc)
  full_among (suc n) i k q e = by (nat_lt (slice_index b.controls i) 128) refl k e (λ j f. full_among n (i + 1) j q f)
    where
      by : (t : Bool) → nat_lt (slice_index b.controls i) 128 ≡ t → (k : ℕ) → slice_get (cond t (i ∷ full_between (i + 1) n) (full_between (i + 1) n)) k ≡ Some q
          → ((j : ℕ) → slice_get (full_between (i + 1) n) j ≡ Some q → (q < i + 1 + n) × (slice_index b.controls q < 128)) → (q < i + suc n) × (slice_index b.controls q < 128)
      by true t zero e later =
          let same : i ≡ q = cc in
          let low = ltb-true (slice_index b.controls i) 128 t in
          (omega (arith, same), subst (λ x. slice_index b.controls x < 128) same low)
      by true t (suc k) e later = let r = later k e in let l = r.0 in (omega (arith, l), r.1)
      by false t k e later = let r = later k e in let l = r.0 in (omega (arith, l), r.1)

  -- each is one of the table's, and its control a tag
  pub full_low : (k q : ℕ) → slice_get (full_places b) k ≡ Some q → (q < b.cap) × (slice_index b.controls q < 128)
  full_low k q e = let r = full_among b.cap 0 k q e in let l = r.0 in (omega (arith, l), r.1)

module _ (number : ℕ → ℕ) (text : ℕ → List ℕ) (b : Buckets) (entries : List Entry) where
  -- the table of these slots, whose keys are to be found under the numbers of entries
  abbrev pub slotted : Table
  slotted = record { capacity = b.cap; controls = b.controls; slots = slots_of number text (full_places b); entries = entries }

  -- ---- what is found is a full place with the key

  pub record FirstPlace (ps : List ℕ) (q : ℕ) (s : Slot) : Type 0 where
    pub index : ℕ
    pub there : slice_get ps index ≡ Some q
    pub before : (i : ℕ) → i < index → slice_get ps i ≡ Some q → ⊥
    pub is : s ≡ slot_of number text q

  place_of_slot : (ps : List ℕ) (q : ℕ) (s : Slot) → slot_at (slots_of number text ps) q ≡ Some s → FirstPlace ps q s
  place_of_slot [] q s e = absurd (cc)
  place_of_slot (p ∷ ps) q s e = by (p == q) refl e (place_of_slot ps q s)
    where
      by : (t : Bool) → (p == q) ≡ t → cond t (Some (slot_of number text p)) (slot_at (slots_of number text ps) q) ≡ Some s
          → (slot_at (slots_of number text ps) q ≡ Some s → FirstPlace ps q s) → FirstPlace (p ∷ ps) q s
      by true t e later =
          let same : p ≡ q = eqb-true p q t in
          let slot : slot_of number text p ≡ s = cc in
          record { index = 0; there = ap Some same; before = λ i less h. absurd (omega (arith, less)); is = sym slot ∙ ap (slot_of number text) same }
      by false t e later =
          let r = later e in
          record { index = suc r.index; there = r.there; before = none; is = r.is }
        where
          none : (i : ℕ) → i < suc (later e).index → slice_get (p ∷ ps) i ≡ Some q → ⊥
          none zero less h = let same : p ≡ q = cc in let u = eq-eqb p q same in let v : true ≡ false = sym u ∙ t in cc
          none (suc i) less h = let r = later e in r.before i (omega (arith, less)) h

  module _ (key : List ℕ) where
    pub record FoundPlace (q : ℕ) : Type 0 where
      pub slot : slot_at slotted.slots q ≡ Some (slot_of number text q)
      pub first : FirstPlace (full_places b) q (slot_of number text q)
      pub key_is : text q ≡ key

    both_right : (x y : Bool) → (x && y) ≡ true → y ≡ true
    both_right true y e = e
    both_right false y e = absurd (cc)

    of_slot : (q : ℕ) (o : Option Slot) → slot_at slotted.slots q ≡ o → has_key o key ≡ true → FoundPlace q
    of_slot q None e h = absurd (cc)
    of_slot q (Some s) e h =
        let f = place_of_slot (full_places b) q s e in
        let is = f.is in
        record {
          slot = e ∙ ap Some is;
          first = subst (FirstPlace (full_places b) q) is f;
          key_is = ap (λ (x : Slot). x.key) (sym is) ∙ same_keys s.key key h;
        }

    pub found_place : (q : ℕ) → found slotted key ≡ Some q → FoundPlace q
    found_place q e =
        let f = found_passes (answers slotted key) (reach b.controls (text_hash key) b.cap) q e in
        of_slot q (slot_at slotted.slots q) refl (both_right (slice_index b.controls q == tag_of key) (has_key (slot_at slotted.slots q) key) f.0)

    -- what is found has a number where the look-up gives this number
    pub record FoundNumber (n : ℕ) : Type 0 where
      pub place : ℕ
      pub is_found : found slotted key ≡ Some place
      pub numbered : number place ≡ n

    given : (o : Option ℕ) (n : ℕ) → found slotted key ≡ o → gives slotted o n ≡ true → FoundNumber n
    given None n e h = absurd (cc)
    given (Some q) n e h =
        let f = found_place q e in
        record { place = q; is_found = e; numbered = eqb-true (number q) n (sym (ap (λ o. is_numbered o n) f.slot) ∙ h) }

    -- where each entry is found, so is one with the key
    pub entry_found : Findable slotted → (e : Entry) → Contains entries e → e.key ≡ key → FoundNumber e.number
    entry_found all e among is =
        let h = look_up_gives slotted all e among in
        given (found slotted key) e.number refl (subst (λ k. gives slotted (found slotted k) e.number ≡ true) is h)

    -- the look-up gives a number or not as a result says that is this number or not
    pub number_given : (x : Bool) (n : ℕ) (r : Option ℕ) → r ≡ option_map number (found slotted key) → MatchOption r (x ≡ false) (λ i. x ≡ (i == n)) → gives slotted (found slotted key) n ≡ x
    number_given x n r is says = by (found slotted key) refl (subst (λ o. MatchOption o (x ≡ false) (λ i. x ≡ (i == n))) is says)
      where
        by : (o : Option ℕ) → found slotted key ≡ o → MatchOption (option_map number o) (x ≡ false) (λ i. x ≡ (i == n)) → gives slotted o n ≡ x
        by None e h = sym h
        by (Some q) e h = ap (λ o. is_numbered o n) (found_place q e).slot ∙ sym h

    -- ---- what a search finds

    module _ (low : hash_tag (text_hash key) < 128) (s : Shape) (says : ℕ → Bool → Type 0)
        (means : (p : ℕ) (x : Bool) → p < b.cap → slice_index b.controls p < 128 → says (item_position s b.target p) x → x ≡ is_same (text p) key)
      where
        says_is : (p : ℕ) (x : Bool) → p < b.cap → slice_index b.controls p < 128 → says (item_position s b.target p) x → has_key (slot_at slotted.slots p) key ≡ x
        says_is p x less full said = ap (λ o. has_key o key) (slot_there number text b p less full) ∙ sym (means p x less full said)

        none_found : b.cap ≡ 0 → found slotted key ≡ None
        unfolding reach
        none_found none =
            ap (λ n. find (answers slotted key) (reach b.controls (text_hash key) n)) none
            ∙ ap (λ ps. find (answers slotted key) (flat_map (places_shown 0) (searched b.controls ps))) (no_strides (text_hash key))

        pub search_is : (bytes : List ℕ) (pos : ℕ) → IsTableAt bytes s pos b → (o : Option ℕ) (n : ℕ) → LooksUp says s b (text_hash key) o n → o ≡ option_map (item_position s b.target) (found slotted key)
        search_is bytes pos table o n (has_no_places none is few) = is ∙ ap (option_map (item_position s b.target)) (sym (none_found none))
        search_is bytes pos (has_none word is) o n (has_places place e look) =
            none_looked_up says s (text_hash key) n o (subst (λ x. LooksUp says s x (text_hash key) o n) is (has_places place e look))
            ∙ ap (option_map (item_position s b.target)) (sym (none_found (ap (λ (x : Buckets). x.cap) is)))
        search_is bytes pos (has_buckets some leads places fewer controls within room are count) o n (has_places place e look) =
            e
            ∙ ap (option_map (item_position s b.target))
            (found_first (λ p. says (item_position s b.target p) true) (λ p. says (item_position s b.target p) false) (λ p. has_key (slot_at slotted.slots p) key) b.controls (text_hash key) b.cap (hash_tag (text_hash key)) (omega (arith, fewer))
            (wraps_of b.controls b.cap are) (count_of b.controls b.cap are) low
            (λ p less full said. says_is p true less full said) (λ p less full said. says_is p false less full said) place n look)

        -- ---- how many strides it searches

        abbrev pub stops : List ℕ
        stops = searched b.controls (strides (text_hash key) b.cap)

        none_searched : b.cap ≡ 0 → length stops ≡ 0
        none_searched none = ap (λ n. length (searched b.controls (strides (text_hash key) n))) none ∙ ap (λ ps. length (searched b.controls ps)) (no_strides (text_hash key))

        not_found : b.cap ≡ 0 → strides_to b.cap (found slotted key) stops ≡ length stops
        not_found none = ap (λ o. strides_to b.cap o stops) (none_found none)

        module _ (apart : (at : ℕ) → says at true → says at false → ⊥) where
          counted : 0 < b.cap → AreControls b.controls b.cap → (place : Option ℕ) (n : ℕ) → IsLookup (λ p x. says (item_position s b.target p) x) b.controls b.cap (text_hash key) place n → n ≡ strides_to b.cap place stops
          counted some are None n look = look.0
          counted some are (Some q) n look =
              counted_to (λ p. says (item_position s b.target p) true) (λ p. says (item_position s b.target p) false) b.controls (text_hash key) b.cap (hash_tag (text_hash key)) some (wraps_of b.controls b.cap are) (count_of b.controls b.cap are) q n look
              (apart (item_position s b.target q))

          pub strides_are : (bytes : List ℕ) (pos : ℕ) → IsTableAt bytes s pos b → (o : Option ℕ) (n : ℕ) → LooksUp says s b (text_hash key) o n → n ≡ strides_to b.cap (found slotted key) stops
          strides_are bytes pos table o n (has_no_places none is few) = few ∙ sym (not_found none ∙ none_searched none)
          strides_are bytes pos (has_none word is) o n (has_places None e look) = look.0 ∙ sym (not_found (ap (λ (x : Buckets). x.cap) is))
          strides_are bytes pos (has_none word is) o n (has_places (Some q) e look) =
              let none = none_looked_up says s (text_hash key) n o (subst (λ x. LooksUp says s x (text_hash key) o n) is (has_places (Some q) e look)) in
              absurd (cc)
          strides_are bytes pos (has_buckets some leads places fewer controls within room are count) o n (has_places place e look) =
              counted (omega (arith, fewer)) are place n look
              ∙ ap (λ x. strides_to b.cap x stops)
              (found_first (λ p. says (item_position s b.target p) true) (λ p. says (item_position s b.target p) false) (λ p. has_key (slot_at slotted.slots p) key) b.controls (text_hash key) b.cap (hash_tag (text_hash key)) (omega (arith, fewer))
              (wraps_of b.controls b.cap are) (count_of b.controls b.cap are) low
              (λ p less full said. says_is p true less full said) (λ p less full said. says_is p false less full said) place n look)
