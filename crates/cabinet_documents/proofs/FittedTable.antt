-- In the tables that first fit fills, where keys are distinct, each key can be found.
use Rattle.std.proofs.Common.{◌≡◌, ◌≢◌, ℕ, zero, suc, ◌+◌, ◌<◌, ◌≤◌, ◌==◌, Bool, true, false, cond, List, [], ◌∷◌, take, length, map, get_or, Option, Some, None, refl, sym, ap, subst, ◌∙◌, arith, lt-ltb, le-ltb, eq-eqb, eqb-true}
use Rattle.std.specs.Prelude.{slice_index, slice_index_or}
use Rattle.std.specs.List.{Contains, range_with_len}
use Rattle.std.proofs.lemmas.Bool.{ne_eqb}
use Rattle.std.proofs.lemmas.List.{length-map}
use Rattle.std.proofs.lemmas.List.FromFn.{length-range_with_len, get_or-range_with_len, length-map-range_with_len, get_or-map-range_with_len}
use Rattle.archive_shape_canonical.specs.FirstFit.{controls_of, item_at, map_capacity, numbers_of, placed, placed_keys, places_of, present}
use Rattle.archive_shape_canonical.specs.Hash.{text_hash}
use Rattle.archive_shape_canonical.specs.Reach.{Reaches}
use Rattle.archive_hash_writing.proofs.ItemPlaces.{IsFoundAt, found_at, keys_tagged}
use Rattle.archive_hash_writing.proofs.Small.{text_hash_small, text_hashes_small}
use Rattle.archive_hash_writing.proofs.SpellingFitting.{above, length-places, places_below, are_apart}
use Rattle.archive_hash_writing.proofs.SpellingPresent.{item_own}
use Rattle.archive_hash_writing.proofs.Tagged.{AreTagged, written_tagged}
use Rattle.archive_hash_writing.proofs.IndexKept.{numbers_placed}
use Rattle.cabinet_documents.specs.Table.{Slot, Entry, Table, Findable, entry_of, full_from, hashed_slots, numbered, slot_at, tag_of}
use Rattle.cabinet_documents.proofs.Arranged.{same_keys}
use Rattle.cabinet_documents.proofs.ByKey.{IsNewKey, AreKeysDistinct}
use Rattle.cabinet_documents.proofs.FoundKeys.{from_map, mapped}
use Rattle.cabinet_documents.proofs.TableSound.{Above, full_above}
use Rattle.cabinet_documents.proofs.Tables.{slots_with, hashed_slot, hashed_are, hashed_table, numbered_slot, kept_table, entry_there}

-- ---- the slots of a table

-- a control below 128 is that of a full place
empty_place : (i c : ℕ) (cs : List ℕ) → 128 ≤ c → full_from i (c ∷ cs) ≡ full_from (i + 1) cs
empty_place i c cs h = ap (λ b. cond b (i ∷ full_from (i + 1) cs) (full_from (i + 1) cs)) (le-ltb c 128 h)

full_place : (i c : ℕ) (cs : List ℕ) → c < 128 → full_from i (c ∷ cs) ≡ i ∷ full_from (i + 1) cs
full_place i c cs h = ap (λ b. cond b (i ∷ full_from (i + 1) cs) (full_from (i + 1) cs)) (lt-ltb c 128 h)

module _ {A : Type 0} (f : ℕ → A → Slot) (placed_so : (p : ℕ) (x : A) → (f p x).place ≡ p) where
  -- a slot is that of an item at its place
  record SlotAt (os : List (Option A)) (i : ℕ) (s : Slot) : Type 0 where
    at : ℕ
    item : A
    is : f (i + at) item ≡ s
    low : at < length os
    there : get_or os at None ≡ Some item

  later_slot : (o : Option A) (os : List (Option A)) (i : ℕ) (s : Slot) → SlotAt os (i + 1) s → SlotAt (o ∷ os) i s
  later_slot o os i s r =
      let next : i + suc r.at ≡ i + 1 + r.at = omega arith in
      let l = r.low in
      record { at = suc r.at; item = r.item; is = ap (λ n. f n r.item) next ∙ r.is; low = omega (arith, l); there = r.there }

  slots_at : (os : List (Option A)) (cs : List ℕ) (i : ℕ) → AreTagged os cs → (s : Slot) → Contains (slots_with f (full_from i cs) (present os)) s → SlotAt os i s
  slots_at [] [] i t s c = let a = c.1 in absurd (omega (arith, a))
  slots_at [] (x ∷ cs) i t s c = absurd t
  slots_at (o ∷ os) [] i t s c = absurd t
  slots_at (None ∷ os) (x ∷ cs) i t s c = later_slot None os i s (slots_at os cs (i + 1) t.1 s (subst (λ ps. Contains (slots_with f ps (present os)) s) (empty_place i x cs t.0) c))
  slots_at (Some y ∷ os) (x ∷ cs) i t s c = by_index (subst (λ ps. Contains (slots_with f ps (y ∷ present os)) s) (full_place i x cs t.0) c) (slots_at os cs (i + 1) t.1 s)
    where
      by_index : Contains (f i y ∷ slots_with f (full_from (i + 1) cs) (present os)) s → (Contains (slots_with f (full_from (i + 1) cs) (present os)) s → SlotAt os (i + 1) s) → SlotAt (Some y ∷ os) i s
      by_index (zero, a, e) on = let here : i + 0 ≡ i = omega arith in record { at = 0; item = y; is = ap (λ n. f n y) here ∙ e; low = omega arith; there = refl }
      by_index (suc n, a, e) on = later_slot (Some y) os i s (on (n, omega (arith, a), e))

  -- each item has one
  slot_among : (os : List (Option A)) (cs : List ℕ) (i at : ℕ) (x : A) → AreTagged os cs → at < length os → get_or os at None ≡ Some x → Contains (slots_with f (full_from i cs) (present os)) (f (i + at) x)
  slot_among [] cs i at x t low e = absurd (omega (arith, low))
  slot_among (o ∷ os) [] i at x t low e = absurd t
  slot_among (None ∷ os) (c ∷ cs) i zero x t low e = absurd (cc)
  slot_among (None ∷ os) (c ∷ cs) i (suc at) x t low e =
      let next : i + 1 + at ≡ i + suc at = omega arith in
      let r = subst (λ n. Contains (slots_with f (full_from (i + 1) cs) (present os)) (f n x)) next (slot_among os cs (i + 1) at x t.1 (omega (arith, low)) e) in
      subst (λ ps. Contains (slots_with f ps (present os)) (f (i + suc at) x)) (sym (empty_place i c cs t.0)) r
  slot_among (Some y ∷ os) (c ∷ cs) i zero x t low e =
      let here : i ≡ i + 0 = omega arith in
      let same_item : y ≡ x = cc in
      subst (λ ps. Contains (slots_with f ps (y ∷ present os)) (f (i + 0) x)) (sym (full_place i c cs t.0)) (0, omega arith, ap (f i) same_item ∙ ap (λ n. f n x) here)
  slot_among (Some y ∷ os) (c ∷ cs) i (suc at) x t low e =
      let next : i + 1 + at ≡ i + suc at = omega arith in
      let r = subst (λ n. Contains (slots_with f (full_from (i + 1) cs) (present os)) (f n x)) next (slot_among os cs (i + 1) at x t.1 (omega (arith, low)) e) in
      let a = r.1 in
      subst (λ ps. Contains (slots_with f ps (y ∷ present os)) (f (i + suc at) x)) (sym (full_place i c cs t.0)) (suc r.0, omega (arith, a), r.2)

  -- they ascend by their places
  slot_above : (n : ℕ) (ps : List ℕ) (xs : List A) → Above n ps → (s : Slot) → Contains (slots_with f ps xs) s → n ≤ s.place
  slot_above n [] xs h s c = let a = c.1 in absurd (omega (arith, a))
  slot_above n (p ∷ ps) [] h s c = let a = c.1 in absurd (omega (arith, a))
  slot_above n (p ∷ ps) (x ∷ xs) h s (zero, a, e) = let low = h.0 in let place : p ≡ s.place = sym (placed_so p x) ∙ ap (λ (y : Slot). y.place) e in omega (arith, low, place)
  slot_above n (p ∷ ps) (x ∷ xs) h s (suc m, a, e) = let low = h.0 in let r = slot_above (p + 1) ps xs h.1 s (m, omega (arith, a), e) in omega (arith, low, r)

  slot_there : (n : ℕ) (ps : List ℕ) (xs : List A) → Above n ps → (s : Slot) → Contains (slots_with f ps xs) s → slot_at (slots_with f ps xs) s.place ≡ Some s
  slot_there n [] xs h s c = let a = c.1 in absurd (omega (arith, a))
  slot_there n (p ∷ ps) [] h s c = let a = c.1 in absurd (omega (arith, a))
  slot_there n (p ∷ ps) (x ∷ xs) h s (zero, a, e) =
      ap (λ b. cond b (Some (f p x)) (slot_at (slots_with f ps xs) s.place)) (eq-eqb (f p x).place s.place (ap (λ (y : Slot). y.place) e)) ∙ ap Some e
  slot_there n (p ∷ ps) (x ∷ xs) h s (suc m, a, e) =
      let c : Contains (slots_with f ps xs) s = (m, omega (arith, a), e) in
      let up = slot_above (p + 1) ps xs h.1 s c in
      let here = placed_so p x in
      ap (λ b. cond b (Some (f p x)) (slot_at (slots_with f ps xs) s.place)) (ne_eqb (f p x).place s.place (λ q. omega (arith, up, here, q))) ∙ slot_there (p + 1) ps xs h.1 s c

-- ---- a hashed map of these keys, of which each is at its first fit

-- no two have one key
other_key : (k : List ℕ) (ps : List ℕ) (ks : List (List ℕ)) → IsNewKey k ks → (s : Slot) → Contains (hashed_slots ps ks) s → s.key ≢ k
other_key k [] ks new s c f = let a = c.1 in omega (arith, a)
other_key k (p ∷ ps) [] new s c f = let a = c.1 in omega (arith, a)
other_key k (p ∷ ps) (l ∷ ks) new s (zero, a, e) f = new.0 (ap (λ (y : Slot). y.key) e ∙ f)
other_key k (p ∷ ps) (l ∷ ks) new s (suc m, a, e) f = other_key k ps ks new.1 s (m, omega (arith, a), e) f

one_number : (ps : List ℕ) (ks : List (List ℕ)) → AreKeysDistinct ks → (s r : Slot) → Contains (hashed_slots ps ks) s → Contains (hashed_slots ps ks) r → s.key ≡ r.key → s.number ≡ r.number
one_number [] ks h s r c d same = let a = c.1 in absurd (omega (arith, a))
one_number (p ∷ ps) [] h s r c d same = let a = c.1 in absurd (omega (arith, a))
one_number (p ∷ ps) (k ∷ ks) h s r (zero, a, e) (zero, b, f) same = ap (λ (y : Slot). y.number) (sym e ∙ f)
one_number (p ∷ ps) (k ∷ ks) h s r (zero, a, e) (suc m, b, f) same = absurd (other_key k ps ks h.0 r (m, omega (arith, b), f) (sym same ∙ sym (ap (λ (y : Slot). y.key) e)))
one_number (p ∷ ps) (k ∷ ks) h s r (suc n, a, e) (zero, b, f) same = absurd (other_key k ps ks h.0 s (n, omega (arith, a), e) (same ∙ sym (ap (λ (y : Slot). y.key) f)))
one_number (p ∷ ps) (k ∷ ks) h s r (suc n, a, e) (suc m, b, f) same = one_number ps ks h.1 s r (n, omega (arith, a), e) (m, omega (arith, b), f) same

abbrev pub filled_table : ℕ → List (List ℕ) → Table
filled_table cap ks = hashed_table cap (controls_of text_hash cap ks) (placed_keys text_hash cap ks)

module _ (cap : ℕ) (ks : List (List ℕ)) (room : length ks ≤ cap) (apart : AreKeysDistinct (placed_keys text_hash cap ks)) where
  abbrev places : List ℕ
  places = full_from 0 (take cap (controls_of text_hash cap ks))

  abbrev slots : List Slot
  slots = hashed_slots places (placed_keys text_hash cap ks)

  slot_found : (s : Slot) → Contains slots s → IsFoundAt text_hash text_hash_small cap ks s.place s.key
  slot_found s c =
      let os = placed cap (places_of text_hash cap ks) ks in
      let r = slots_at hashed_slot (λ p k. refl) os (take cap (controls_of text_hash cap ks)) 0 (keys_tagged text_hash text_hash_small cap ks) s (subst (λ ss. Contains ss s) (hashed_are places (placed_keys text_hash cap ks)) c) in
      let low = r.low in
      let long : length os ≡ cap = length-map-range_with_len (item_at ks (places_of text_hash cap ks)) 0 cap in
      let here = get_or-map-range_with_len (item_at ks (places_of text_hash cap ks)) 0 cap r.at (0 + r.at) None (omega (arith, low, long)) refl in
      subst (λ (y : Slot). IsFoundAt text_hash text_hash_small cap ks y.place y.key) r.is (found_at text_hash text_hash_small cap ks room (0 + r.at) r.item (sym here ∙ r.there))

  there : (s : Slot) → Contains slots s → slot_at slots s.place ≡ Some s
  there s c =
      let are = hashed_are places (placed_keys text_hash cap ks) in
      let above_zero = full_above 0 (take cap (controls_of text_hash cap ks)) in
      subst (λ ss. slot_at ss s.place ≡ Some s) (sym are) (slot_there hashed_slot (λ p k. refl) 0 places (placed_keys text_hash cap ks) above_zero s (subst (λ ss. Contains ss s) are c))

  pub filled_is_findable : Findable (filled_table cap ks)
  filled_is_findable = record {
    tags = λ s c. record { named = mapped entry_of slots s c; tag = (slot_found s c).tag };
    reached = λ e c.
        let f = from_map entry_of slots e c in
        let s = f.it in
        let key : s.key ≡ e.key = ap (λ (y : Entry). y.key) f.is in
        record {
          slot = s;
          there = there s f.among;
          names = f.is;
          reached = subst (λ k. Reaches (controls_of text_hash cap ks) (text_hash k) cap s.place) key (slot_found s f.among).reached;
        };
    distinct = λ a b c d same.
        let f = from_map entry_of slots a c in
        let g = from_map entry_of slots b d in
        let keys : (f.it).key ≡ (g.it).key = ap (λ (y : Entry). y.key) f.is ∙ same_keys a.key b.key same ∙ sym (ap (λ (y : Entry). y.key) g.is) in
        sym (ap (λ (y : Entry). y.number) f.is) ∙ one_number places (placed_keys text_hash cap ks) apart f.it g.it f.among g.among keys ∙ ap (λ (y : Entry). y.number) g.is;
  }

-- ---- a kept map of these keys, of which the number of each is at the key's first fit

record EntryIs (i : ℕ) (ks : List (List ℕ)) (e : Entry) : Type 0 where
  index : ℕ
  low : index < length ks
  number : i + index ≡ e.number
  key : slice_index_or ks index [] ≡ e.key

entry_is : (i : ℕ) (ks : List (List ℕ)) (e : Entry) → Contains (numbered i ks) e → EntryIs i ks e
entry_is i [] e c = let a = c.1 in absurd (omega (arith, a))
entry_is i (k ∷ ks) e (zero, a, q) =
    let first : i ≡ e.number = ap (λ (y : Entry). y.number) q in record { index = 0; low = omega arith; number = omega (arith, first); key = ap (λ (y : Entry). y.key) q }
entry_is i (k ∷ ks) e (suc m, a, q) =
    let r = entry_is (i + 1) ks e (m, omega (arith, a), q) in
    let l = r.low in
    let n = r.number in
    record { index = suc r.index; low = omega (arith, l); number = omega (arith, n); key = r.key }

new_index : (k : List ℕ) (ks : List (List ℕ)) (j : ℕ) → IsNewKey k ks → j < length ks → slice_index_or ks j [] ≢ k
new_index k [] j h low e = omega (arith, low)
new_index k (l ∷ ks) zero h low e = h.0 e
new_index k (l ∷ ks) (suc j) h low e = new_index k ks j h.1 (omega (arith, low)) e

one_index : (ks : List (List ℕ)) (i j : ℕ) → AreKeysDistinct ks → i < length ks → j < length ks → slice_index_or ks i [] ≡ slice_index_or ks j [] → i ≡ j
one_index [] i j h low less e = absurd (omega (arith, low))
one_index (k ∷ ks) zero zero h low less e = refl
one_index (k ∷ ks) zero (suc j) h low less e = absurd (new_index k ks j h.0 (omega (arith, less)) (sym e))
one_index (k ∷ ks) (suc i) zero h low less e = absurd (new_index k ks i h.0 (omega (arith, low)) e)
one_index (k ∷ ks) (suc i) (suc j) h low less e = ap suc (one_index ks i j h.1 (omega (arith, low)) (omega (arith, less)) e)

-- a number at a place
record NumberThere (i n : ℕ) (qs : List ℕ) (p m : ℕ) : Type 0 where
  index : ℕ
  low : index < n
  is : i + index ≡ m
  place : get_or qs index 0 ≡ p

number_there : (i n : ℕ) (qs : List ℕ) (p m : ℕ) → item_at (range_with_len i n) qs p ≡ Some m → NumberThere i n qs p m
number_there i zero qs p m e = absurd (cc)
number_there i (suc n) [] p m e = absurd (cc)
number_there i (suc n) (q ∷ qs) p m e = tested (q == p) refl e (number_there (i + 1) n qs p m)
  where
    tested : (b : Bool) → (q == p) ≡ b → cond b (Some i) (item_at (range_with_len (i + 1) n) qs p) ≡ Some m → (item_at (range_with_len (i + 1) n) qs p ≡ Some m → NumberThere (i + 1) n qs p m) → NumberThere i (suc n) (q ∷ qs) p m
    tested true f g on = let first : i ≡ m = cc in record { index = 0; low = omega arith; is = omega (arith, first); place = eqb-true q p f }
    tested false f g on =
        let r = on g in
        let l = r.low in
        let s = r.is in
        record { index = suc r.index; low = omega (arith, l); is = omega (arith, s); place = r.place }

abbrev pub kept_filled : List (List ℕ) → Table
kept_filled ks = let cap = map_capacity (length ks) in kept_table cap (controls_of text_hash cap ks) (numbers_of text_hash cap ks) ks

module _ (ks : List (List ℕ)) (some : 0 < length ks) (apart : AreKeysDistinct ks) where
  abbrev capacity : ℕ
  capacity = map_capacity (length ks)

  abbrev qs : List ℕ
  qs = places_of text_hash capacity ks

  abbrev controls : List ℕ
  controls = controls_of text_hash capacity ks

  abbrev numbers : List ℕ
  numbers = range_with_len 0 (length ks)

  abbrev os : List (Option ℕ)
  os = placed capacity qs numbers

  abbrev all_slots : List Slot
  all_slots = slots_with (numbered_slot ks) (full_from 0 (take capacity controls)) (present os)

  even : length (map text_hash ks) ≡ length ks
  even = length-map ks text_hash

  long : length qs ≡ length ks
  long = length-places 7 8 (map text_hash ks) ks even some

  numbers_are : numbers_of text_hash capacity ks ≡ present os
  numbers_are = numbers_placed capacity qs ∙ ap (λ n. present (placed capacity qs (range_with_len 0 n))) long

  tagged : AreTagged os (take capacity controls)
  tagged = written_tagged capacity (map text_hash ks) numbers qs (even ∙ sym (length-range_with_len 0 (length ks))) (text_hashes_small (λ k. k) ks)

  abbrev slot_of : ℕ → Slot
  slot_of j = numbered_slot ks (get_or qs j 0) j

  key_found : (j : ℕ) → j < length ks → IsFoundAt text_hash text_hash_small capacity ks (get_or qs j 0) (slice_index_or ks j [])
  key_found j low =
      let room = above 7 8 (map text_hash ks) ks even some in
      found_at text_hash text_hash_small capacity ks (omega (arith, room)) (get_or qs j 0) (slice_index_or ks j []) (item_own ks qs j [] long (are_apart 7 8 (map text_hash ks) ks even some) low)

  long_places : length os ≡ capacity
  long_places = length-map-range_with_len (item_at numbers qs) 0 capacity

  number_placed : (j : ℕ) → j < length ks → Contains all_slots (slot_of j)
  number_placed j low =
      let n = length-range_with_len 0 (length ks) in
      let high = places_below 7 8 (map text_hash ks) ks even some j (omega (arith, long, low)) in
      let own = item_own numbers qs j 0 (long ∙ sym n) (are_apart 7 8 (map text_hash ks) ks even some) (omega (arith, n, low)) in
      let there = get_or-map-range_with_len (item_at numbers qs) 0 capacity (get_or qs j 0) (get_or qs j 0) None high (omega arith) in
      let number : get_or numbers j 0 ≡ j = get_or-range_with_len 0 (length ks) j 0 low ∙ omega arith in
      let q = get_or qs j 0 in
      let from_zero : 0 + q ≡ q = omega arith in
      subst (λ p. Contains all_slots (numbered_slot ks p j)) from_zero
      (slot_among (numbered_slot ks) (λ p m. refl) os (take capacity controls) 0 q j tagged (omega (arith, high, long_places)) (there ∙ own ∙ ap Some number))

  record SlotOf (s : Slot) : Type 0 where
    index : ℕ
    low : index < length ks
    is : slot_of index ≡ s

  slot_is : (s : Slot) → Contains all_slots s → SlotOf s
  slot_is s c =
      let r = slots_at (numbered_slot ks) (λ p m. refl) os (take capacity controls) 0 tagged s c in
      let low = r.low in
      let here = get_or-map-range_with_len (item_at numbers qs) 0 capacity r.at (0 + r.at) None (omega (arith, low, long_places)) refl in
      let n = number_there 0 (length ks) qs (0 + r.at) r.item (sym here ∙ r.there) in
      let i = n.is in
      let number : n.index ≡ r.item = omega (arith, i) in
      record { index = n.index; low = n.low; is = ap (λ p. numbered_slot ks p n.index) n.place ∙ ap (numbered_slot ks (0 + r.at)) number ∙ r.is }

  kept_is_findable : Findable (record { capacity = capacity; controls = controls; slots = all_slots; entries = numbered 0 ks })
  kept_is_findable = record {
    tags = λ s c.
        let r = slot_is s c in
        record {
          named = subst (λ (y : Slot). Contains (numbered 0 ks) (entry_of y)) r.is (entry_there ks 0 r.index r.index (omega arith) r.low);
          tag = subst (λ (y : Slot). slice_index controls y.place ≡ tag_of y.key) r.is (key_found r.index r.low).tag;
        };
    reached = λ e c.
        let r = entry_is 0 ks e c in
        let n = r.number in
        let number : r.index ≡ e.number = omega (arith, n) in
        record {
          slot = slot_of r.index;
          there = slot_there (numbered_slot ks) (λ p m. refl) 0 (full_from 0 (take capacity controls)) (present os) (full_above 0 (take capacity controls)) (slot_of r.index) (number_placed r.index r.low);
          names = λ i. record { number = number i; key = r.key i };
          reached = subst (λ k. Reaches controls (text_hash k) capacity (get_or qs r.index 0)) r.key (key_found r.index r.low).reached;
        };
    distinct = λ a b c d same.
        let r = entry_is 0 ks a c in
        let s = entry_is 0 ks b d in
        let m = r.number in
        let n = s.number in
        let one = one_index ks r.index s.index apart r.low s.low (r.key ∙ same_keys a.key b.key same ∙ sym s.key) in
        omega (arith, m, n, one);
  }

  pub kept_filled_is_findable : Findable (kept_filled ks)
  kept_filled_is_findable = subst (λ ns. Findable (kept_table capacity controls ns ks)) (sym numbers_are) kept_is_findable
