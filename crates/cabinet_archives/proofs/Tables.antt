-- The tables that the audit speaks of, by the places that the bytes have.
use Rattle.std.proofs.Common.{◌≡◌, ℕ, zero, suc, ◌+◌, ◌<◌, ◌≤◌, ◌==◌, Bool, true, false, cond, List, [], ◌∷◌, length, map, filter, take, drop, drop-cons, nat_lt, slice_index, Some, refl, sym, ap, ◌∙◌, arith, eqb-true, eq-eqb, lt-ltb}
use Rattle.std.specs.Prelude.{slice_index_or}
use Rattle.std.specs.List.{range_with_len}
use Rattle.archive_shape_layout.specs.Bytes.{word_at}
use Rattle.archive_shape_layout.specs.Shape.{Shape}
use Rattle.archive_shape_layout.specs.Value.{Value}
use Rattle.archive_shape_layout.specs.Content.{members}
use Rattle.archive_forms_laws.specs.Sample.{number_shape}
use Rattle.archive_hash_probing.specs.Controls.{AreControls}
use Rattle.archive_hash_probing.proofs.Wrapping.{count_is}
use Rattle.archive_hash_maps.specs.Tables.{Buckets, full_places, item_position, item_positions, IsTableAt}
use Rattle.archive_hash_maps.specs.Tables.IsTableAt.{has_none, has_buckets}
use Rattle.cabinet_documents.specs.Table.{Slot, Table, entry_of, full_from, hashed_slots, hashed_at, kept_at, kept_slot, numbered, slot_at, table_of, item_keys}
use Rattle.cabinet_documents.proofs.TableSound.{no_table, led_table}

-- ---- full places

full_of : (controls : List ℕ) (n i : ℕ) → i + n ≤ length controls
    → full_from i (take n (drop i controls)) ≡ filter (λ p. nat_lt (slice_index controls p) 128) (range_with_len i n)
full_of controls zero i room = refl
full_of controls (suc n) i room =
    let less : i < length controls = omega (arith, room) in
    let next : suc i ≡ i + 1 = omega arith in
    let rest = full_of controls n (i + 1) (omega (arith, room)) in
    let F : List ℕ → List ℕ = λ ps. cond (nat_lt (slice_index controls i) 128) (i ∷ ps) ps in
    ap (λ cs. full_from i (take (suc n) cs)) (drop-cons controls i 0 less)
    ∙ (ap (λ k. F (full_from (i + 1) (take n (drop k controls)))) next ∙ ap F rest)

-- the places whose control is a tag
pub full_are : (b : Buckets) → b.cap ≤ length b.controls → full_from 0 (take b.cap b.controls) ≡ full_places b
full_are b room = full_of b.controls b.cap 0 (omega (arith, room))

-- a table has a control for each of its places
pub controls_long : (b : Buckets) → AreControls b.controls b.cap → b.cap ≤ length b.controls
controls_long b are = let e = are.count in let f = count_is b.cap in omega (arith, e, f)

-- what is listed of the places whose controls are tags
pub listed : {A : Type 0} (f : ℕ → A) (all : ℕ → List ℕ → List A) → ((i : ℕ) → all i [] ≡ []) → ((i c : ℕ) (cs : List ℕ) → all i (c ∷ cs) ≡ cond (nat_lt c 128) (f i ∷ all (i + 1) cs) (all (i + 1) cs))
    → (i : ℕ) (cs : List ℕ) → all i cs ≡ map f (full_from i cs)
listed f all none more i [] = none i
listed {A = A} f all none more i (c ∷ cs) = more i c cs ∙ by (nat_lt c 128) (listed f all none more (i + 1) cs)
  where
    by : (b : Bool) → all (i + 1) cs ≡ map f (full_from (i + 1) cs) → cond b (f i ∷ all (i + 1) cs) (all (i + 1) cs) ≡ map f (cond b (i ∷ full_from (i + 1) cs) (full_from (i + 1) cs))
    by true e = ap (λ xs. f i ∷ xs) e
    by false e = e

-- ---- the slots of places, by the number and the key of each

module _ (number : ℕ → ℕ) (text : ℕ → List ℕ) where
  abbrev pub slot_of : ℕ → Slot
  slot_of p = record { place = p; number = number p; key = text p }

  abbrev pub slots_of : List ℕ → List Slot
  slots_of ps = map slot_of ps

  module _ (b : Buckets) where
    abbrev full_between : ℕ → ℕ → List ℕ
    full_between i n = filter (λ p. nat_lt (slice_index b.controls p) 128) (range_with_len i n)

    slot_here : (p q : ℕ) (ps : List ℕ) → q ≡ p → slot_at (slots_of (q ∷ ps)) p ≡ Some (slot_of p)
    slot_here p q ps same = ap (λ t. cond t (Some (slot_of q)) (slot_at (slots_of ps) p)) (eq-eqb q p same) ∙ ap (λ x. Some (slot_of x)) same

    slot_later : (p q : ℕ) (ps : List ℕ) → (q == p) ≡ false → slot_at (slots_of (q ∷ ps)) p ≡ slot_at (slots_of ps) p
    slot_later p q ps e = ap (λ t. cond t (Some (slot_of q)) (slot_at (slots_of ps) p)) e

    slot_between : (n i p : ℕ) → i ≤ p → p < i + n → nat_lt (slice_index b.controls p) 128 ≡ true → slot_at (slots_of (full_between i n)) p ≡ Some (slot_of p)
    slot_between zero i p low high full = absurd (omega (arith, low, high))
    slot_between (suc n) i p low high full = by (i == p) refl (λ less. slot_between n (i + 1) p (omega (arith, less)) (omega (arith, high)) full)
      where
        by : (t : Bool) → (i == p) ≡ t → (i < p → slot_at (slots_of (full_between (i + 1) n)) p ≡ Some (slot_of p)) → slot_at (slots_of (full_between i (suc n))) p ≡ Some (slot_of p)
        by true e later =
            let same : i ≡ p = eqb-true i p e in
            let here : nat_lt (slice_index b.controls i) 128 ≡ true = ap (λ x. nat_lt (slice_index b.controls x) 128) same ∙ full in
            ap (λ t. slot_at (slots_of (cond t (i ∷ full_between (i + 1) n) (full_between (i + 1) n))) p) here ∙ slot_here p i (full_between (i + 1) n) same
        by false e later =
            let apart : i ≡ p → ⊥ = λ same. (let u = eq-eqb i p same in let v : true ≡ false = sym u ∙ e in cc) in
            past (nat_lt (slice_index b.controls i) 128) ∙ later (omega (arith, apart, low))
          where
            past : (t : Bool) → slot_at (slots_of (cond t (i ∷ full_between (i + 1) n) (full_between (i + 1) n))) p ≡ slot_at (slots_of (full_between (i + 1) n)) p
            past true = slot_later p i (full_between (i + 1) n) e
            past false = refl

    -- the slot of a full place
    pub slot_there : (p : ℕ) → p < b.cap → slice_index b.controls p < 128 → slot_at (slots_of (full_places b)) p ≡ Some (slot_of p)
    slot_there p low full = slot_between b.cap 0 p (omega arith) (omega (arith, low)) (lt-ltb (slice_index b.controls p) 128 full)

-- ---- the table of a hashed map: the keys at the positions of its items, each under its place

module _ (key_at : ℕ → List ℕ) (s : Shape) where
  abbrev item_slots : Buckets → List ℕ → List Slot
  item_slots b ps = slots_of (λ p. p) (λ p. key_at (item_position s b.target p)) ps

  abbrev pub table_at : Buckets → Table
  table_at b = record { capacity = b.cap; controls = b.controls; slots = item_slots b (full_places b); entries = map entry_of (item_slots b (full_places b)) }

  slots_are : (b : Buckets) (ps : List ℕ) → hashed_slots ps (map key_at (map (item_position s b.target) ps)) ≡ item_slots b ps
  slots_are b [] = refl
  slots_are b (p ∷ ps) = ap (λ ss. slot_of (λ q. q) (λ q. key_at (item_position s b.target q)) p ∷ ss) (slots_are b ps)

  with_slots : Buckets → List Slot → Table
  with_slots b slots = record { capacity = b.cap; controls = b.controls; slots = slots; entries = map entry_of slots }

  with_controls : Buckets → List (List ℕ) → List ℕ → Table
  with_controls b keys controls = let slots = hashed_slots (full_from 0 (take b.cap controls)) keys in record { capacity = b.cap; controls = controls; slots = slots; entries = map entry_of slots }

  pub table_is : (bytes : List ℕ) (pos : ℕ) (v : Value) (b : Buckets) → IsTableAt bytes s pos b → item_keys (members v) ≡ map key_at (item_positions s b) → table_of hashed_at bytes pos v ≡ table_at b
  unfolding with_slots with_controls
  table_is bytes pos v b (has_none none is) keys = no_table bytes hashed_at pos v none ∙ ap table_at (sym is)
  table_is bytes pos v b (has_buckets some leads places fewer controls within room are count) keys =
      let long = controls_long b are in
      led_table bytes hashed_at pos v some leads
      ∙ (ap (λ n. hashed_at bytes n (item_keys (members v)) b.target) places
      ∙ (ap (with_controls b (item_keys (members v))) (sym controls)
      ∙ ap (with_slots b) (ap (λ ps. hashed_slots ps (item_keys (members v))) (full_are b long) ∙ (ap (hashed_slots (full_places b)) keys ∙ slots_are b (full_places b)))))

-- ---- the table of a kept map: at each full place the number of an entry, and the keys of all entries in order

module _ (bytes : List ℕ) (keys : List (List ℕ)) where
  abbrev pub number_of : Buckets → ℕ → ℕ
  number_of b p = word_at bytes (item_position number_shape b.target p)

  abbrev pub numbered_key : Buckets → ℕ → List ℕ
  numbered_key b p = slice_index_or keys (number_of b p) []

  abbrev pub index_table : Buckets → Table
  index_table b = record { capacity = b.cap; controls = b.controls; slots = slots_of (number_of b) (numbered_key b) (full_places b); entries = numbered 0 keys }

  with_places : Buckets → List ℕ → Table
  with_places b ps = record { capacity = b.cap; controls = b.controls; slots = map (kept_slot bytes b.target keys) ps; entries = numbered 0 keys }

  with_numbers : Buckets → List ℕ → Table
  with_numbers b controls = record { capacity = b.cap; controls = controls; slots = map (kept_slot bytes b.target keys) (full_from 0 (take b.cap controls)); entries = numbered 0 keys }

  pub index_table_is : (pos : ℕ) (v : Value) (b : Buckets) → IsTableAt bytes number_shape pos b → item_keys (members v) ≡ keys → (word_at bytes (pos + 4) ≡ 0 → keys ≡ []) → table_of kept_at bytes pos v ≡ index_table b
  unfolding with_places with_numbers
  index_table_is pos v b (has_none none is) same few =
      no_table bytes kept_at pos v none
      ∙ (ap (λ ks. record { capacity = 0; controls = []; slots = []; entries = numbered 0 ks }) (sym (few none)) ∙ ap index_table (sym is))
  index_table_is pos v b (has_buckets some leads places fewer controls within room are count) same few =
      let long = controls_long b are in
      led_table bytes kept_at pos v some leads
      ∙ (ap (λ n. kept_at bytes n (item_keys (members v)) b.target) places
      ∙ (ap (λ ks. kept_at bytes b.cap ks b.target) same
      ∙ (ap (with_numbers b) (sym controls) ∙ ap (with_places b) (full_are b long))))
