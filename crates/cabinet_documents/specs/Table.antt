-- The table of a hashed or a kept map: the places of its keys, and when each key is found.
use Rattle.std.specs.Prelude.{◌≡◌, ℕ, ◌+◌, ◌-◌, ◌*◌, Bool, true, false, cond, ◌&&◌, ◌==◌, nat_lt, List, [], ◌∷◌, take, map, slice_index, slice_index_or, Option, Some, None}
use Rattle.std.specs.List.{find, Contains}
use Rattle.archive_shape_layout.specs.Bytes.{window, word_at, target_from}
use Rattle.archive_shape_layout.specs.Value.{Value, Values}
use Rattle.archive_shape_layout.specs.Value.Value.{string, group}
use Rattle.archive_shape_layout.specs.Value.Values.{no_values, more_values}
use Rattle.archive_shape_layout.specs.Content.{members, control_count}
use Rattle.archive_shape_canonical.specs.FirstFit.{hash_tag}
use Rattle.archive_shape_canonical.specs.Hash.{text_hash}
use Rattle.archive_shape_canonical.specs.Reach.{reach, Reaches}
use Rattle.cabinet_documents.specs.Order.{is_same}

-- a full place, the number that it represents (in a hashed map the place itself, in a kept map an entry), and the key
-- there
pub record Slot : Type 0 where
  pub place : ℕ
  pub number : ℕ
  pub key : List ℕ

-- a key that is to be found, and its number
pub record Entry : Type 0 where
  pub number : ℕ
  pub key : List ℕ

pub record Table : Type 0 where
  pub capacity : ℕ
  pub controls : List ℕ
  pub slots : List Slot
  pub entries : List Entry

-- the places whose control is a tag, where the first control is at place i
abbrev pub full_from : ℕ → List ℕ → List ℕ
full_from i [] = []
full_from i (c ∷ cs) = cond (nat_lt c 128) (i ∷ full_from (i + 1) cs) (full_from (i + 1) cs)

-- the keys of a map's items
abbrev pub key_of : Value → List ℕ
key_of (group (more_values (string k) vs)) = k
key_of v = []

abbrev pub item_keys : Values → List (List ℕ)
item_keys no_values = []
item_keys (more_values v vs) = key_of v ∷ item_keys vs

-- ---- the two kinds of table, at the position of their pointer, with the map's keys in order

abbrev pub numbered : ℕ → List (List ℕ) → List Entry
numbered i [] = []
numbered i (k ∷ ks) = record { number = i; key = k } ∷ numbered (i + 1) ks

-- a hashed map's keys are in its full places, in order
abbrev pub hashed_slots : List ℕ → List (List ℕ) → List Slot
hashed_slots [] ks = []
hashed_slots (p ∷ ps) [] = []
hashed_slots (p ∷ ps) (k ∷ ks) = record { place = p; number = p; key = k } ∷ hashed_slots ps ks

abbrev pub entry_of : Slot → Entry
entry_of s = record { number = s.number; key = s.key }

-- each full place of a kept map has the number of an entry
abbrev pub kept_slot : List ℕ → ℕ → List (List ℕ) → ℕ → Slot
kept_slot bytes target ks p = let n = word_at bytes (target - (p + 1) * 4) in record { place = p; number = n; key = slice_index_or ks n [] }

abbrev pub empty_table : Table
empty_table = record { capacity = 0; controls = []; slots = []; entries = [] }

abbrev pub hashed_at : List ℕ → ℕ → List (List ℕ) → ℕ → Table
hashed_at bytes cap ks target =
    let controls = window bytes target (control_count cap) in
    let slots = hashed_slots (full_from 0 (take cap controls)) ks in
    record { capacity = cap; controls = controls; slots = slots; entries = map entry_of slots }

abbrev pub kept_at : List ℕ → ℕ → List (List ℕ) → ℕ → Table
kept_at bytes cap ks target =
    let controls = window bytes target (control_count cap) in
    record { capacity = cap; controls = controls; slots = map (kept_slot bytes target ks) (full_from 0 (take cap controls)); entries = numbered 0 ks }

abbrev pub where_led : Option ℕ → (ℕ → Table) → Table
where_led None f = empty_table
where_led (Some target) f = f target

-- a map of length 0 has no table
abbrev pub table_of : (List ℕ → ℕ → List (List ℕ) → ℕ → Table) → List ℕ → ℕ → Value → Table
table_of kind bytes pos v =
    cond
    (word_at bytes (pos + 4) == 0)
    empty_table
    (where_led (target_from pos (word_at bytes pos)) (kind bytes (word_at bytes (pos + 8)) (item_keys (members v))))

-- ---- the conditions on a table

abbrev pub tag_of : List ℕ → ℕ
tag_of k = hash_tag (text_hash k)

-- the places that a look-up of a key visits
abbrev pub key_reach : Table → List ℕ → List ℕ
key_reach t k = reach t.controls (text_hash k) t.capacity

abbrev pub slot_at : List Slot → ℕ → Option Slot
slot_at slots p = find (λ (s : Slot). s.place == p) slots

-- a full place names an entry, and its control is the tag of the entry's key
pub record IsTagged (t : Table) (s : Slot) : Type 0 where
  pub named : Contains t.entries (entry_of s)
  pub tag : slice_index t.controls s.place ≡ tag_of s.key

-- an entry is named by a place in its key's reach
pub record IsReached (t : Table) (e : Entry) : Type 0 where
  pub slot : Slot
  pub there : slot_at t.slots slot.place ≡ Some slot
  pub names : entry_of slot ≡ e
  pub reached : Reaches t.controls (text_hash e.key) t.capacity slot.place

-- each place is tagged, each entry is reached, and no two keys are equal
pub record Findable (t : Table) : Type 0 where
  pub tags : (s : Slot) → Contains t.slots s → IsTagged t s
  pub reached : (e : Entry) → Contains t.entries e → IsReached t e
  pub distinct : (a b : Entry) → Contains t.entries a → Contains t.entries b → is_same a.key b.key ≡ true → a.number ≡ b.number

-- ---- the look-up: the first place in the key's reach that has the key's tag and the key

abbrev pub has_key : Option Slot → List ℕ → Bool
has_key None k = false
has_key (Some s) k = is_same s.key k

abbrev pub answers : Table → List ℕ → ℕ → Bool
answers t k p = (slice_index t.controls p == tag_of k) && has_key (slot_at t.slots p) k

abbrev pub found : Table → List ℕ → Option ℕ
found t k = find (answers t k) (key_reach t k)

-- the place that was found has this number
abbrev pub is_numbered : Option Slot → ℕ → Bool
is_numbered None n = false
is_numbered (Some s) n = s.number == n

abbrev pub gives : Table → Option ℕ → ℕ → Bool
gives t None n = false
gives t (Some p) n = is_numbered (slot_at t.slots p) n
