-- What the part at each place is to a walk: whether it is a container, and what the keys of its map say of it.
use Rattle.std.proofs.Common.{◌≡◌, ℕ, zero, suc, ◌+◌, ◌-◌, ◌*◌, nat_lt, max, Bool, true, false, cond, List, [], ◌∷◌, ◌++◌, length, take, refl, sym, ap, ◌∙◌, arith}
use Rattle.std.specs.Prelude.{⊤}
use Rattle.archive_shape_layout.specs.Bytes.{window}
use Rattle.archive_shape_layout.specs.Value.{Value, count_values}
use Rattle.archive_shape_layout.specs.Value.Value.{group}
use Rattle.archive_shape_layout.specs.Content.{members, control_count}
use Rattle.cabinet_documents.specs.Order.{ascend}
use Rattle.cabinet_documents.specs.Table.{item_keys, full_from, Findable, table_of, hashed_at, kept_at}
use Rattle.cabinet_documents.specs.Walk.{Stop, is_container}
use Rattle.cabinet_documents.specs.Audit.{IsMapSound}
use Rattle.cabinet_documents.proofs.ByKey.{AreKeysDistinct}
use Rattle.cabinet_documents.proofs.Heights.{height, Keyed}
use Rattle.cabinet_documents.proofs.Stops.{peak, peak_low, peak_raise}
use Rattle.cabinet_documents.proofs.Places.{Place, node_here, option_here, list_here, ordered_here, table_here, index_here, whole_here, tree_node, tree_child, buckets_here, numbers_here, entry_number, Spot, part_of, is_behind, each_from, tagged_from, entries_from, children_from}
use Rattle.cabinet_documents.proofs.TableSound.{IsPlainSound}

abbrev pub lift : Place → ℕ
lift option_here = 1
lift list_here = 1
lift ordered_here = 1
lift table_here = 1
lift index_here = 1
lift whole_here = 1
lift k = 0

abbrev pub contains : Place → Bool
contains option_here = true
contains list_here = true
contains ordered_here = true
contains table_here = true
contains index_here = true
contains whole_here = true
contains k = false

-- no container
abbrev pub is_plain : Place → Bool
is_plain option_here = false
is_plain list_here = false
is_plain ordered_here = false
is_plain table_here = false
is_plain index_here = false
is_plain whole_here = false
is_plain k = true

-- the keys of the map at a place ascend, or are distinct
abbrev pub OwnKeyed : Place → Value → Type 0
OwnKeyed ordered_here v = ascend (item_keys (members v)) ≡ true
OwnKeyed table_here v = AreKeysDistinct (item_keys (members v))
OwnKeyed index_here v = AreKeysDistinct (item_keys (members v))
OwnKeyed k v = ⊤

abbrev pub KeyedAt : Place → Value → Type 0
KeyedAt k v = OwnKeyed k v × Keyed v

-- no container lies in a value, nor a map
abbrev pub IsFlat : Value → Type 0
IsFlat v = (height v ≡ 0) × Keyed v

-- the value of a part of a search tree is a group, that of buckets has an item for each full place, and numbers are flat
abbrev pub GroupedAt : List ℕ → Place → Value → Type 0
GroupedAt bytes (tree_node level) v = v ≡ group (members v)
GroupedAt bytes (tree_child level) v = v ≡ group (members v)
GroupedAt bytes (buckets_here target len cap) v = count_values (members v) ≡ length (full_from 0 (take cap (window bytes target (control_count cap))))
GroupedAt bytes (numbers_here target len cap) v = IsFlat v
GroupedAt bytes (entry_number limit) v = IsFlat v
GroupedAt bytes k v = ⊤

pub container_is : (k : Place) (pos : ℕ) → is_container (part_of k pos) ≡ contains k
container_is node_here pos = refl
container_is k pos = refl

pub deeper : (b : Bool) (d n : ℕ) → cond b 1 0 ≡ n → cond b (d + 1) d ≡ d + n
deeper true d n h = omega arith
deeper false d n h = omega arith

pub lift_is : (k : Place) → cond (contains k) 1 0 ≡ lift k
lift_is node_here = refl
lift_is k = refl

pub plain_lift : (k : Place) → is_plain k ≡ true → lift k ≡ 0
plain_lift option_here e = absurd (cc)
plain_lift list_here e = absurd (cc)
plain_lift ordered_here e = absurd (cc)
plain_lift table_here e = absurd (cc)
plain_lift index_here e = absurd (cc)
plain_lift whole_here e = absurd (cc)
plain_lift k e = refl

pub plain_own : (k : Place) (v : Value) → is_plain k ≡ true → OwnKeyed k v
plain_own ordered_here v e = absurd (cc)
plain_own table_here v e = absurd (cc)
plain_own index_here v e = absurd (cc)
plain_own k v e = tt

-- with the stop at a place before a walk
pub peak_stop : (b : Bool) (d n : ℕ) (walk : List Stop) → cond b 1 0 ≡ n → max (cond b (d + 1) d) (peak d walk) ≡ peak (d + n) walk
peak_stop true d n walk h = let e : d + n ≡ d + 1 = omega arith in peak_raise d walk ∙ ap (λ m. peak m walk) (sym e)
peak_stop false d n walk h = let e : d + n ≡ d = omega arith in let low = peak_low d walk in let m : max d (peak d walk) ≡ peak d walk = omega arith in m ∙ ap (λ m. peak m walk) (sym e)

-- ---- the map at a stop

pub own_sound : (k : Place) (pos : ℕ) (bytes : List ℕ) (v : Value) → OwnKeyed k v → IsPlainSound bytes (part_of k pos) v
own_sound ordered_here pos bytes v h = h
own_sound table_here pos bytes v h = h
own_sound index_here pos bytes v h = h
own_sound k pos bytes v h = tt

-- where the keys of the table at a place are found, no two of them are equal
abbrev pub FoundApart : List ℕ → Place → ℕ → Value → Type 0
FoundApart bytes table_here pos v = Findable (table_of hashed_at bytes pos v) → AreKeysDistinct (item_keys (members v))
FoundApart bytes index_here pos v = Findable (table_of kept_at bytes pos v) → AreKeysDistinct (item_keys (members v))
FoundApart bytes k pos v = ⊤

pub own_keyed : (k : Place) (pos : ℕ) (bytes : List ℕ) (v : Value) → FoundApart bytes k pos v → IsMapSound bytes (part_of k pos) v → OwnKeyed k v
own_keyed ordered_here pos bytes v apart h = h
own_keyed table_here pos bytes v apart h = apart h
own_keyed index_here pos bytes v apart h = apart h
own_keyed k pos bytes v apart h = tt

-- what claims bytes is no table
pub behind_apart : (bytes : List ℕ) (k : Place) (pos : ℕ) (v : Value) → is_behind k ≡ true → FoundApart bytes k pos v
behind_apart bytes table_here pos v e = absurd (cc)
behind_apart bytes index_here pos v e = absurd (cc)
behind_apart bytes k pos v e = tt

-- ---- what is true of each of several places

abbrev pub AllOf : (Place → Type 0) → List Spot → Type 0
AllOf P [] = ⊤
AllOf P (q ∷ qs) = P q.place × AllOf P qs

module _ (P : Place → Type 0) where
  pub all_append : (xs ys : List Spot) → AllOf P xs → AllOf P ys → AllOf P (xs ++ ys)
  all_append [] ys h k = k
  all_append (x ∷ xs) ys h k = (h.0, all_append xs ys h.1 k)

  pub all_each : (k : Place) → P k → (size pos n : ℕ) → AllOf P (each_from k size pos n)
  all_each k h size pos zero = tt
  all_each k h size pos (suc n) = (h, all_each k h size (pos + size) n)

  pub all_tagged : (k : Place) → P k → (size target i : ℕ) (controls : List ℕ) → AllOf P (tagged_from k size target i controls)
  all_tagged k h size target i [] = tt
  all_tagged k h size target i (c ∷ cs) = by_test (nat_lt c 128) (all_tagged k h size target (i + 1) cs)
    where
      by_test : (b : Bool) → AllOf P (tagged_from k size target (i + 1) cs) → AllOf P (cond b (record { place = k; pos = target - (i + 1) * size } ∷ tagged_from k size target (i + 1) cs) (tagged_from k size target (i + 1) cs))
      by_test true g = (h, g)
      by_test false g = g

abbrev pub AllPlain : List Spot → Type 0
AllPlain qs = AllOf (λ k. is_plain k ≡ true) qs

pub entries_plain : (n key value : ℕ) → AllPlain (entries_from n key value)
entries_plain zero key value = tt
entries_plain (suc n) key value = (refl, entries_plain n (key + 8) (value + 24))

pub children_plain : (n level pos : ℕ) → AllPlain (children_from n level pos)
children_plain zero level pos = tt
children_plain (suc n) level pos = (refl, children_plain n level (pos + 4))

abbrev pub IsNumber : Place → Type 0
IsNumber (entry_number limit) = ⊤
IsNumber k = ⊥
