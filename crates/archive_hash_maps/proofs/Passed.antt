-- The items that a cursor has left, and what it passes.
use denote.Ref.{MutBor}
use Rattle.std.proofs.Common.{◌≡◌, ◌∙◌, ℕ, zero, suc, ◌+◌, ◌-◌, ◌*◌, ◌^◌, ◌<◌, ◌≤◌, min, Bool, true, false, cond, nat_lt, List, [], ◌∷◌, length, take, filter, map, slice_index, All, refl, ap, sym, subst, arith, ltb-true}
use Rattle.std.specs.List.{range_with_len}
use Rattle.std.proofs.lemmas.List.{length-map}
use Rattle.std.proofs.lemmas.List.Elements.{All-nil, All-cons, All-map, All-head, All-contains}
use Rattle.archive_shape_layout.specs.Bytes.{align_up}
use Rattle.archive_shape_layout.specs.Shape.{Shape, size_of, align_of}
use Rattle.archive_shape_layout.specs.Shape.Shapes.{no_shapes, more_shapes}
use Rattle.archive_shape_layout.specs.Content.{Names, control_count}
use Rattle.archive_shape.specs.Bytes.{overwrite}
use Rattle.archive_forms_values.specs.Loans.{LeavesOwn}
use Rattle.archive_shape.specs.declared.references.own_seal.OwnSeal.{OwnSeal}
use Rattle.archive_forms_values.specs.Tuples.{tuple2}
use Rattle.archive_forms_values.specs.Parts.{both}
use Rattle.archive_forms_values.specs.Fields.{field_position}
use Rattle.archive_forms_values.proofs.Stands.{field_stands}
use Rattle.archive_hash_maps.specs.Tables.{Buckets, no_buckets, full_places, IsTableAt, item_position}
use Rattle.archive_hash_maps.specs.Tables.IsTableAt.{has_none, has_buckets}
use Rattle.archive_hash_maps.specs.Places.{places_from}
use Rattle.archive_hash_maps.specs.Walks.{BegunTable, BegunMap, GoesOn, IsWritten, HasValuesWritten, IsKept, items_of}
use Rattle.archive_hash_maps.specs.declared.walking.passing.PlacesLeft.{PlacesLeft}
use Rattle.archive_hash_maps.proofs.Lookups.{full_among}
use Rattle.archive_hash_maps.proofs.Read.{HasBelow}
use Rattle.archive_hash_maps.proofs.Roots.{HasPlaces, IsReadAs, table_some, table_none}
use Rattle.archive_hash_maps.proofs.Stays.{nothing_written, piece_written, all_items, table_stands, table_stays, value_ends, entry_kept}
use Rattle.archive_hash_maps.proofs.Walked.{all_left, places_passed, first_of}

-- ---- the places that a walk has left

-- each is below the capacity, and its control is a tag
module _ (controls : List ℕ) (cap : ℕ) where
  abbrev IsFull : ℕ → Type 0
  IsFull p = (p < cap) × (slice_index controls p < 128)

  chosen_full : (i : ℕ) (b : Bool) (ps : List ℕ) → nat_lt (slice_index controls i) 128 ≡ b → i < cap → All IsFull ps → All IsFull (cond b (i ∷ ps) ps)
  chosen_full i true ps is less h = All-cons IsFull i ps (less, ltb-true (slice_index controls i) 128 is) h
  chosen_full i false ps is less h = h

  listed_full : (n i : ℕ) → i + n ≤ cap → All IsFull (filter (λ p. nat_lt (slice_index controls p) 128) (range_with_len i n))
  listed_full zero i few = All-nil IsFull
  listed_full (suc n) i few = chosen_full i (nat_lt (slice_index controls i) 128) _ refl (omega arith) (listed_full n (i + 1) (omega arith))

  left_full : (next : ℕ) → next ≤ cap → All IsFull (places_from controls cap next)
  left_full next within = listed_full (cap - next) next (omega arith)

-- ---- a table

module _ {s : Shape} {knows : Names → Type 0} (m : BegunTable s knows) where
  -- in its bytes nothing is written over, and it is the table of their places
  pub table_here : (bytes : List ℕ) (pos : ℕ) → m.bytes ≡ bytes → m.pos ≡ pos → IsTableAt bytes s pos m.buckets
  table_here bytes pos e f = subst (λ b. IsTableAt b s pos m.buckets) e (subst (λ p. IsTableAt m.bytes s p m.buckets) f m.places)

  pub written_here : (bytes : List ℕ) → m.bytes ≡ bytes → IsWritten m bytes
  written_here bytes e = subst (IsWritten m) e (nothing_written (size_of s) (items_of m) m.bytes)

  -- a walk over all places
  pub starts : (w : PlacesLeft) → w.target ≡ m.buckets.target → w.capacity ≡ m.buckets.cap → w.capacity < 2 ^ 32 → w.next ≡ 0 → w.left ≡ length (full_places m.buckets) → GoesOn m w (items_of m)
  starts w target capacity few next left =
      record {
        target = target;
        capacity = capacity;
        few = few;
        within = omega (arith, next);
        left = ap (map (item_position s m.buckets.target)) (sym (all_left m.buckets)) ∙ ap (λ n. map (item_position s m.buckets.target) (places_from m.buckets.controls m.buckets.cap n)) (sym next);
        count = left ∙ sym (length-map (full_places m.buckets) (item_position s m.buckets.target));
      }

  -- what holds of all items holds of those that are left
  left_among : (P : ℕ → Type 0) (w : PlacesLeft) (ps : List ℕ) → GoesOn m w ps → All P (items_of m) → All P ps
  left_among P w ps goes all =
      let f = item_position s m.buckets.target in
      let left = places_from m.buckets.controls m.buckets.cap w.next in
      let full = left_full m.buckets.controls m.buckets.cap w.next (subst (λ n. w.next ≤ n) goes.capacity goes.within) in
      subst (All P) (sym goes.left) (All-map P f left (λ i d less. let q = full i d less in All-contains P (items_of m) _ all (full_among s m.buckets _ q.0 q.1)))

  pub first_item : (P : ℕ → Type 0) (w : PlacesLeft) (ps rest : List ℕ) (at : ℕ) → GoesOn m w ps → ps ≡ at ∷ rest → All P (items_of m) → P at
  first_item P w ps rest at goes is all = All-head P at rest (subst (All P) is (left_among P w ps goes all))

  none_left : (w : PlacesLeft) (ps : List ℕ) → GoesOn m w ps → m.buckets ≡ no_buckets → w.left ≡ 0
  none_left w ps goes none =
      let cap : m.buckets.cap ≡ 0 = ap (λ b. b.cap) none in
      let left = places_passed m.buckets.controls m.buckets.cap w.next (omega (arith, cap)) in
      goes.count ∙ ap length goes.left ∙ ap (λ l. length (map (item_position s m.buckets.target) l)) left

  -- a table of which items are left has places, after any write over its items
  pub has_places : (bytes : List ℕ) (w : PlacesLeft) (ps : List ℕ) → GoesOn m w ps → (w.left ≡ 0 → ⊥) → IsWritten m bytes → HasPlaces bytes s m.pos m.buckets
  has_places bytes w ps goes some written =
      let t = table_stays s knows m.bytes bytes m.pos m.buckets m.has m.places written in
      table_some (λ zero. some (none_left w ps goes (table_none zero t))) t

  -- and its controls are read where the walk has them
  pub read_again : (bytes : List ℕ) (w : PlacesLeft) (ps : List ℕ) → GoesOn m w ps → HasPlaces bytes s m.pos m.buckets → IsReadAs m.buckets w.target w.capacity (length bytes)
  read_again bytes w ps goes p =
      let count : control_count w.capacity ≡ control_count m.buckets.cap = ap control_count goes.capacity in
      record { target = goes.target; cap = goes.capacity; within = omega (arith, goes.target, count, p.within) }

  -- one place is passed
  pub goes_on : (w : PlacesLeft) (ps controls : List ℕ) (p next : ℕ) → GoesOn m w ps → controls ≡ m.buckets.controls → next ≤ w.capacity
      → places_from controls w.capacity w.next ≡ p ∷ places_from controls w.capacity next
      → (rest : List ℕ) × (ps ≡ item_position s w.target p ∷ rest) × GoesOn m (record { target = w.target; capacity = w.capacity; next = next; left = w.left - 1 }) rest
  goes_on w ps controls p next goes same within gives =
      let f = item_position s m.buckets.target in
      let rest = map f (places_from m.buckets.controls m.buckets.cap next) in
      let gives_here = subst (λ n. places_from m.buckets.controls n w.next ≡ p ∷ places_from m.buckets.controls n next) goes.capacity (subst (λ cs. places_from cs w.capacity w.next ≡ p ∷ places_from cs w.capacity next) same gives) in
      let is : ps ≡ item_position s w.target p ∷ rest = goes.left ∙ ap (map f) gives_here ∙ ap (λ t. item_position s t p ∷ rest) (sym goes.target) in
      (rest, is, record { target = goes.target; capacity = goes.capacity; few = goes.few; within = within; left = refl; count = omega (arith, goes.count, ap length is) })

  -- none is, where none is passed
  pub none_passed : (w : PlacesLeft) (ps controls : List ℕ) → GoesOn m w ps → controls ≡ m.buckets.controls → places_from controls w.capacity w.next ≡ [] → w.left ≡ 0
  none_passed w ps controls goes same none =
      let none_here = subst (λ n. places_from m.buckets.controls n w.next ≡ []) goes.capacity (subst (λ cs. places_from cs w.capacity w.next ≡ []) same none) in
      goes.count ∙ ap length goes.left ∙ ap (λ l. length (map (item_position s m.buckets.target) l)) none_here

  -- what holds of each full place of the table
  each_item : (P Q : ℕ → Type 0) → ((p : ℕ) → p < m.buckets.cap → Q (item_position s m.buckets.target p) → P (item_position s m.buckets.target p)) → All Q (items_of m) → All P (items_of m)
  each_item P Q says qs i d less =
      let w = all_items s m.buckets (λ at. (p : ℕ) × (p < m.buckets.cap) × (at ≡ item_position s m.buckets.target p)) (λ p l. (p, l, refl)) i d less in
      subst P (sym w.2) (says w.0 w.1 (subst Q w.2 (qs i d less)))

  -- the next item is written over
  pub item_written : (bytes own : List ℕ) (w : PlacesLeft) (ps rest : List ℕ) (at : ℕ) → GoesOn m w ps → ps ≡ at ∷ rest → length own ≤ size_of s → at + length own ≤ length bytes
      → IsWritten m bytes → IsWritten m (overwrite bytes at own)
  item_written bytes own w ps rest at goes is few fits written = piece_written (size_of s) (items_of m) at m.bytes bytes own (λ P all. first_item P w ps rest at goes is all) few fits written

  -- the next item is lent to a call
  pub item_visited : {T : Type 0} {calls : MutBor (OwnSeal T) → MutBor (OwnSeal T) → Type 0} (bytes out : List ℕ) (size : ℕ) (w : PlacesLeft) (ps rest : List ℕ) (at : ℕ) → GoesOn m w ps → ps ≡ at ∷ rest
      → size ≤ size_of s → at + size ≤ length bytes → LeavesOwn size bytes at calls out → IsWritten m bytes → IsWritten m out
  item_visited bytes out size w ps rest at goes is small fits h written =
      subst (IsWritten m) (sym h.is) (item_written bytes h.own w ps rest at goes is (omega (arith, h.as_long, small)) (omega (arith, h.as_long, fits)) written)

  -- the own bytes of every item lie in the buffer
  pub items_within : All (λ at. at + size_of s ≤ length m.bytes) (items_of m)
  items_within i d less = (((table_stands s knows m.bytes m.pos m.buckets m.has m.places).below) i d less).held.own_within

pub room_of : {bytes : List ℕ} {s : Shape} {pos : ℕ} {b : Buckets} → IsTableAt bytes s pos b → b.cap * size_of s ≤ b.target
room_of {s = s} {b = b} (has_none none is) = subst (λ x. x.cap * size_of s ≤ x.target) (sym is) (omega arith)
room_of (has_buckets n d e f g h room j k) = room

-- ---- a map

unmapped : (P : ℕ → Type 0) (f : ℕ → ℕ) (xs : List ℕ) → All P (map f xs) → All (λ x. P (f x)) xs
unmapped P f [] all = All-nil (λ x. P (f x))
unmapped P f (x ∷ xs) all = let each = first_of P (f x) (map f xs) (f x ∷ map f xs) refl all in All-cons (λ y. P (f y)) x xs each.0 (unmapped P f xs each.1)

module _ {k v : Shape} {knows others : Names → Type 0} (m : BegunMap k v knows others) where
  -- after any write over its values, its keys are kept
  pub keys_kept : (bytes : List ℕ) → HasValuesWritten m bytes → All (λ at. IsKept k knows m.bytes (take (field_position k no_shapes v at) bytes) at) (items_of m)
  keys_kept bytes written =
      let low = m.buckets.target - m.buckets.cap * size_of (tuple2 k v) in
      each_item m (λ at. IsKept k knows m.bytes (take (field_position k no_shapes v at) bytes) at) (HasBelow (tuple2 k v) (both knows others) m.bytes low)
      (λ p below h. entry_kept k v knows others m.bytes bytes m.buckets (room_of m.places) written p below h)
      (table_stands (tuple2 k v) (both knows others) m.bytes m.pos m.buckets m.has m.places).below

  -- and the own bytes of its values lie in the buffer
  pub values_within : All (λ at. field_position k no_shapes v at + size_of v ≤ length m.bytes) (items_of m)
  values_within i d less = let within = items_within m i d less in let ends = value_ends k v in omega (arith, within, ends)

  -- the value of the next entry lies after its key, by sizes and offsets that saturate at `usize::MAX`
  pub value_stands : (bytes : List ℕ) (w : PlacesLeft) (ps rest : List ℕ) (at size align behind : ℕ) → GoesOn m w ps → ps ≡ at ∷ rest → HasValuesWritten m bytes → length bytes < 2 ^ 63
      → size ≡ min (size_of k) (2 ^ 64 - 1) → align ≡ align_of v → behind ≡ min (align_up size align) (2 ^ 64 - 1)
      → (at + behind ≡ field_position k no_shapes v at) × (at + behind + size_of v ≤ length bytes)
  value_stands bytes w ps rest at size align behind goes is written short sized aligned filled =
      let same_length = written.same_length in
      let within = first_item m (λ p. p + size_of (tuple2 k v) ≤ length m.bytes) w ps rest at goes is (items_within m) in
      let value = first_item m (λ p. field_position k no_shapes v p + size_of v ≤ length m.bytes) w ps rest at goes is values_within in
      let stands = field_stands k v no_shapes (more_shapes v no_shapes) (size_of k) size align behind refl (omega (arith, within, same_length, short)) sized aligned filled in
      (ap (λ n. at + n) stands.0, omega (arith, stands.0, value, same_length))

  -- the value of the next entry is written over
  pub value_written : (bytes own : List ℕ) (w : PlacesLeft) (ps rest : List ℕ) (entry at : ℕ) → GoesOn m w ps → ps ≡ entry ∷ rest → at ≡ field_position k no_shapes v entry
      → length own ≤ size_of v → at + length own ≤ length bytes → HasValuesWritten m bytes → HasValuesWritten m (overwrite bytes at own)
  value_written bytes own w ps rest entry at goes is stands few fits written =
      let f = field_position k no_shapes v in
      piece_written (size_of v) (map f (items_of m)) at m.bytes bytes own
      (λ P all. subst P (sym stands) (first_item m (λ p. P (f p)) w ps rest entry goes is (unmapped P f (items_of m) all)))
      few fits written

  -- the value of the next entry is lent to a call
  pub value_visited : {T : Type 0} {calls : MutBor (OwnSeal T) → MutBor (OwnSeal T) → Type 0} (bytes out : List ℕ) (size : ℕ) (w : PlacesLeft) (ps rest : List ℕ) (entry at : ℕ) → GoesOn m w ps → ps ≡ entry ∷ rest
      → at ≡ field_position k no_shapes v entry → size ≤ size_of v → at + size ≤ length bytes → LeavesOwn size bytes at calls out → HasValuesWritten m bytes → HasValuesWritten m out
  value_visited bytes out size w ps rest entry at goes is stands small fits h written =
      subst (HasValuesWritten m) (sym h.is) (value_written bytes h.own w ps rest entry at goes is stands (omega (arith, h.as_long, small)) (omega (arith, h.as_long, fits)) written)
