-- The items of a table that a look-up may compare.
use denote.Ref.{Bor}
use Rattle.std.proofs.Common.{◌≡◌, ℕ, zero, suc, ◌+◌, ◌*◌, ◌^◌, ◌-◌, ◌<◌, ◌≤◌, ◌==◌, min, Bool, true, false, cond, nat_lt, List, [], ◌∷◌, map, filter, slice_index, Option, Some, None, Contains, IfSome, All, refl, ap, sym, ◌∙◌, subst, arith, eqb-true, eq-eqb, lt-ltb, ltb-true, mul-le-mul_right}
use Rattle.std.specs.List.{range_with_len, list_any, flat_map}
use Rattle.std.proofs.lemmas.List.Elements.{Contains-append_right, All-nil, All-cons, All-contains}
use Rattle.archive_shape_layout.specs.Shape.{Shape, size_of}
use Rattle.archive_shape_layout.specs.Shape.Shape.{table}
use Rattle.archive_shape_layout.specs.Value.{Values}
use Rattle.archive_shape_layout.specs.Value.Values.{no_values, more_values}
use Rattle.archive_shape_layout.specs.Content.{Names, members}
use Rattle.archive_shape.specs.declared.references.refs.Ref.{Ref}
use Rattle.archive_forms_values.specs.Parts.{HasValue}
use Rattle.archive_shape_canonical.specs.Strides.{strides, strides_from, stop, least_power, places_shown}
use Rattle.archive_shape_canonical.specs.Reach.{Reaches, reach, searched}
use Rattle.archive_hash_maps.specs.Tables.{Buckets, no_buckets, item_position, item_positions, IsTableAt, AreItemsAt}
use Rattle.archive_hash_maps.specs.Places.{item_at, FindsAccepted}
use Rattle.archive_hash_maps.proofs.Read.{one_table}
use Rattle.archive_hash_maps.proofs.Roots.{HasPlaces, places_of_value}

later_among : (b : Bool) (f : ℕ → ℕ) (i p : ℕ) (ps : List ℕ) → Contains (map f ps) (f p) → Contains (map f (cond b (i ∷ ps) ps)) (f p)
later_among true f i p ps h = Contains-append_right (f i ∷ []) (map f ps) (f p) h
later_among false f i p ps h = h

first_among : (b : Bool) (f : ℕ → ℕ) (i : ℕ) (ps : List ℕ) → b ≡ true → Contains (map f (cond b (i ∷ ps) ps)) (f i)
first_among true f i ps e = (0, omega arith, refl)
first_among false f i ps e = absurd cc

item_among : (f : ℕ → ℕ) (g : ℕ → Bool) (n i p : ℕ) → i ≤ p → p < i + n → g p ≡ true → Contains (map f (filter g (range_with_len i n))) (f p)
item_among f g zero i p from below passes = absurd (omega arith)
item_among f g (suc n) i p from below passes = by_place (p == i) refl (λ next. item_among f g n (i + 1) p next (omega arith) passes)
  where
    by_place : (b : Bool) → (p == i) ≡ b → (i + 1 ≤ p → Contains (map f (filter g (range_with_len (i + 1) n))) (f p)) → Contains (map f (filter g (range_with_len i (suc n)))) (f p)
    by_place true is later =
        let same : p ≡ i = eqb-true p i is in
        let here : g i ≡ true = subst (λ q. g q ≡ true) same passes in
        subst (λ q. Contains (map f (filter g (range_with_len i (suc n)))) (f q)) (sym same) (first_among (g i) f i (filter g (range_with_len (i + 1) n)) here)
    by_place false is later =
        let other : p ≡ i → ⊥ = λ e. let t = eq-eqb p i e in absurd cc in
        later_among (g i) f i p (filter g (range_with_len (i + 1) n)) (later (further other))
      where
        further : (p ≡ i → ⊥) → i + 1 ≤ p
        further other = omega (arith, other)

module _ (s : Shape) (b : Buckets) (p : ℕ) where
  -- the item of a full place is one of the table's
  pub full_among : p < b.cap → slice_index b.controls p < 128 → Contains (item_positions s b) (item_position s b.target p)
  full_among below full = item_among (item_position s b.target) (λ q. nat_lt (slice_index b.controls q) 128) b.cap 0 p (omega arith) (omega (arith, below)) (lt-ltb _ _ full)

  -- it lies below the controls
  pub item_room : {bytes : List ℕ} {pos : ℕ} → HasPlaces bytes s pos b → p < b.cap → (p + 1) * size_of s ≤ b.target
  item_room places below = let up : (p + 1) * size_of s ≤ b.cap * size_of s = mul-le-mul_right (size_of s) (omega (arith, below)) in let room = places.room in omega (arith, up, room)

-- what holds of the place that is found
pub some_item : (P : ℕ → Type 0) (o : Option ℕ) (p : ℕ) → IfSome o P → o ≡ Some p → P p
some_item P None p h e = absurd cc
some_item P (Some q) p h e = let same : q ≡ p = cc in subst P same h

none_below : (xs : List ℕ) → filter (λ p. nat_lt p 0) xs ≡ []
none_below [] = refl
none_below (x ∷ xs) = by_test (nat_lt x 0) refl (none_below xs)
  where
    by_test : (b : Bool) → nat_lt x 0 ≡ b → filter (λ p. nat_lt p 0) xs ≡ [] → cond b (x ∷ filter (λ p. nat_lt p 0) xs) (filter (λ p. nat_lt p 0) xs) ≡ []
    by_test true is e = absurd (let less = ltb-true x 0 is in omega (arith, less))
    by_test false is e = e

pub no_strides : (hash : ℕ) → strides hash 0 ≡ []
unfolding strides strides_from
no_strides hash = none_below (map (stop hash 0) (range_with_len 0 (least_power 0)))

pub reaches_none : (controls : List ℕ) (hash place : ℕ) → Reaches controls hash 0 place → ⊥
unfolding reach
reaches_none controls hash place reached =
    let none : list_any (λ p. place == p) (flat_map (places_shown 0) (searched controls [])) ≡ true = subst (λ ps. list_any (λ p. place == p) (flat_map (places_shown 0) (searched controls ps)) ≡ true) (no_strides hash) reached in
    absurd cc

-- of a table without places no place is reached
pub none_reached : (b : Buckets) (hash place : ℕ) → b ≡ no_buckets → Reaches b.controls hash b.cap place → ⊥
none_reached b hash place is reached = reaches_none [] hash place (subst (λ x. Reaches x.controls hash x.cap place) is reached)

-- ---- items by references

pub item_is : {T : Type 0} (bytes : Bor (List ℕ)) (at : ℕ) (r : Ref T) → r.bytes ≡ bytes → r.pos ≡ at → r ≡ item_at bytes at
item_is {T} bytes at r e f =
    let first : r ≡ item_at bytes r.pos = ap (λ b. item_at {T = T} b r.pos) e in
    first ∙ ap (λ n. item_at {T = T} bytes n) f

items_hold : (s : Shape) (knows : Names → Type 0) (bytes : List ℕ) (ps : List ℕ) (ws : Values) → AreItemsAt s knows bytes ps ws → All (HasValue s knows bytes) ps
items_hold s knows bytes [] no_values h = All-nil (HasValue s knows bytes)
items_hold s knows bytes [] (more_values w ws) h = absurd h
items_hold s knows bytes (p ∷ ps) no_values h = absurd h
items_hold s knows bytes (p ∷ ps) (more_values w ws) h = All-cons (HasValue s knows bytes) p ps (record { value = w; held = h.0 }) (items_hold s knows bytes ps ws h.1)

-- the items of a table are there
pub items_there :
    (s : Shape) (knows : Names → Type 0) (bytes : List ℕ) (pos : ℕ) → HasValue (table s) knows bytes pos
    → (b : Buckets) → IsTableAt bytes s pos b → All (HasValue s knows bytes) (item_positions s b)
items_there s knows bytes pos h b is =
    let p = places_of_value h in
    subst (λ x. All (HasValue s knows bytes) (item_positions s x)) (one_table bytes s pos p.buckets b p.table is) (items_hold s knows bytes (item_positions s p.buckets) (members h.value) p.items)

-- what is found is there
pub item_there :
    (s : Shape) (knows : Names → Type 0) (bytes : List ℕ) (pos at : ℕ) (P : ℕ → Bool → Type 0) → HasValue (table s) knows bytes pos
    → ((b : Buckets) → IsTableAt bytes s pos b → FindsAccepted P s b (Some at))
    → HasValue s knows bytes at
item_there s knows bytes pos at P h found =
    let b = places_of_value h in
    let f = found b.buckets b.table in
    All-contains (HasValue s knows bytes) (item_positions s b.buckets) at (items_there s knows bytes pos h b.buckets b.table) f.0

-- items of a table with places have the size that their type has
pub size_is : (size stopped cap target : ℕ) → stopped ≡ min size (2 ^ 64 - 1) → 0 < cap → cap * size ≤ target → target < 2 ^ 64 → stopped ≡ size
size_is size stopped cap target is some room fits = let one : 1 * size ≤ cap * size = mul-le-mul_right size (omega (arith, some)) in omega (arith, is, one, room, fits)

-- so is what may be found
pub found_there :
    (s : Shape) (knows : Names → Type 0) (bytes : List ℕ) (pos : ℕ) (P : ℕ → Bool → Type 0) → HasValue (table s) knows bytes pos
    → (o : Option ℕ) → ((b : Buckets) → IsTableAt bytes s pos b → FindsAccepted P s b o)
    → IfSome o (HasValue s knows bytes)
found_there s knows bytes pos P h None found = tt
found_there s knows bytes pos P h (Some at) found = item_there s knows bytes pos at P h found
