-- In a table in which the audit finds no fault, each key can be found.
use Rattle.std.proofs.Common.{◌≡◌, ℕ, zero, suc, ◌==◌, Bool, true, false, cond, List, [], ◌∷◌, ◌++◌, slice_index, map, Option, Some, None, refl, sym, ap, subst, ◌∙◌, arith, eqb-true}
use Rattle.std.specs.List.{find, flat_map, list_any, Contains}
use Rattle.std.proofs.lemmas.Bool.{and_parts}
use Rattle.archive_shape_canonical.specs.Hash.{text_hash}
use Rattle.archive_shape_canonical.specs.Reach.{Reaches}
use Rattle.cabinet_documents.specs.Order.{is_same}
use Rattle.cabinet_documents.specs.Table.{Slot, Entry, Table, Findable, IsReached, entry_of, slot_at, key_reach, tag_of, has_key, answers, found, is_numbered, gives}
use Rattle.cabinet_documents.specs.Audit.{Unsound, unless, wrong_tag, not_found, tag_faults, search_faults, hashed_faults, kept_faults}
use Rattle.cabinet_documents.proofs.Arranged.{same_keys}
use Rattle.cabinet_documents.proofs.Found.{found_passes}

-- ---- lists

pub no_left : {A : Type 0} (xs ys : List A) → xs ++ ys ≡ [] → xs ≡ []
no_left [] ys e = refl
no_left (x ∷ xs) ys e = absurd (cc)

pub no_right : {A : Type 0} (xs ys : List A) → xs ++ ys ≡ [] → ys ≡ []
no_right [] ys e = e
no_right (x ∷ xs) ys e = absurd (cc)

pub none_each : {X A : Type 0} (f : X → List A) (xs : List X) → flat_map f xs ≡ [] → (x : X) → Contains xs x → f x ≡ []
none_each f [] e x c = let a = c.1 in absurd (omega (arith, a))
none_each f (y ∷ ys) e x (zero, a, is) = subst (λ z. f z ≡ []) is (no_left (f y) (flat_map f ys) e)
none_each f (y ∷ ys) e x (suc n, a, is) = none_each f ys (no_right (f y) (flat_map f ys) e) x (n, omega (arith, a), is)

pub mapped : {X Y : Type 0} (f : X → Y) (xs : List X) (x : X) → Contains xs x → Contains (map f xs) (f x)
mapped f [] x c = let a = c.1 in absurd (omega (arith, a))
mapped f (y ∷ ys) x (zero, a, is) = (0, omega arith, ap f is)
mapped f (y ∷ ys) x (suc n, a, is) = let r = mapped f ys x (n, omega (arith, a), is) in let b = r.1 in (suc r.0, omega (arith, b), r.2)

pub record From {X Y : Type 0} (f : X → Y) (xs : List X) (y : Y) : Type 0 where
  pub it : X
  pub among : Contains xs it
  pub is : f it ≡ y

pub from_map : {X Y : Type 0} (f : X → Y) (xs : List X) (y : Y) → Contains (map f xs) y → From f xs y
from_map f [] y c = let a = c.1 in absurd (omega (arith, a))
from_map f (x ∷ xs) y (zero, a, is) = record { it = x; among = (0, omega arith, refl); is = is }
from_map f (x ∷ xs) y (suc n, a, is) = let r = from_map f xs y (n, omega (arith, a), is) in let c = r.among in let b = c.1 in record { it = r.it; among = (suc c.0, omega (arith, b), c.2); is = r.is }

-- what is found is among them
any_by : (p x y : ℕ) (rest : Option ℕ) (xs : List ℕ) (b : Bool) → cond b (Some x) rest ≡ Some p → (rest ≡ Some p → list_any (λ q. p == q) xs ≡ true) → list_any (λ q. p == q) (x ∷ xs) ≡ true
any_by p x y rest xs true e later = let same : x ≡ p = cc in grind (arith, same)
any_by p x y rest xs false e later = let r = later e in grind (arith, r)

among : (test : ℕ → Bool) (xs : List ℕ) (p : ℕ) → find test xs ≡ Some p → list_any (λ q. p == q) xs ≡ true
among test [] p e = absurd (cc)
among test (x ∷ xs) p e = any_by p x p (find test xs) xs (test x) e (among test xs p)

-- ---- faults

pub no_fault : (b : Bool) (u : Unsound) → unless b u ≡ [] → b ≡ true
no_fault true u e = refl
no_fault false u e = absurd (cc)

module _ (t : Table) where
  -- what the look-up of a key gives
  pub record Given (e : Entry) : Type 0 where
    pub place : ℕ
    pub slot : Slot
    pub looked : found t e.key ≡ Some place
    pub there : slot_at t.slots place ≡ Some slot
    pub number : slot.number ≡ e.number

  numbered : (o : Option Slot) (e : Entry) (p : ℕ) → found t e.key ≡ Some p → slot_at t.slots p ≡ o → is_numbered o e.number ≡ true → Given e
  numbered None e p looked there h = absurd (cc)
  numbered (Some s) e p looked there h = record { place = p; slot = s; looked = looked; there = there; number = eqb-true s.number e.number h }

  pub given : (o : Option ℕ) (e : Entry) → found t e.key ≡ o → gives t o e.number ≡ true → Given e
  given None e looked h = absurd (cc)
  given (Some p) e looked h = numbered (slot_at t.slots p) e p looked refl h

  pub key_there : (o : Option Slot) (s : Slot) (k : List ℕ) → o ≡ Some s → has_key o k ≡ true → s.key ≡ k
  key_there None s k e h = absurd (cc)
  key_there (Some r) s k e h = let same : r ≡ s = cc in subst (λ (x : Slot). x.key ≡ k) same (same_keys r.key k h)

  module _ (slots_name : (s : Slot) → Contains t.slots s → Contains t.entries (entry_of s))
      (tags : (s : Slot) → Contains t.slots s → tag_faults t s ≡ [])
      (looks : (e : Entry) → Contains t.entries e → search_faults t e ≡ []) where
    look : (e : Entry) → Contains t.entries e → Given e
    look e c = given (found t e.key) e refl (no_fault (gives t (found t e.key) e.number) not_found (looks e c))

    reached : (e : Entry) → Contains t.entries e → IsReached t e
    reached e c =
        let g = look e c in
        let p = g.place in
        let test = (found_passes (answers t e.key) (key_reach t e.key) p g.looked).0 in
        let parts = and_parts (slice_index t.controls p == tag_of e.key) (has_key (slot_at t.slots p) e.key) test in
        let key = key_there (slot_at t.slots p) g.slot e.key g.there parts.1 in
        let place : g.slot.place ≡ p = eqb-true g.slot.place p (found_passes (λ (s : Slot). s.place == p) t.slots g.slot g.there).0 in
        record {
          slot = g.slot;
          there = ap (slot_at t.slots) place ∙ g.there;
          names = ap (λ n. record { number = n; key = g.slot.key }) g.number ∙ ap (λ k. record { number = e.number; key = k }) key;
          reached = subst (λ q. Reaches t.controls (text_hash e.key) t.capacity q) (sym place) (among (answers t e.key) (key_reach t e.key) p g.looked);
        }

    one_number : (a b : Entry) → Contains t.entries a → Contains t.entries b → is_same a.key b.key ≡ true → a.number ≡ b.number
    one_number a b c d same =
        let g = look a c in
        let h = look b d in
        let key = same_keys a.key b.key same in
        let places : ◌≡◌ {A = Option ℕ} (Some g.place) (Some h.place) = sym g.looked ∙ ap (found t) key ∙ h.looked in
        let place : g.place ≡ h.place = cc in
        let slots : ◌≡◌ {A = Option Slot} (Some g.slot) (Some h.slot) = sym g.there ∙ ap (slot_at t.slots) place ∙ h.there in
        let slot : g.slot ≡ h.slot = cc in
        sym g.number ∙ ap (λ (s : Slot). s.number) slot ∙ h.number

    pub findable : Findable t
    findable = record {
      tags = λ s c. record { named = slots_name s c; tag = eqb-true (slice_index t.controls s.place) (tag_of s.key) (no_fault (slice_index t.controls s.place == tag_of s.key) wrong_tag (tags s c)) };
      reached = reached;
      distinct = one_number;
    }

  -- where a hashed map's places are its entries
  pub hashed_is_findable : t.entries ≡ map entry_of t.slots → hashed_faults t ≡ [] → Findable t
  hashed_is_findable are none =
      let each = none_each (λ s. tag_faults t s ++ search_faults t (entry_of s)) t.slots none in
      findable
      (λ s c. subst (λ es. Contains es (entry_of s)) (sym are) (mapped entry_of t.slots s c))
      (λ s c. no_left (tag_faults t s) (search_faults t (entry_of s)) (each s c))
      (λ e c.
      let f = from_map entry_of t.slots e (subst (λ es. Contains es e) are c) in
      subst (λ x. search_faults t x ≡ []) f.is (no_right (tag_faults t f.it) (search_faults t (entry_of f.it)) (each f.it f.among)))

  -- where a kept map's places name entries
  pub kept_is_findable : ((s : Slot) → Contains t.slots s → Contains t.entries (entry_of s)) → kept_faults t ≡ [] → Findable t
  kept_is_findable names none =
      findable names
      (none_each (tag_faults t) t.slots (no_left (flat_map (tag_faults t) t.slots) (flat_map (search_faults t) t.entries) none))
      (none_each (search_faults t) t.entries (no_right (flat_map (tag_faults t) t.slots) (flat_map (search_faults t) t.entries) none))
