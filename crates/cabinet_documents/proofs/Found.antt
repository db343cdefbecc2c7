-- In a table whose keys can be found, each look-up gives its number.
use Rattle.std.proofs.Common.{◌≡◌, ℕ, suc, ◌==◌, Bool, true, false, cond, List, [], ◌∷◌, ◌++◌, slice_index, Option, Some, None, refl, ap, subst, ◌∙◌, arith, eqb-true, eq-eqb, ◌⊎◌, inl, inr, ⊎_elim}
use Rattle.std.specs.List.{find, flat_map, list_any, Contains}
use Rattle.std.proofs.lemmas.Bool.{and_from}
use Rattle.std.specs.Ordering.{is_eq, nat_cmp, ordering_reverse}
use Rattle.std.specs.declared.cmp.Ordering.{Ordering}
use Rattle.std.specs.declared.cmp.Ordering.TheVariants.{Less, Equal, Greater}
use Rattle.std.specs.Cmp.Lexicographic.{slice_cmp, nat_list_cmp_total}
use Rattle.cabinet_documents.specs.Order.{is_same}
use Rattle.cabinet_documents.specs.Table.{Slot, Entry, Table, Findable, entry_of, slot_at, key_reach, tag_of, has_key, answers, found, is_numbered, gives}
use Rattle.cabinet_documents.specs.Audit.{unless, wrong_tag, not_found, tag_faults, search_faults, hashed_faults, kept_faults}
use Rattle.archive_shape_canonical.proofs.CleanTests.{either_true}
use Rattle.archive_shape_layout.proofs.SameShape.{both_right}

-- ---- lists

pub none_of : {X A : Type 0} (f : X → List A) (xs : List X) → ((x : X) → Contains xs x → f x ≡ []) → flat_map f xs ≡ []
none_of f [] h = refl
none_of f (x ∷ xs) h =
    let here : f x ≡ [] = h x (0, omega arith, refl) in
    let later : flat_map f xs ≡ [] = none_of f xs (λ y c. let a = c.1 in h y (suc c.0, omega arith, c.2)) in
    ap (λ l. l ++ flat_map f xs) here ∙ later

is_found : {X : Type 0} (test : X → Bool) (xs : List X) (x y : X) (b : Bool) → test x ≡ b → cond b (Some x) (find test xs) ≡ Some y → (find test xs ≡ Some y → (test y ≡ true) × Contains xs y) → (test y ≡ true) × Contains (x ∷ xs) y
is_found test xs x y true t e ih = let same : x ≡ y = cc in (subst (λ z. test z ≡ true) same t, (0, omega arith, same))
is_found test xs x y false t e ih = let r = ih e in let c = r.1 in let a = c.1 in (r.0, (suc c.0, omega arith, c.2))

-- what is found passes the test and is among them
pub found_passes : {X : Type 0} (test : X → Bool) (xs : List X) (y : X) → find test xs ≡ Some y → (test y ≡ true) × Contains xs y
found_passes test [] y e = absurd (cc)
found_passes test (x ∷ xs) y e = is_found test xs x y (test x) refl e (found_passes test xs y)

pub record Finds {X : Type 0} (test : X → Bool) (xs : List X) : Type 0 where
  pub it : X
  pub is : find test xs ≡ Some it

is_among : {X : Type 0} (test : X → Bool) (xs : List X) (x : X) (b : Bool) → test x ≡ b → (test x ≡ true ⊎ Finds test xs) → Finds test (x ∷ xs)
is_among test xs x true t h = record { it = x; is = ap (λ c. cond c (Some x) (find test xs)) t }
is_among test xs x false t (inl h) = absurd (cc)
is_among test xs x false t (inr h) = record { it = h.it; is = ap (λ c. cond c (Some x) (find test xs)) t ∙ h.is }

-- where one place is among them and passes, something is found
pub finds : (test : ℕ → Bool) (xs : List ℕ) (p : ℕ) → list_any (λ q. p == q) xs ≡ true → test p ≡ true → Finds test xs
finds test [] p e t = absurd (cc)
finds test (x ∷ xs) p e t =
    is_among test xs x (test x) refl
    (⊎_elim
    (λ h. let same = eqb-true p x h in inl (subst (λ z. test z ≡ true) same t))
    (λ h. inr (finds test xs p h t))
    (either_true (p == x) (list_any (λ q. p == q) xs) e))

pub same_self : (n : ℕ) → (n == n) ≡ true
same_self n = eq-eqb n n refl

-- ---- keys

is_level : (r : Ordering) → r ≡ ordering_reverse r → is_eq r ≡ true
is_level Less e = absurd (cc)
is_level Equal e = refl
is_level Greater e = absurd (cc)

pub key_self : (k : List ℕ) → is_same k k ≡ true
key_self k = is_level (slice_cmp nat_cmp k k) (let total = nat_list_cmp_total in total.antisymm k k)

-- ---- tables

number_given : (t : Table) (f : Findable t) (e : Entry) → Contains t.entries e → (p : ℕ) (s : Option Slot) → slot_at t.slots p ≡ s → has_key s e.key ≡ true → is_numbered s e.number ≡ true
number_given t f e c p None w h = absurd (cc)
number_given t f e c p (Some s) w h =
    let there = found_passes (λ (x : Slot). x.place == p) t.slots s w in
    let tags = f.tags s there.1 in
    let same : s.number ≡ e.number = f.distinct (entry_of s) e tags.named c h in
    subst (λ n. (s.number == n) ≡ true) same (same_self s.number)

pub look_up_gives : (t : Table) → Findable t → (e : Entry) → Contains t.entries e → gives t (found t e.key) e.number ≡ true
look_up_gives t f e c =
    let r = f.reached e c in
    let there = found_passes (λ (x : Slot). x.place == r.slot.place) t.slots r.slot r.there in
    let tags = f.tags r.slot there.1 in
    let same_key : r.slot.key ≡ e.key = ap (λ (x : Entry). x.key) r.names in
    let tag : slice_index t.controls r.slot.place ≡ tag_of e.key = tags.tag ∙ ap tag_of same_key in
    let first : (slice_index t.controls r.slot.place == tag_of e.key) ≡ true = subst (λ n. (slice_index t.controls r.slot.place == n) ≡ true) tag (same_self (slice_index t.controls r.slot.place)) in
    let second : has_key (slot_at t.slots r.slot.place) e.key ≡ true = ap (λ o. has_key o e.key) r.there ∙ (ap (λ k. is_same k e.key) same_key ∙ key_self e.key) in
    let passes : answers t e.key r.slot.place ≡ true = and_from (slice_index t.controls r.slot.place == tag_of e.key) (has_key (slot_at t.slots r.slot.place) e.key) first second in
    let it = finds (answers t e.key) (key_reach t e.key) r.slot.place r.reached passes in
    let good = found_passes (answers t e.key) (key_reach t e.key) it.it it.is in
    let holds = both_right (slice_index t.controls it.it == tag_of e.key) (has_key (slot_at t.slots it.it) e.key) good.0 in
    ap (λ o. gives t o e.number) it.is ∙ number_given t f e c it.it (slot_at t.slots it.it) refl holds

tag_is_right : (t : Table) → Findable t → (s : Slot) → Contains t.slots s → tag_faults t s ≡ []
tag_is_right t f s c =
    let tags = f.tags s c in
    let e : (slice_index t.controls s.place == tag_of s.key) ≡ true = subst (λ n. (slice_index t.controls s.place == n) ≡ true) tags.tag (same_self (slice_index t.controls s.place)) in
    ap (λ b. unless b wrong_tag) e

search_is_right : (t : Table) → Findable t → (e : Entry) → Contains t.entries e → search_faults t e ≡ []
search_is_right t f e c = ap (λ b. unless b not_found) (look_up_gives t f e c)

pub no_kept_faults : (t : Table) → Findable t → kept_faults t ≡ []
no_kept_faults t f = ap (λ l. l ++ flat_map (search_faults t) t.entries) (none_of (tag_faults t) t.slots (tag_is_right t f)) ∙ none_of (search_faults t) t.entries (search_is_right t f)

pub no_hashed_faults : (t : Table) → Findable t → hashed_faults t ≡ []
no_hashed_faults t f =
    none_of (λ s. tag_faults t s ++ search_faults t (entry_of s)) t.slots
    (λ s c. let tags = f.tags s c in ap (λ l. l ++ search_faults t (entry_of s)) (tag_is_right t f s c) ∙ search_is_right t f (entry_of s) tags.named)
