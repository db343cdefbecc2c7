-- What holds of states: a later state is consistent too, and what is found under a key.
use Rattle.std.proofs.Common.{◌≡◌, ℕ, inl, inr, ◌+◌, ◌≤◌, ◌<◌, ◌==◌, cond, Bool, true, false, List, [], ◌∷◌, refl, sym, subst, ap, arith, Some, None, eq-eqb, eqb-true}
use Rattle.archive_shape_layout.specs.Holds.{Visit, OpenShared, visited, open_at}
use Rattle.archive_shape_canonical.specs.Sharing.{erased}
use Rattle.archive_forms_laws.specs.State.{State, IsConsistent, Met, advanced, AllBefore, AreNewKeys, AllFrom, AreDescending, AreKeyedBy, Keys, IsNewKey, IsNoneOf, IsOneOf, visits_of, visit_of_key}

pub before_further : (ms : List Met) (n m : ℕ) → n ≤ m → AllBefore n ms → AllBefore m ms
before_further [] n m h b = tt
before_further (x ∷ xs) n m h b = let first = b.0 in (omega arith, before_further xs n m h b.1)

pub from_earlier : (os : List OpenShared) (n m : ℕ) → n ≤ m → AllFrom m os → AllFrom n os
from_earlier [] n m h o = tt
from_earlier (x ∷ xs) n m h o = let first = o.0 in (omega arith, from_earlier xs n m h o.1)

pub consistent_further : (a : State) (n : ℕ) (b : List ℕ) → a.pos ≤ n → a.begun ≡ b → IsConsistent a → IsConsistent (record { pos = n; met = a.met; begun = b })
consistent_further a n b h e k = record { before = before_further a.met a.pos n h k.before; descending = k.descending; own_keys = k.own_keys; new_keys = subst (λ bs. AreNewKeys bs a.met) e k.new_keys }

pub consistent_advanced : (st : State) (n : ℕ) → IsConsistent st → IsConsistent (advanced n st.met st)
consistent_advanced st n h = consistent_further st (st.pos + n) st.begun (omega arith) refl h

-- ---- shared values by their keys

-- a key under which nothing was written is new
pub is_new_key : (ms : List Met) (key : ℕ) → visit_of_key ms key ≡ None → IsNewKey key ms
is_new_key [] key e = tt
is_new_key (m ∷ ms) key e = (λ k. tested_first (m.key == key) (eq-eqb m.key key k) e, tested (m.key == key) e (λ f. is_new_key ms key f))
  where
    tested_first : (b : Bool) → b ≡ true → cond b (Some m.visit) (visit_of_key ms key) ≡ None → ⊥
    tested_first true h f = absurd (cc)
    tested_first false h f = absurd (cc)

    tested : (b : Bool) → cond b (Some m.visit) (visit_of_key ms key) ≡ None → (visit_of_key ms key ≡ None → IsNewKey key ms) → IsNewKey key ms
    tested true f later = absurd (cc)
    tested false f later = later f

-- no shared position is being visited that lies before all that are
pub none_open : (os : List OpenShared) (t high : ℕ) → t < high → AllFrom high os → open_at os t ≡ None
none_open [] t high h o = refl
none_open (x ∷ xs) t high h o = tested (x.pos == t) refl (none_open xs t high h o.1)
  where
    tested : (b : Bool) → (x.pos == t) ≡ b → open_at xs t ≡ None → cond b (Some x) (open_at xs t) ≡ None
    tested true e later = let same = eqb-true x.pos t e in let first = o.0 in absurd (omega (arith, same, first, h))
    tested false e later = later

-- no shared position was visited that lies after all that were
pub none_visited : (ms : List Met) (t n : ℕ) → n ≤ t → AllBefore n ms → visited (visits_of ms) t ≡ None
none_visited [] t n h b = refl
none_visited (m ∷ ms) t n h b = tested (m.visit.pos == t) refl (none_visited ms t n h b.1)
  where
    tested : (c : Bool) → (m.visit.pos == t) ≡ c → visited (visits_of ms) t ≡ None → cond c (Some m.visit) (visited (visits_of ms) t) ≡ None
    tested true e later = let same = eqb-true m.visit.pos t e in let first = b.0 in absurd (omega (arith, same, first, h))
    tested false e later = later

pub visit_before : (ms : List Met) (key n : ℕ) (v : Visit) → visit_of_key ms key ≡ Some v → AllBefore n ms → v.pos < n
visit_before [] key n v e b = absurd (cc)
visit_before (m ∷ ms) key n v e b = tested (m.key == key) e (λ f. visit_before ms key n v f b.1)
  where
    tested : (c : Bool) → cond c (Some m.visit) (visit_of_key ms key) ≡ Some v → (visit_of_key ms key ≡ Some v → v.pos < n) → v.pos < n
    tested true f later = let one : m.visit ≡ v = cc in subst (λ (z : Visit). z.pos < n) one b.0
    tested false f later = later f

-- what was written under a key was visited
pub met_is_visited : (ms : List Met) (key : ℕ) (v : Visit) → visit_of_key ms key ≡ Some v → AreDescending ms → visited (visits_of ms) v.pos ≡ Some v
met_is_visited [] key v e d = absurd (cc)
met_is_visited (m ∷ ms) key v e d = tested (m.key == key) e (λ f. met_is_visited ms key v f d.1) (λ f. visit_before ms key m.visit.pos v f d.0)
  where
    here : (b : Bool) → b ≡ true → m.visit ≡ v → cond b (Some m.visit) (visited (visits_of ms) v.pos) ≡ Some v
    here true f g = ap Some g
    here false f g = absurd (cc)

    there : (b : Bool) → (m.visit.pos == v.pos) ≡ b → v.pos < m.visit.pos → visited (visits_of ms) v.pos ≡ Some v → cond b (Some m.visit) (visited (visits_of ms) v.pos) ≡ Some v
    there true f low later = let same = eqb-true m.visit.pos v.pos f in absurd (omega (arith, same, low))
    there false f low later = later

    tested : (c : Bool) → cond c (Some m.visit) (visit_of_key ms key) ≡ Some v → (visit_of_key ms key ≡ Some v → visited (visits_of ms) v.pos ≡ Some v) → (visit_of_key ms key ≡ Some v → v.pos < m.visit.pos)
        → cond (m.visit.pos == v.pos) (Some m.visit) (visited (visits_of ms) v.pos) ≡ Some v
    tested true f later low = let one : m.visit ≡ v = cc in here (m.visit.pos == v.pos) (eq-eqb m.visit.pos v.pos (ap (λ (z : Visit). z.pos) one)) one
    tested false f later low = there (m.visit.pos == v.pos) refl (low f) (later f)

-- what was written under a key is what it denotes
pub met_is_keyed : (ms : List Met) (key : ℕ) (v : Visit) (keys : Keys) → visit_of_key ms key ≡ Some v → AreKeyedBy keys ms
    → keys key ≡ Some (record { pointee = v.pointee; len = v.len; value = erased v.value })
met_is_keyed [] key v keys e n = absurd (cc)
met_is_keyed (m ∷ ms) key v keys e n = tested (m.key == key) refl e (λ f. met_is_keyed ms key v keys f n.1)
  where
    tested : (c : Bool) → (m.key == key) ≡ c → cond c (Some m.visit) (visit_of_key ms key) ≡ Some v
        → (visit_of_key ms key ≡ Some v → keys key ≡ Some (record { pointee = v.pointee; len = v.len; value = erased v.value })) → keys key ≡ Some (record { pointee = v.pointee; len = v.len; value = erased v.value })
    tested true t f later =
        let one : m.visit ≡ v = cc in
        let P : ℕ → Visit → Type 0 = λ k z. keys k ≡ Some (record { pointee = z.pointee; len = z.len; value = erased z.value }) in
        subst (λ k. P k v) (eqb-true m.key key t) (subst (λ z. P m.key z) one n.0)
    tested false t f later = later f

-- a key that is none of some is not one of them
pub none_or_one : (key : ℕ) (ks : List ℕ) → IsNoneOf key ks → IsOneOf key ks → ⊥
none_or_one key [] c o = o
none_or_one key (k ∷ ks) c (inl e) = c.0 e
none_or_one key (k ∷ ks) c (inr o) = none_or_one key ks c.1 o

pub new_keys_more : (ks : List ℕ) (m : Met) (ms : List Met) → IsNoneOf m.key ks → AreNewKeys ks ms → AreNewKeys ks (m ∷ ms)
new_keys_more [] m ms c a = tt
new_keys_more (k ∷ ks) m ms c a = ((λ e. c.0 (sym e), a.0), new_keys_more ks m ms c.1 a.1)
