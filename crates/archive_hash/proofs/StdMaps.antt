-- What the contracts of std's maps and sets state about an insertion.
use Rattle.std.proofs.Common.{◌≡◌, ◌∙◌, Bool, true, false, not, cond, ◌||◌, List, [], ◌∷◌, refl, ap, sym, subst, Option, Some, None, Result, Ok, Err}
use Rattle.std.specs.Prelude.{IfOk, OnOk, is_err}
use Rattle.std.specs.HashMap as map
use Rattle.std.specs.HashMap.{HashMap, PutsEntry, get}
use Rattle.std.specs.HashSet as bag
use Rattle.std.specs.HashSet.{HashSet, Updates, contains}
use Rattle.std.specs.List.{list_any}
use Rattle.std.specs.List.Sorted.{IsPermutation}
use Rattle.std.specs.Map.{keys_of, lookup}
use Rattle.std.proofs.lemmas.Map.{keys-set_value}
use Rattle.std.proofs.lemmas.List.Sorted.{IsPermutation-map}
use Rattle.archive_forms.proofs.AlikeParts.{keys_back}
use Rattle.archive_hash.specs.Owned.{key_entries}
use Rattle.archive_hash.proofs.Inserted.{PutsKey}

-- a key and a value were put into entries, where the key had this value before
pub record IsPut {A B : Type 0} (eq : A → A → Bool) (entries after : List (A × B)) (x : A × B) : Type 0 where
  pub old : Option B
  pub is : old ≡ lookup (eq x.0) entries
  pub put : PutsKey (keys_of entries) (keys_of after) x.0 old
  pub leads : (q : A) → lookup (eq q) after ≡ cond (eq x.0 q) (Some x.1) (lookup (eq q) entries)

module _ {A B S : Type 0} (eq : A → A → Bool) (m n : HashMap A B S) (x : A × B) where
  keys_put : (old : Option B) → PutsEntry eq m n x.0 x.1 old → PutsKey (keys_of m.entries) (keys_of n.entries) x.0 old
  keys_put None h = IsPermutation-map (λ (e : A × B). e.0) (x ∷ m.entries) n.entries h
  keys_put (Some y) h = ap keys_of h ∙ keys-set_value (eq x.0) m.entries x.1

  -- an insertion that was not refused
  pub map_put : {E : Type 0} (result : Result (Option B) E) → is_err result ≡ false → IfOk result (λ old. old ≡ get eq m x.0) → IfOk result (PutsEntry eq m n x.0 x.1) → OnOk result (map.Updates eq m n x.0 (Some x.1))
      → IsPut eq m.entries n.entries x
  map_put (Ok old) done is put updates = record { old = old; is = is; put = keys_put old put; leads = updates.0 }
  map_put (Err e) done is put updates = absurd cc

-- ---- sets

module _ {A : Type 0} (eq : A → A → Bool) where
  abbrev unit_of : Bool → Option (Unit {0})
  unit_of true = Some tt
  unit_of false = None

  by_first : (b c : Bool) → cond b (Some (tt {0})) (unit_of c) ≡ unit_of (b || c)
  by_first true c = refl
  by_first false c = refl

  key_looked : (q : A) (ks : List A) → lookup (eq q) (key_entries ks) ≡ unit_of (list_any (eq q) ks)
  key_looked q [] = refl
  key_looked q (k ∷ ks) = ap (cond (eq q k) (Some (tt {0}))) (key_looked q ks) ∙ by_first (eq q k) (list_any (eq q) ks)

  by_equal : (b c : Bool) → unit_of (cond b true c) ≡ cond b (Some (tt {0})) (unit_of c)
  by_equal true c = refl
  by_equal false c = refl

  turned : (b : Bool) → true ≡ not b → b ≡ false
  turned false e = refl
  turned true e = absurd cc

  kept_true : (b : Bool) → false ≡ not b → b ≡ true
  kept_true true e = refl
  kept_true false e = absurd cc

  module _ {S : Type 0} (s n : HashSet A S) (k : A) where
    leads : Updates eq s n k true → (q : A) → lookup (eq q) (key_entries n.keys) ≡ cond (eq k q) (Some (tt {0})) (lookup (eq q) (key_entries s.keys))
    leads h q = key_looked q n.keys ∙ ap unit_of (h.0 q) ∙ by_equal (eq k q) (list_any (eq q) s.keys) ∙ ap (cond (eq k q) (Some (tt {0}))) (sym (key_looked q s.keys))

    -- an insertion of a key that was not refused
    pub key_put : {E : Type 0} (result : Result Bool E) → is_err result ≡ false → IfOk result (λ added. added ≡ not (contains eq s k)) → IfOk result (bag.PutsKey s n k) → OnOk result (Updates eq s n k true)
        → IsPut eq (key_entries s.keys) (key_entries n.keys) (k, tt {0})
    key_put (Ok true) done is put updates = record {
      old = None;
      is = sym (key_looked k s.keys ∙ ap unit_of (turned (contains eq s k) is));
      put = subst (λ l. IsPermutation (k ∷ l) (keys_of (key_entries n.keys))) (sym (keys_back s.keys)) (subst (λ l. IsPermutation (k ∷ s.keys) l) (sym (keys_back n.keys)) put);
      leads = leads updates;
    }
    key_put (Ok false) done is put updates = record {
      old = Some tt;
      is = sym (key_looked k s.keys ∙ ap unit_of (kept_true (contains eq s k) is));
      put = ap (λ l. keys_of (key_entries l)) put;
      leads = leads updates;
    }
    key_put (Err e) done is put updates = absurd cc
