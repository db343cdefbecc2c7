-- Keys as entries of a map to `()`.
use Rattle.std.proofs.Common.{◌≡◌, List, [], ◌∷◌, refl, ap, ◌∙◌}
use Rattle.std.specs.declared.cmp.Ordering.{Ordering}
use Rattle.std.specs.declared.cmp.Ordering.TheVariants.{Less, Equal, Greater}
use Rattle.std.specs.Ordering.{match_ordering}
use Rattle.std.specs.BTreeMap.{insert_entry}
use Rattle.std.specs.BTreeSet.{insert_key}
use Rattle.archive_btree.specs.Owned.{key_entries}

by_order : {A : Type 0} (order : Ordering) (less same more : List A) (other : List (A × Unit {0})) → key_entries more ≡ other
    → key_entries (match_ordering order less same more) ≡ match_ordering order (key_entries less) (key_entries same) other
by_order Less less same more other e = refl
by_order Equal less same more other e = refl
by_order Greater less same more other e = e

-- a key that is inserted is the entry that is
pub inserted_key : {A : Type 0} (cmp : A → A → Ordering) (ks : List A) (k : A) → key_entries (insert_key cmp ks k) ≡ insert_entry cmp (key_entries ks) k (tt {0})
inserted_key cmp [] k = refl
inserted_key cmp (x ∷ xs) k = by_order (cmp k x) (k ∷ x ∷ xs) (x ∷ xs) (x ∷ insert_key cmp xs k) _ (ap (λ es. (x, tt {0}) ∷ es) (inserted_key cmp xs k))

-- keys that have no entries are none
pub no_keys : {A : Type 0} (ks : List A) → key_entries ks ≡ [] → ks ≡ []
no_keys [] e = refl
no_keys (k ∷ ks) e = absurd (cc)
