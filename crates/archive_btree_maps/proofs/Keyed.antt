-- Sets are compared and hashed as maps of their keys to `()` are.
use Rattle.std.proofs.Common.{◌≡◌, ◌&&◌, List, [], ◌∷◌, ◌++◌, map, drop, refl, ap, sym, append-nil}
use Rattle.std.specs.List.{flat_map}
use Rattle.std.specs.Cmp.{IsEquivalence, on_equiv}
use Rattle.std.specs.Cmp.Lexicographic.{pointwise, lists_equiv}
use Rattle.std.specs.Hash.{Alike, on_Alike, items_Alike}
use Rattle.archive_shape_layout.specs.Value.{Value}
use Rattle.archive_forms_laws.specs.Views.{elements_of}
use Rattle.archive_forms_laws.specs.Orders.{Equality, Hashed, unit_equality, unit_hashed}
use Rattle.archive_forms_comparing.proofs.Ordered.{equal_end}
use Rattle.archive_btree_maps.specs.MapComparing.{pair_equality, map_equality}
use Rattle.archive_btree_maps.specs.Hashing.{pair_hashed, map_hashed}
use Rattle.archive_btree_maps.specs.Keys.{key_in, keys_of}
use Rattle.archive_btree_maps.specs.SetComparing.{set_equality, set_hashed}

equal_pairs : (E : Equality) (xs ys : List Value) → pointwise (pair_equality E unit_equality) xs ys ≡ pointwise E (map key_in xs) (map key_in ys)
equal_pairs E [] [] = refl
equal_pairs E [] (y ∷ ys) = refl
equal_pairs E (x ∷ xs) [] = refl
equal_pairs E (x ∷ xs) (y ∷ ys) = λ i. sym (equal_end (E (key_in x) (key_in y))) i && equal_pairs E xs ys i

pub equal_as_maps : (E : Equality) (v w : Value) → map_equality E unit_equality v w ≡ set_equality E v w
equal_as_maps E v w = equal_pairs E (elements_of v) (elements_of w)

hashed_pairs : (G : Hashed) (xs : List Value) → flat_map (pair_hashed G unit_hashed) xs ≡ flat_map G (map key_in xs)
hashed_pairs G [] = refl
hashed_pairs G (x ∷ xs) = λ i. append-nil (G (key_in x)) i ++ hashed_pairs G xs i

pub hashed_as_maps : (G : Hashed) (v : Value) → map_hashed G unit_hashed v ≡ set_hashed G v
hashed_as_maps G v = hashed_pairs G (elements_of v)

pub sets_equiv : (E : Equality) → IsEquivalence E → IsEquivalence (set_equality E)
sets_equiv E e = on_equiv keys_of (lists_equiv e)

-- the hash of a list of keys, without the length that begins it
pub sets_alike : (E : Equality) (G : Hashed) → Alike E G → Alike (set_equality E) (set_hashed G)
sets_alike E G a = record { fed = λ v w h. ap (drop 1) ((on_Alike keys_of (items_Alike a)).fed v w h) }
