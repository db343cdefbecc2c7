-- Comparisons of maps and sets, with one another and with those of std. The members of the types of keys and values are
-- `k` and `v`.
use Rattle.std.specs.Prelude.{◌≡◌, ℕ, ◌⊎◌, Bool, true, false, List, length, map, All, Contains}
use Rattle.std.specs.declared.cmp.Ordering.{Ordering}
use Rattle.std.specs.declared.default.Default.{Ghosts as Default}
use Rattle.std.specs.declared.hash.Hasher.{Ghosts as Hasher}
use Rattle.archive_shape_layout.specs.Shape.{Shape}
use Rattle.archive_shape.specs.declared.references.refs.Ref.{Ref}
use Rattle.archive_shape.specs.declared.types.portable.Portable.{Ghosts as Portable}
use Rattle.archive_forms_laws.specs.Orders.{Equality, Hashed}
use Rattle.archive_forms_values.specs.Tuples.{tuple2}
use Rattle.archive_hash_maps.specs.Tables.{Buckets, IsTableAt, full_places, item_positions}
use Rattle.archive_hash_maps.specs.Maps.{IsMap, key_at, entry_at}
use Rattle.archive_hash_maps.specs.Sets.{IsSet, key_positions}
use Rattle.archive_hash_maps.specs.Equal.{KeyHashesTo, HasEqual}
use Rattle.archive_hash_maps.specs.EqualKeys.{HasEqualKey}
use Rattle.archive_hash_maps.specs.StdMaps.{LeadsTo, IsSaid}
use Rattle.archive_hash_maps.specs.Calls.Keys.{Hashes}

-- two collections have n and m elements, and `says x b` holds if b is whether the second has the element x of the first
module _ {A : Type 0} (n m : ℕ) (says : A → Bool → Type 0) (xs : List A) where
  -- they have the same elements
  abbrev pub AreAlike : Type 0
  AreAlike = (n ≡ m) × All (λ x. says x true) xs

  -- they have not
  abbrev pub AreUnlike : Type 0
  AreUnlike = (n ≡ m → ⊥) ⊎ ((x : A) × Contains xs x × says x false)

-- ---- archived maps and sets

module _ {H K : Type 0} (default : Default H) (hasher : Hasher H) (hashed : Hashed) (equal : Equality) (k : Portable K) where
  module _ {V : Type 0} (equal_values : Equality) (v : Portable V) where
    -- the Boolean is whether the map with these places has an equal entry
    abbrev pub SaysEqual : (bytes : List ℕ) (b : Buckets) (entry : Ref K × Ref V) (result : Bool) → Type 0
    SaysEqual bytes b entry result =
        HasEqual (KeyHashesTo default.is_default hasher.write hasher.finish k.shape k.knows hashed)
        k.shape v.shape k.knows v.knows equal equal_values bytes b entry result

    -- it is whether the map at a position has one
    abbrev pub FindsEqualEntry : (bytes : List ℕ) (pos : ℕ) (entry : Ref K × Ref V) (result : Bool) → Type 0
    FindsEqualEntry bytes pos entry result =
        (b : Buckets) → IsTableAt bytes (tuple2 k.shape v.shape) pos b → SaysEqual bytes b entry result

    module _ {M N : Type 0} (this : Ref M) (other : Ref N) (result : Bool) where
      -- it is true only where two maps are equal
      abbrev pub MapsAlike : Type 0
      MapsAlike =
          (b c : Buckets) → IsMap k.shape v.shape this b → IsMap k.shape v.shape other c → result ≡ true
          → AreAlike (length (full_places b)) (length (full_places c)) (SaysEqual other.bytes.now c)
          (map (entry_at this.bytes k.shape v.shape) (item_positions (tuple2 k.shape v.shape) b))

      -- it is false only where they are not
      abbrev pub MapsUnlike : Type 0
      MapsUnlike =
          (b c : Buckets) → IsMap k.shape v.shape this b → IsMap k.shape v.shape other c → result ≡ false
          → AreUnlike (length (full_places b)) (length (full_places c)) (SaysEqual other.bytes.now c)
          (map (entry_at this.bytes k.shape v.shape) (item_positions (tuple2 k.shape v.shape) b))

  -- the Boolean is whether the set with these places has an equal key
  abbrev pub SaysEqualKey : (bytes : List ℕ) (b : Buckets) (key : Ref K) (result : Bool) → Type 0
  SaysEqualKey bytes b key result =
      HasEqualKey (KeyHashesTo default.is_default hasher.write hasher.finish k.shape k.knows hashed)
      k.shape k.knows equal bytes b key result

  module _ {M N : Type 0} (this : Ref M) (other : Ref N) (result : Bool) where
    -- it is true only where two sets are equal
    abbrev pub SetsAlike : Type 0
    SetsAlike =
        (b c : Buckets) → IsSet k.shape this b → IsSet k.shape other c → result ≡ true
        → AreAlike (length (full_places b)) (length (full_places c)) (SaysEqualKey other.bytes.now c)
        (map (key_at this.bytes) (key_positions k.shape b))

    -- it is false only where they are not
    abbrev pub SetsUnlike : Type 0
    SetsUnlike =
        (b c : Buckets) → IsSet k.shape this b → IsSet k.shape other c → result ≡ false
        → AreUnlike (length (full_places b)) (length (full_places c)) (SaysEqualKey other.bytes.now c)
        (map (key_at this.bytes) (key_positions k.shape b))

-- ---- maps and sets of std, of which these are the elements

module _ {H Q M : Type 0} (default : Default H) (hasher : Hasher H) (hash_input : Q → List (List ℕ))
    (key_of : List ℕ → ℕ → Q → Type 0) (order : Q → Q → Ordering) (k : Shape) where
  module _ {W : Type 0} (value_of : List ℕ → ℕ → W → Type 0) (value_order : W → W → Ordering) (v : Shape) (this : Ref M) where
    -- the Boolean is whether the map with these places has a pair
    abbrev pub SaysPair : (b : Buckets) (pair : Q × W) (result : Bool) → Type 0
    SaysPair b pair result =
        LeadsTo key_of order value_of value_order (λ q. Hashes default hasher (hash_input q)) this.bytes.now k v b pair result

    -- it is whether the map that a reference leads to has the pair
    abbrev pub FindsPair : (pair : Q × W) (result : Bool) → Type 0
    FindsPair pair result = (b : Buckets) → IsMap k v this b → SaysPair b pair result

    -- it is true only where both maps have the same pairs
    abbrev pub HasAllPairs : (pairs : List (Q × W)) (result : Bool) → Type 0
    HasAllPairs pairs result =
        (b : Buckets) → IsMap k v this b → result ≡ true
        → AreAlike (length (full_places b)) (length pairs) (SaysPair b) pairs

    -- it is false only where they have not
    abbrev pub LacksPair : (pairs : List (Q × W)) (result : Bool) → Type 0
    LacksPair pairs result =
        (b : Buckets) → IsMap k v this b → result ≡ false
        → AreUnlike (length (full_places b)) (length pairs) (SaysPair b) pairs

  module _ (this : Ref M) (keys : List Q) (result : Bool) where
    -- the Boolean is whether the set with these places has a key
    abbrev pub SaysStdKey : (b : Buckets) (key : Q) (x : Bool) → Type 0
    SaysStdKey b key x = IsSaid key_of order (λ q. Hashes default hasher (hash_input q)) this.bytes.now k b key x

    -- it is true only where both sets have the same keys
    abbrev pub HasAllKeys : Type 0
    HasAllKeys =
        (b : Buckets) → IsSet k this b → result ≡ true
        → AreAlike (length (full_places b)) (length keys) (SaysStdKey b) keys

    -- it is false only where they have not
    abbrev pub LacksKey : Type 0
    LacksKey =
        (b : Buckets) → IsSet k this b → result ≡ false
        → AreUnlike (length (full_places b)) (length keys) (SaysStdKey b) keys
