-- Look-ups of the entries of a map by their keys: by a query, or by its hash and the caller's comparison. A set is a map
-- of its keys to `()`.
use denote.Ref.{Bor}
use Rattle.std.specs.Prelude.{◌≡◌, ℕ, Bool, List, Option}
use Rattle.std.specs.Option.{is_some}
use Rattle.std.specs.declared.cmp.Ordering.{Ordering}
use Rattle.std.specs.declared.default.Default.{Ghosts as Default}
use Rattle.std.specs.declared.hash.Hasher.{Ghosts as Hasher}
use Rattle.archive_shape_layout.specs.Shape.{Shape}
use Rattle.archive_shape_layout.specs.Shape.Shape.{tuple}
use Rattle.archive_shape_layout.specs.Shape.Shapes.{no_shapes}
use Rattle.archive_shape_layout.specs.Content.{Names}
use Rattle.archive_shape.specs.declared.references.refs.Ref.{Ref}
use Rattle.archive_forms_laws.specs.Orders.{Equality, Hashed}
use Rattle.archive_forms_values.specs.Tuples.{tuple2}
use Rattle.archive_hash_probing.specs.Inputs.{input_hash}
use Rattle.archive_hash_maps.specs.Tables.{Buckets, IsTableAt}
use Rattle.archive_hash_maps.specs.Equal.{KeyHashesTo, EqualSays}
use Rattle.archive_hash_maps.specs.Maps.{IsMap, HashesTo, KeySays, HasKey, LooksUpKey, key_at, value_at, entry_at}
use Rattle.archive_hash_maps.specs.Sets.{IsSet}

module _ {H : Type 0} (default : Default H) (hasher : Hasher H) where
  -- an input hashes to this
  abbrev pub Hashes : (input : List (List ℕ)) (hash : ℕ) → Type 0
  Hashes input hash = HashesTo default.is_default hasher.write hasher.finish input hash

  -- each input has one hash, by which tables are written
  abbrev pub HashesAsWritten : Type 0
  HashesAsWritten = (input : List (List ℕ)) (hash : ℕ) → Hashes input hash → hash ≡ input_hash input

  -- an input has one hash
  abbrev pub HasOneHash : (input : List (List ℕ)) → Type 0
  HasOneHash input = (hash other : ℕ) → Hashes input hash → Hashes input other → hash ≡ other

module _ {H Q : Type 0} (default : Default H) (hasher : Hasher H) (hash_input : Q → List (List ℕ)) where
  -- ---- by a query

  module _ (key_of : List ℕ → ℕ → Q → Type 0) (order : Q → Q → Ordering) where
    module _ (k v : Shape) where
      -- the entry of a query is looked up in a map with these places: `item` is what is found of the entry at a position
      abbrev pub LooksUpQuery : {A : Type 0} (bytes : List ℕ) (query : Q) (item : ℕ → A) (b : Buckets) (found : Option A)
          → Type 0
      LooksUpQuery bytes query item b found =
          LooksUpKey (Hashes default hasher (hash_input query)) (KeySays key_of order bytes query) item k v b found

      -- the position of its entry is found in the map at a position
      abbrev pub FindsKey : (bytes : List ℕ) (pos : ℕ) (query : Q) (found : Option ℕ) → Type 0
      FindsKey bytes pos query found =
          (b : Buckets) → IsTableAt bytes (tuple2 k v) pos b → LooksUpQuery bytes query (λ at. at) b found

      module _ {M : Type 0} (this : Ref M) (query : Q) where
        -- its value is found
        abbrev pub GetsValue : {V : Type 0} (found : Option (Ref V)) → Type 0
        GetsValue found = (b : Buckets) → IsMap k v this b → LooksUpQuery this.bytes.now query (value_at this.bytes k v) b found

        -- its key and its value are found
        abbrev pub GetsEntry : {K V : Type 0} (found : Option (Ref K × Ref V)) → Type 0
        GetsEntry found = (b : Buckets) → IsMap k v this b → LooksUpQuery this.bytes.now query (entry_at this.bytes k v) b found

        -- the Boolean is whether the map has an entry of the query
        abbrev pub SaysKey : (result : Bool) → Type 0
        SaysKey result =
            (b : Buckets) → IsMap k v this b
            → (found : Option ℕ) × (result ≡ is_some found) × LooksUpQuery this.bytes.now query (λ at. at) b found

        -- the map has one
        abbrev pub HasQuery : Type 0
        HasQuery = HasKey (Hashes default hasher (hash_input query)) key_of order this.bytes.now k v this.pos query

    module _ {M : Type 0} (k : Shape) (this : Ref M) (query : Q) where
      -- the key of a query is found in a set
      abbrev pub GetsElement : {K : Type 0} (found : Option (Ref K)) → Type 0
      GetsElement found =
          (b : Buckets) → IsSet k this b
          → LooksUpQuery k (tuple no_shapes) this.bytes.now query (key_at this.bytes) b found

      -- the Boolean is whether the set has one
      abbrev pub SaysElement : (result : Bool) → Type 0
      SaysElement result =
          (b : Buckets) → IsSet k this b
          → (found : Option ℕ) × (result ≡ is_some found)
          × LooksUpQuery k (tuple no_shapes) this.bytes.now query (λ at. at) b found

  -- ---- by the caller's comparison

  module _ {K : Type 0} (says : Bor Q → Ref K → Bool → Type 0) (k v : Shape) where
    -- an entry of the query's hash is looked up, by a comparison that sees the keys in these bytes
    abbrev pub LooksUpBy : {A : Type 0} (bytes : Bor (List ℕ)) (query : Bor Q) (item : ℕ → A) (b : Buckets)
        (found : Option A) → Type 0
    LooksUpBy bytes query item b found =
        LooksUpKey (Hashes default hasher (hash_input query.now)) (λ at x. says query (key_at bytes at) x) item k v b found

    -- the position of the entry is found in the map at a position
    abbrev pub FindsKeyBy : (bytes : Bor (List ℕ)) (pos : ℕ) (query : Bor Q) (found : Option ℕ) → Type 0
    FindsKeyBy bytes pos query found =
        (b : Buckets) → IsTableAt bytes.now (tuple2 k v) pos b → LooksUpBy bytes query (λ at. at) b found

    module _ {M : Type 0} (this : Ref M) (query : Bor Q) where
      -- the value is found
      abbrev pub GetsValueBy : {V : Type 0} (found : Option (Ref V)) → Type 0
      GetsValueBy found = (b : Buckets) → IsMap k v this b → LooksUpBy this.bytes query (value_at this.bytes k v) b found

      -- the key and the value are found
      abbrev pub GetsEntryBy : {V : Type 0} (found : Option (Ref K × Ref V)) → Type 0
      GetsEntryBy found = (b : Buckets) → IsMap k v this b → LooksUpBy this.bytes query (entry_at this.bytes k v) b found

-- ---- by an archived key

-- the position of the entry whose key is equal to an archived key is found in the map at a position
abbrev pub FindsEqual : {H K : Type 0} (default : Default H) (hasher : Hasher H) (hashed : Hashed) (equal : Equality)
    (k v : Shape) (knows : Names → Type 0) (bytes : List ℕ) (pos : ℕ) (key : Ref K) (found : Option ℕ) → Type 0
FindsEqual default hasher hashed equal k v knows bytes pos key found =
    (b : Buckets) → IsTableAt bytes (tuple2 k v) pos b
    → LooksUpKey (KeyHashesTo default.is_default hasher.write hasher.finish k knows hashed key)
    (EqualSays k knows equal bytes key) (λ at. at) k v b found
