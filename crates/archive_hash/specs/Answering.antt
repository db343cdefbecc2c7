-- What an archived map returns for the entries that it was written of.
use Rattle.std.specs.Prelude.{true, ◌≡◌, ℕ, List, length, Option, None, MatchOption, IsSome}
use Rattle.std.specs.Option.{IsSomeAnd}
use Rattle.std.specs.List.{AllZip, find}
use Rattle.std.specs.List.Sorted.{IsPermutation}
use Rattle.std.specs.Ordering.{is_eq}
use Rattle.std.specs.declared.cmp.Ordering.{Ordering}
use Rattle.archive_shape_layout.specs.Shape.{Shape}
use Rattle.archive_shape_layout.specs.Shape.Shape.{table}
use Rattle.archive_shape_layout.specs.Shape.Shapes.{no_shapes}
use Rattle.archive_shape_layout.specs.Content.{Names}
use Rattle.archive_shape_layout.specs.Holds.{Region, Visit, root_position}
use Rattle.archive_shape.specs.Key.{HeldAt}
use Rattle.archive_forms_values.specs.Tuples.{tuple2}
use Rattle.archive_forms_values.specs.Fields.{field_position}
use Rattle.archive_forms_values.specs.Parts.{both}
use Rattle.archive_shape_canonical.specs.Settled.{Fit}
use Rattle.archive_shape_canonical.specs.Sharing.{erased}
use Rattle.archive_shape_canonical.specs.Canonical.{CanonicalArchive}
use Rattle.archive_forms_laws.specs.State.{State, Keys}
use Rattle.archive_forms_laws.specs.Spelling.{Spelling, state_after}
use Rattle.archive_forms_laws.specs.Fields.{tuple2_spelling}
use Rattle.archive_hash_probing.specs.Inputs.{input_hash}
use Rattle.archive_hash_maps.specs.Tables.{Buckets, IsTableAt, item_positions}
use Rattle.archive_hash_maps.specs.Places.{LooksUp}
use Rattle.archive_hash_maps.specs.Maps.{KeySays, HasKey}
use Rattle.archive_hash_writing.specs.Tables.{table_spelling}

module _ {A B R P : Type 0} (k v : Shape) (knows others : Names → Type 0) (keys : Spelling A R) (vals : Spelling B P) (bytes : List ℕ) where
  -- maps are written by the hash of what each key feeds to the hasher, at some load factor
  abbrev pub map_spelling : (most places : ℕ) → (A → List (List ℕ)) → Spelling (List (A × B)) (Option ℕ)
  map_spelling most places fed = table_spelling most places (tuple2 k v) (tuple2_spelling k keys v vals) (λ e. input_hash (fed e.0))

  -- bytes are the archive that writing a map of these entries makes, from some position on
  pub record IsWrittenMap (fed : A → List (List ℕ)) (es : List (A × B)) : Type 0 where
    pub most : ℕ
    pub places : ℕ
    pub fit : Fit
    pub binds : fit.binds ≡ true
    pub names : Names
    pub given : Keys
    pub start : ℕ
    pub state : State
    pub regions : List Region
    pub visits : List Visit
    pub known : both knows others names
    pub suits : (map_spelling most places fed).suits fit given es
    pub plain : erased ((map_spelling most places fed).value es state) ≡ (map_spelling most places fed).plain es
    pub archive :
        CanonicalArchive fit names bytes start (root_position (length bytes) (table (tuple2 k v))) (table (tuple2 k v)) ((map_spelling most places fed).value es state) regions visits

  -- an entry lies at a position
  pub record HasEntry (at : ℕ) (e : A × B) : Type 0 where
    pub state : State
    pub key_held : HeldAt k knows bytes at (keys.value e.0 state)
    pub value_held : HeldAt v others bytes (field_position k no_shapes v at) (vals.value e.1 (state_after keys e.0 state))

  module _ {Q : Type 0} (key : A → Q) (order : Q → Q → Ordering) where
    -- the first entry whose key equals a query
    abbrev pub first_with : Q → List (A × B) → Option (A × B)
    first_with query es = find (λ e. is_eq (order (key e.0) query)) es

    -- what is found is this entry, and nothing if there is none
    abbrev pub FindsFirst : List (A × B) → Q → Option ℕ → Type 0
    FindsFirst es query found = MatchOption (first_with query es) (found ≡ None) (λ e. IsSomeAnd found (λ at. HasEntry at e))

    -- The map at a position has these entries: its items are the entries in some order, a look-up of a key finds the
    -- first entry with the key, and the map has the keys.
    pub record AnswersKeys (hashes : Q → ℕ → Type 0) (key_of : List ℕ → ℕ → Q → Type 0) (pos : ℕ) (es : List (A × B)) : Type 0 where
      pub buckets : Buckets
      pub map : IsTableAt bytes (tuple2 k v) pos buckets
      pub walked : List (A × B)
      pub permuted : IsPermutation es walked
      pub walks : AllZip HasEntry (item_positions (tuple2 k v) buckets) walked
      pub finds :
          (query : Q) (hash strides : ℕ) (found : Option ℕ)
          → hashes query hash
          → LooksUp (KeySays key_of order bytes query) (tuple2 k v) buckets hash found strides
          → FindsFirst es query found
      pub has : (query : Q) → IsSome (first_with query es) → HasKey (hashes query) key_of order bytes k v pos query
