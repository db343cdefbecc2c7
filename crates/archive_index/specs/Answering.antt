-- What an archived index map returns for the entries that it was written of.
use Rattle.std.specs.Prelude.{true, ◌≡◌, ℕ, ◌<◌, List, length, get_or, Option, None, MatchOption}
use Rattle.std.specs.Option.{IsSomeAnd, option_map}
use Rattle.std.specs.List.{AllZip, position}
use Rattle.std.specs.Ordering.{is_eq}
use Rattle.std.specs.declared.cmp.Ordering.{Ordering}
use Rattle.archive_shape_layout.specs.Bytes.{word_at}
use Rattle.archive_shape_layout.specs.Shape.{Shape}
use Rattle.archive_shape_layout.specs.Shape.Shape.{index_map}
use Rattle.archive_shape_layout.specs.Content.{Names}
use Rattle.archive_shape_layout.specs.Holds.{Region, Visit, root_position}
use Rattle.archive_shape_canonical.specs.Settled.{Fit}
use Rattle.archive_shape_canonical.specs.Sharing.{erased}
use Rattle.archive_shape_canonical.specs.Canonical.{CanonicalArchive}
use Rattle.archive_forms_values.specs.Tuples.{tuple2}
use Rattle.archive_forms_values.specs.Parts.{both}
use Rattle.archive_forms_laws.specs.Sample.{number_shape}
use Rattle.archive_forms_laws.specs.State.{State, Keys}
use Rattle.archive_forms_laws.specs.Spelling.{Spelling}
use Rattle.archive_forms_laws.specs.Fields.{tuple2_spelling}
use Rattle.archive_hash_probing.specs.Inputs.{input_hash}
use Rattle.archive_hash_maps.specs.Places.{LooksUp}
use Rattle.archive_hash_maps.specs.Maps.{KeySays}
use Rattle.archive_hash.specs.Answering.{HasEntry, first_with}
use Rattle.archive_hash_writing.specs.IndexMaps.{index_spelling}
use Rattle.archive_index.specs.Maps.{IndexMap, IsMapAt, entry_position, entry_positions}

module _ {A B R P : Type 0} (k v : Shape) (knows others : Names → Type 0) (keys : Spelling A R) (vals : Spelling B P) (bytes : List ℕ) where
  -- maps are written by the hash of what each key feeds to the hasher, at some load factor
  abbrev pub index_spelled : (most places : ℕ) → (A → List (List ℕ)) → Spelling (List (A × B)) (Option ℕ × Option ℕ)
  index_spelled most places fed = index_spelling most places (tuple2 k v) (tuple2_spelling k keys v vals) (λ e. input_hash (fed e.0))

  -- bytes are the archive that writing an index map of these entries makes, from some position on
  pub record IsWrittenMap (fed : A → List (List ℕ)) (es : List (A × B)) : Type 0 where
    pub most : ℕ
    pub places : ℕ
    pub fit : Fit
    pub binds : fit.binds ≡ true
    pub names : Names
    pub given : Keys
    pub start : ℕ
    pub state : State
    pub regions : List Region
    pub visits : List Visit
    pub known : both knows others names
    pub suits : (index_spelled most places fed).suits fit given es
    pub plain : erased ((index_spelled most places fed).value es state) ≡ (index_spelled most places fed).plain es
    pub archive :
        CanonicalArchive fit names bytes start (root_position (length bytes) (index_map k v)) (index_map k v) ((index_spelled most places fed).value es state) regions visits

  module _ {Q : Type 0} (key : A → Q) (order : Q → Q → Ordering) where
    -- the number of the first entry whose key equals a query
    abbrev pub first_number : Q → List (A × B) → Option ℕ
    first_number query es = position (λ e. is_eq (order (key e.0) query)) es

    -- what is found is this number, where the first entry with the key lies, and nothing if there is none
    abbrev pub FindsNumber : IndexMap → List (A × B) → Q → Option ℕ → Type 0
    FindsNumber m es query found =
        MatchOption (first_with k v knows others keys vals bytes key order query es) (found ≡ None)
        (λ e. (found ≡ first_number query es)
        × IsSomeAnd found (λ i. (i < length es) × (get_or es i e ≡ e) × HasEntry k v knows others keys vals bytes (entry_position k v m i) e))

    -- the map at a position has these entries in this order, and a look-up of a key finds the number of the first entry
    -- with the key
    pub record AnswersInOrder (hashes : Q → ℕ → Type 0) (key_of : List ℕ → ℕ → Q → Type 0) (pos : ℕ) (es : List (A × B)) : Type 0 where
      pub map : IndexMap
      pub stands : IsMapAt bytes k v pos map
      pub walks : AllZip (HasEntry k v knows others keys vals bytes) (entry_positions k v map) es
      pub finds :
          (query : Q) (hash strides : ℕ) (found : Option ℕ)
          → hashes query hash
          → LooksUp (λ at x. KeySays key_of order bytes query (entry_position k v map (word_at bytes at)) x) number_shape map.buckets hash found strides
          → FindsNumber map es query (option_map (word_at bytes) found)
