-- The results of look-ups of entries of index maps.
use denote.Ref.{Bor}
use Rattle.std.specs.Prelude.{ℕ, Bool, List, Option}
use Rattle.archive_shape_layout.specs.Bytes.{word_at}
use Rattle.archive_shape_layout.specs.Shape.{Shape}
use Rattle.archive_shape_layout.specs.Shape.Shapes.{no_shapes}
use Rattle.archive_shape.specs.declared.references.refs.Ref.{Ref}
use Rattle.archive_forms_laws.specs.Sample.{number_shape}
use Rattle.archive_forms_values.specs.Fields.{field_position}
use Rattle.archive_hash_maps.specs.Places.{Answers}
use Rattle.archive_hash_maps.specs.Maps.{LooksUpHash, key_at, value_at, entry_at}
use Rattle.archive_index.specs.Maps.{IndexMap, entry_position}

module _ (bytes : List ℕ) (k v : Shape) (m : IndexMap) where
  -- The result of a look-up of a hash is that of the table of numbers, where `says` of a number is what it says of the
  -- position of the entry with this number. `entry` is what the look-up returns for the number of an entry.
  abbrev pub AnswersEntry : {A : Type 0} → (ℕ → Bool → Type 0) → (ℕ → A) → ℕ → Option A → ℕ → Type 0
  AnswersEntry says entry hash found strides =
      Answers (λ at x. says (entry_position k v m (word_at bytes at)) x) (λ at. entry (word_at bytes at)) number_shape m.buckets hash found strides

  -- the result of a look-up of a key that has one of these hashes
  abbrev pub LooksUpEntry : {A : Type 0} → (ℕ → Type 0) → (ℕ → Bool → Type 0) → (ℕ → A) → Option A → Type 0
  LooksUpEntry hashes says entry found =
      LooksUpHash hashes (λ at x. says (entry_position k v m (word_at bytes at)) x) (λ at. entry (word_at bytes at)) number_shape m.buckets found

-- the value of an entry; its key and value; its number, key and value
abbrev pub value_of : {V : Type 0} → Bor (List ℕ) → Shape → Shape → IndexMap → ℕ → Ref V
value_of bytes k v m i = value_at bytes k v (entry_position k v m i)

abbrev pub pair_of : {K V : Type 0} → Bor (List ℕ) → Shape → Shape → IndexMap → ℕ → Ref K × Ref V
pair_of bytes k v m i = entry_at bytes k v (entry_position k v m i)

abbrev pub full_of : {K V : Type 0} → Bor (List ℕ) → Shape → Shape → IndexMap → ℕ → ℕ × Ref K × Ref V
full_of bytes k v m i = (i, key_at bytes (entry_position k v m i), value_of bytes k v m i)

-- the position of the value of an entry
abbrev pub value_position_of : Shape → Shape → IndexMap → ℕ → ℕ
value_position_of k v m i = field_position k no_shapes v (entry_position k v m i)
