-- What is kept of the shared values that were read, by their positions.
use Rattle.std.specs.Prelude.{◌≡◌, ◌≢◌, ℕ, List, length, Option, Some, None, MatchOption}
use Rattle.std.specs.Ordering.{nat_cmp}
use Rattle.std.specs.BTreeMap.{get}
use Rattle.archive_shape_layout.specs.Bytes.{window}
use Rattle.archive_forms.specs.declared.deserializing.shared_pool.SharedPool.{SharedPool}

module _ {P : Type 0} where
  -- one position has this pointer afterwards, and each other one what it had
  pub record IsKept (old new : ℕ → Option P) (pos : ℕ) (pointer : P) : Type 0 where
    pub here : new pos ≡ Some pointer
    pub elsewhere : (other : ℕ) → other ≢ pos → new other ≡ old other

  -- a clone of the pointer that is kept, if one is
  abbrev pub IsCloneOf : (P → P → Type 0) → Option P → Option P → Type 0
  IsCloneOf is_clone None found = found ≡ None
  IsCloneOf is_clone (Some pointer) found = MatchOption found ⊥ (is_clone pointer)

-- a text is the bytes from a position on
abbrev pub IsTextAt : List ℕ → ℕ → List ℕ → Type 0
IsTextAt bytes pos text = text ≡ window bytes pos (length text)

-- ---- what is kept was read from some bytes, where this says so of what is kept inside

-- each pointer was read at its position
abbrev pub pool_of : {P A D : Type 0} → (List ℕ → ℕ → P → Type 0) → (D → List ℕ → Type 0) → SharedPool P A D → List ℕ → Type 0
pool_of {P = P} is_read inside pool bytes = ((pos : ℕ) (pointer : P) → get nat_cmp pool.pointers pos ≡ Some pointer → is_read bytes pos pointer) × inside pool.inside bytes

-- the deserializers of the fields of a tuple
abbrev pub one_of : {D : Type 0} → (D → List ℕ → Type 0) → record { 0 : D } → List ℕ → Type 0
one_of d all bytes = d all.0 bytes

abbrev pub both_of : {D E : Type 0} → (D → List ℕ → Type 0) → (E → List ℕ → Type 0) → D × E → List ℕ → Type 0
both_of d e all bytes = d all.0 bytes × e all.1 bytes

abbrev pub three_of : {D E F : Type 0} → (D → List ℕ → Type 0) → (E → List ℕ → Type 0) → (F → List ℕ → Type 0) → D × E × F → List ℕ → Type 0
three_of d e f all bytes = d all.0 bytes × e all.1 bytes × f all.2 bytes

abbrev pub four_of : {D E F G : Type 0} → (D → List ℕ → Type 0) → (E → List ℕ → Type 0) → (F → List ℕ → Type 0) → (G → List ℕ → Type 0) → D × E × F × G → List ℕ → Type 0
four_of d e f g all bytes = d all.0 bytes × e all.1 bytes × f all.2 bytes × g all.3 bytes
