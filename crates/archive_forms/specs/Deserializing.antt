-- The contracts of calls that read a value back.
use Rattle.std.specs.Prelude.{◌≡◌, ℕ, ◌+◌, List, [], ◌∷◌, length, ⊤, Result, MatchResult}
use Rattle.archive_shape_layout.specs.Shape.{Shape, size_of}
use Rattle.archive_shape_layout.specs.Value.{Value}
use Rattle.archive_shape_layout.specs.Content.{Names}
use Rattle.archive_shape_canonical.specs.Sharing.{erased}
use Rattle.archive_shape_layout.specs.declared.error.Error.{Error}
use Rattle.archive_shape_layout.specs.declared.error.Error.TheVariants.{OutOfMemory}
use Rattle.archive_shape.specs.Key.{HeldAt}

module _ {A : Type 0} (reads : Value → A → Type 0) (s : Shape) (knows : Names → Type 0) (bytes : List ℕ) (pos : ℕ) where
  -- the value that the layout has at the position is read back as this one, regardless of the positions of shared
  -- values in it
  abbrev pub IsReadAt : A → Type 0
  IsReadAt x = (v : Value) → HeldAt s knows bytes pos v → reads (erased v) x

  -- the contract of a call that reads the value and whose result keeps it: its only error is `OutOfMemory`
  abbrev pub DeserializesBy : {Q : Type 0} → (Q → A) → Result Q Error → Type 0
  DeserializesBy kept result = MatchResult result (λ q. IsReadAt (kept q)) (λ e. e ≡ OutOfMemory)

  -- the same of a call whose result is the value
  abbrev pub Deserializes : Result A Error → Type 0
  Deserializes result = DeserializesBy (λ (x : A). x) result

module _ {A : Type 0} (reads : Value → A → Type 0) (s : Shape) (knows : Names → Type 0) (bytes : List ℕ) where
  -- values are those of adjacent elements from a position on
  abbrev pub AreReadFrom : ℕ → List A → Type 0
  AreReadFrom pos [] = ⊤
  AreReadFrom pos (x ∷ xs) = IsReadAt reads s knows bytes pos x × AreReadFrom (pos + size_of s) xs

  -- the contract of a call that reads n elements and whose result keeps their values
  abbrev pub DeserializesAll : {Q : Type 0} → ℕ → ℕ → (Q → List A) → Result Q Error → Type 0
  DeserializesAll pos n kept result = MatchResult result (λ q. (length (kept q) ≡ n) × AreReadFrom pos (kept q)) (λ e. e ≡ OutOfMemory)
