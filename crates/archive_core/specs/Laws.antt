-- Laws of whole archives, as statements.
use Rattle.std.specs.Prelude.{◌≡◌, ◌≢◌, ℕ, ◌<◌, ◌^◌, Bool, List, length, Some, IsTrue, false}
use Rattle.archive_shape_layout.specs.Shape.{Shape}
use Rattle.archive_shape_layout.specs.Value.{Value}
use Rattle.archive_shape_layout.specs.Content.{Names}
use Rattle.archive_shape_layout.specs.Holds.{Visit, root_position}
use Rattle.archive_shape_canonical.specs.Settled.{Fit, free}
use Rattle.archive_forms_laws.specs.State.{State, Keys, IsConsistent, visit_of_key}
use Rattle.archive_forms_laws.specs.Spelling.{Spelling}
use Rattle.archive_forms_laws.specs.Unshared.{holds_shared}
use Rattle.archive_forms.specs.Deserializing.{IsReadAt}
use Rattle.archive_core_validation.specs.Depth.{unlimited}
use Rattle.archive_core_validation.specs.Access.{IsAccepted}
use Rattle.archive_core.specs.Written.{MadeArchive}

module _ {A R : Type 0} (s : Shape) (knows : Names → Type 0) (w : Spelling A R) where
  -- what archiving a value makes is accepted, without a limit of depth, whichever shared values are equal
  abbrev pub WrittenIsAccepted : Type 0
  WrittenIsAccepted =
      (x : A) (bytes : List ℕ) (fit : Fit) (names : Names) (keys : Keys)
      → knows names
      → w.suits fit keys x
      → length bytes < 2 ^ 64
      → MadeArchive s knows w x bytes
      → IsAccepted names bytes s (root_position (length bytes) s) unlimited

  -- what is read back at its root is what the value itself is read back as, regardless of the positions of shared
  -- values in it
  abbrev pub ReadBackIsWritten : (Value → A → Type 0) → Type 0
  ReadBackIsWritten reads =
      (x y : A) (bytes : List ℕ) (fit : Fit) (names : Names) (keys : Keys)
      → knows names
      → w.suits fit keys x
      → MadeArchive s knows w x bytes
      → IsReadAt reads s knows bytes (root_position (length bytes) s) y
      → reads (w.plain x) y

  -- where no value of the type holds a shared pointer, each suits the fit that binds nothing, whatever keys denote
  abbrev pub UnsharedSuits : Type 0
  UnsharedSuits = holds_shared s ≡ false → (x : A) (keys : Keys) → w.suits free keys x

  -- what archiving it makes is then accepted, without a limit of depth, however its tables are filled
  abbrev pub UnsharedIsAccepted : Type 0
  UnsharedIsAccepted =
      holds_shared s ≡ false
      → (x : A) (bytes : List ℕ) (names : Names)
      → knows names
      → length bytes < 2 ^ 64
      → MadeArchive s knows w x bytes
      → IsAccepted names bytes s (root_position (length bytes) s) unlimited

  -- and what is read back at its root is what the value itself is read back as
  abbrev pub UnsharedIsReadBack : (Value → A → Type 0) → Type 0
  UnsharedIsReadBack reads =
      holds_shared s ≡ false
      → (x y : A) (bytes : List ℕ) (names : Names)
      → knows names
      → MadeArchive s knows w x bytes
      → IsReadAt reads s knows bytes (root_position (length bytes) s) y
      → reads (w.plain x) y

  -- what is read back at its root is equal to the value itself, by a test such as that of `==`
  abbrev pub ReadBackIsEqual : (Value → A → Type 0) → (A → A → Bool) → Type 0
  ReadBackIsEqual reads eq =
      (x y : A) (bytes : List ℕ) (fit : Fit) (names : Names) (keys : Keys)
      → knows names
      → w.suits fit keys x
      → MadeArchive s knows w x bytes
      → IsReadAt reads s knows bytes (root_position (length bytes) s) y
      → IsTrue (eq x y)

  -- two shared values that were written under different keys, with a value's data or before, have different positions
  abbrev pub KeysStandApart : Type 0
  KeysStandApart =
      (x : A) (st : State) (k l : ℕ) (a b : Visit)
      → IsConsistent st
      → w.piece_fits x st
      → visit_of_key (w.met x st) k ≡ Some a
      → visit_of_key (w.met x st) l ≡ Some b
      → k ≢ l
      → a.pos ≢ b.pos
