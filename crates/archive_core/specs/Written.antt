-- What is written as the root of an archive, from any position on.
use Rattle.std.specs.Prelude.{◌≡◌, ℕ, ◌∷◌, [], List, length, IsTrue, false, Result, MatchResult, ◌⊎◌}
use Rattle.archive_shape_layout.specs.Shape.{Shape}
use Rattle.archive_shape_layout.specs.Value.{Value}
use Rattle.archive_shape_layout.specs.Content.{Names}
use Rattle.archive_shape_layout.specs.Holds.{Region, Visit, HasRoot, root_position}
use Rattle.archive_shape_canonical.specs.Settled.{Fit}
use Rattle.archive_shape_canonical.specs.Sharing.{erased}
use Rattle.archive_shape_canonical.specs.Canonical.{CanonicalArchive, AreBytes}
use Rattle.archive_shape_layout.specs.Writing.{WriterMembers, Written, Failed}
use Rattle.archive_shape_layout.specs.Progress.Progress.{unmet}
use Rattle.archive_shape_layout.specs.declared.error.Error.{Error}
use Rattle.archive_shape_layout.specs.declared.error.Error.TheVariants.{OutOfMemory}
use Rattle.archive_forms_laws.specs.State.{State, Keys, AreOneToOne}
use Rattle.archive_forms_laws.specs.Spelling.{Spelling}
use Rattle.archive_forms_laws.specs.Regions.{region_piece, region_fits, region_refused}
use Rattle.archive_forms_laws.specs.Serializing.{Stopped}
use Rattle.archive_forms_laws.specs.Unshared.{holds_shared}
use Rattle.archive_core_validation.specs.Depth.{unlimited}
use Rattle.archive_core_validation.specs.Access.{IsAccepted}

-- the next byte has this position, and no shared value was written
abbrev pub from_position : ℕ → State
from_position n = record { pos = n; met = []; begun = [] }

-- bytes are, from a position on, what writing a value there makes, and its root ends them; this is the one archive of
-- the value, where no two keys denote one shared value
pub record IsWrittenFrom {A R : Type 0} (start : ℕ) (s : Shape) (w : Spelling A R) (x : A) (fit : Fit) (names : Names) (keys : Keys) (bytes : List ℕ) : Type 0 where
  pub regions : List Region
  pub visits : List Visit
  pub root : HasRoot names bytes (root_position (length bytes) s) s (w.value x (from_position start)) regions visits
  pub plain : erased (w.value x (from_position start)) ≡ w.plain x
  pub canonical : AreOneToOne keys → CanonicalArchive fit names bytes start (root_position (length bytes) s) s (w.value x (from_position start)) regions visits

-- the data of a value and then its own bytes, where the next byte has a position
abbrev pub root_piece : {A R : Type 0} → Shape → Spelling A R → A → ℕ → List ℕ
root_piece s w x n = region_piece w s (x ∷ []) (from_position n)

-- they are within all limits; they exceed one, and are refused with this error
abbrev pub root_fits : {A R : Type 0} → Shape → Spelling A R → A → ℕ → Type 0
root_fits s w x n = region_fits w s (x ∷ []) (from_position n)

abbrev pub root_refused : {A R : Type 0} → Shape → Spelling A R → A → ℕ → Error → Type 0
root_refused s w x n e = region_refused w s (x ∷ []) (from_position n) e

module _ {A R W : Type 0} (s : Shape) (w : Spelling A R) (m : WriterMembers W) (x : A) (old : W) where
  -- the contract of a call that archives a value in a writer; an error drops the writer, which then held a part of the
  -- piece
  abbrev pub ArchivesIn : Result W Error → Type 0
  ArchivesIn result =
      let piece = root_piece s w x (m.pos old) in
      MatchResult result
      (λ new. Written m.OBSERVABLE m.COUNTS m.contents m.pos m.failures m.last_error (λ _ _. unmet) old new piece × root_fits s w x (m.pos old))
      (λ e. (new : W)
      × (Failed m.OBSERVABLE m.COUNTS m.contents m.pos m.failures m.last_error (λ _ _. unmet) old new piece e
      ⊎ Stopped m.OBSERVABLE m.contents m.failures old new piece (root_refused s w x (m.pos old)) e))

  -- what a writer then holds, where its position counts all the bytes that it holds
  abbrev pub HoldsArchive : (Names → Type 0) → W → Type 0
  HoldsArchive knows new =
      IsTrue m.OBSERVABLE
      → length (m.contents old) ≡ m.pos old
      → AreBytes (m.contents old)
      → (fit : Fit) (names : Names) (keys : Keys)
      → knows names
      → w.suits fit keys x
      → IsWrittenFrom (m.pos old) s w x fit names keys (m.contents new)

-- where no value of a shape holds a shared pointer, bytes are accepted as an archive of it, without a limit of depth
abbrev pub IsAcceptedUnshared : Shape → (Names → Type 0) → List ℕ → Type 0
IsAcceptedUnshared s knows bytes =
    holds_shared s ≡ false → (names : Names) → knows names → IsAccepted names bytes s (root_position (length bytes) s) unlimited

-- so are those that a writer then holds, where its position counts all the bytes that it holds
abbrev pub HoldsAccepted : {W : Type 0} → Shape → WriterMembers W → W → (Names → Type 0) → W → Type 0
HoldsAccepted s m old knows new =
    IsTrue m.OBSERVABLE
    → length (m.contents old) ≡ m.pos old
    → AreBytes (m.contents old)
    → IsAcceptedUnshared s knows (m.contents new)

module _ {A R : Type 0} (s : Shape) where
  -- the contract of a call that archives a value in memory: the bytes are those of a root at the start of an archive;
  -- otherwise an allocation failed, or a limit is exceeded
  abbrev pub MakesBytes : {Q : Type 0} → Spelling A R → A → (Q → List ℕ) → Result Q Error → Type 0
  MakesBytes w x bytes_of result =
      MatchResult result (λ q. (bytes_of q ≡ root_piece s w x 0) × root_fits s w x 0) (λ e. (e ≡ OutOfMemory) ⊎ root_refused s w x 0 e)

  -- bytes are what archiving a value makes
  abbrev pub MadeArchive : (Names → Type 0) → Spelling A R → A → List ℕ → Type 0
  MadeArchive knows w x bytes =
      (fit : Fit) (names : Names) (keys : Keys)
      → knows names
      → w.suits fit keys x
      → IsWrittenFrom 0 s w x fit names keys bytes

  -- the contract of a call that reads back bytes that archiving a value made, where no value of the type holds a shared
  -- pointer: the result is what the value itself is read back as, and the only error is `OutOfMemory`
  abbrev pub ReadsUnshared : (Names → Type 0) → Spelling A R → (Value → A → Type 0) → List ℕ → Result A Error → Type 0
  ReadsUnshared knows w reads bytes result =
      holds_shared s ≡ false
      → (x : A)
      → MadeArchive knows w x bytes
      → MatchResult result (reads (w.plain x)) (λ e. e ≡ OutOfMemory)
