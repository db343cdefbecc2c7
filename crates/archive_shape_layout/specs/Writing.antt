-- What a call that writes does to its writer. Clauses give of the writer: whether its contents are observable, whether
-- it counts its failures, its contents, its position, the number of its writes that failed, the error of the last one
-- that failed, and what it knows of shared values. Of contents that are not observable, as those of a file, nothing is
-- said.
use Rattle.std.specs.Prelude.{◌≡◌, ℕ, ◌+◌, ◌<◌, Bool, false, List, ◌++◌, length, IsTrue, MatchBool, Result, MatchResult}
use Rattle.archive_shape_layout.specs.Progress.{Progress, IsSame}
use Rattle.archive_shape_layout.specs.declared.error.Error.{Error}
use Rattle.archive_shape_layout.specs.declared.error.Error.TheVariants.{OutOfMemory}

-- a prefix of the piece was written
pub record Cut (old new piece : List ℕ) : Type 0 where
  pub written : List ℕ
  pub lost : List ℕ
  pub new_is : new ≡ old ++ written
  pub piece_is : piece ≡ written ++ lost

-- a writer that counts its failures has one more, and one that does not fails with OutOfMemory
abbrev pub IsCounted : Bool → ℕ → ℕ → Error → Type 0
IsCounted counts old new e = MatchBool counts (new ≡ old + 1) ((new ≡ old) × (e ≡ OutOfMemory))

module _ {W : Type 0} (observable counts : Bool) (contents : W → List ℕ) (pos failures : W → ℕ) (last_error : W → Error) (known : W → ℕ → Progress ℕ) where
  -- the whole piece was written
  pub record Written (old new : W) (piece : List ℕ) : Type 0 where
    pub gains : IsTrue observable → contents new ≡ contents old ++ piece
    pub moves : pos new ≡ pos old + length piece
    pub is_quiet : failures new ≡ failures old
    pub keeps : IsSame (known old) (known new)

  -- The writer failed in the piece, with an error that is its last one. A higher count shows the failure; a writer that
  -- counts none has lost some of the piece.
  pub record Failed (old new : W) (piece : List ℕ) (e : Error) : Type 0 where
    pub is_cut : IsTrue observable → Cut (contents old) (contents new) piece
    pub is_short : IsTrue observable → counts ≡ false → length (contents new) < length (contents old) + length piece
    pub is_counted : IsCounted counts (failures old) (failures new) e
    pub is_last : last_error new ≡ e
    pub keeps : IsSame (known old) (known new)

  -- what a call that writes the piece ensures
  abbrev pub Appends : {A : Type 0} → W → W → List ℕ → Result A Error → Type 0
  Appends old new piece result = MatchResult result (λ _. Written old new piece) (Failed old new piece)

-- the members of a writer under a bound `Writer`
abbrev pub WriterMembers : Type 0 → Type 0
WriterMembers W = record { known : W → ℕ → Progress ℕ; pos : W → ℕ; OBSERVABLE : Bool; COUNTS : Bool; contents : W → List ℕ; failures : W → ℕ; last_error : W → Error }

-- the same of a writer whose members are given as one record
abbrev pub Writes : {W A : Type 0} → WriterMembers W
    → W → W → List ℕ → Result A Error → Type 0
Writes w old new piece result = Appends w.OBSERVABLE w.COUNTS w.contents w.pos w.failures w.last_error w.known old new piece result
