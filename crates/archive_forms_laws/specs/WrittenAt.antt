-- Where bytes have what was written of a value: its data, and its own bytes at a position.
use Rattle.std.specs.Prelude.{ℕ, ◌+◌, ◌≤◌, List, length}
use Rattle.archive_shape_layout.specs.Shape.{Shape, size_of}
use Rattle.archive_shape_layout.specs.Content.{Names}
use Rattle.archive_shape_layout.specs.Visited.{AllStand}
use Rattle.archive_shape.specs.Bytes.{HasBytes}
use Rattle.archive_forms_laws.specs.State.{State, Keys, IsConsistent, AreKeyedBy, visits_of}
use Rattle.archive_forms_laws.specs.Spelling.{Spelling, state_after}

-- The data was written from a state on, in which the shared values written before are those that their keys denote; the
-- own bytes lie at a position. The rest of the bytes may be anything.
pub record IsWrittenAt {A R : Type 0} (keys : Keys) (w : Spelling A R) (bytes : List ℕ) (pos : ℕ) (x : A) : Type 0 where
  pub state : State
  pub consistent : IsConsistent state
  pub keyed : AreKeyedBy keys state.met
  pub piece_fits : w.piece_fits x state
  pub own_fits : w.own_fits x (w.resolver x state) pos
  pub piece : HasBytes bytes state.pos (w.piece x state)
  pub own : HasBytes bytes pos (w.own x (w.resolver x state) pos)

-- A written value can be read where it lies: its own bytes lie in the buffer and after its data, and the shared values
-- that were written before its data have their values below it.
pub record IsReadableAt {A R : Type 0} (names : Names) (keys : Keys) (s : Shape) (w : Spelling A R) (bytes : List ℕ) (pos : ℕ) (x : A) : Type 0 where
  pub written : IsWrittenAt keys w bytes pos x
  pub stand : AllStand names bytes written.state.pos (visits_of written.state.met)
  pub behind : (state_after w x written.state).pos ≤ pos
  pub within : pos + size_of s ≤ length bytes
