-- How a value is archived, as functions of the value, of its position and of the state in which it is written.
use Rattle.std.specs.Prelude.{ℕ, List, length}
use Rattle.archive_shape_layout.specs.Value.{Value}
use Rattle.archive_shape_canonical.specs.Settled.{Fit}
use Rattle.archive_shape_layout.specs.declared.error.Error.{Error}
use Rattle.archive_forms_laws.specs.State.{State, Met, Keys, advanced}

-- A value of type A. Its data is what its pointers lead to, and is written first, from a state on. A resolver, of type
-- R, is what is kept of the positions of the data. Its own bytes are written at a position, by means of the resolver.
pub record Spelling (A R : Type 0) : Type 1 where
  -- what the layout has for the value, and the same without the positions of shared values
  pub value : A → State → Value
  pub plain : A → Value
  -- the bytes of the data
  pub piece : A → State → List ℕ
  pub resolver : A → State → R
  -- the shared values that were written when the data is
  pub met : A → State → List Met
  -- the own bytes
  pub own : A → R → ℕ → List ℕ
  -- the data, written from a state on, exceeds no limit; it exceeds one, and is refused with this error
  pub piece_fits : A → State → Type 0
  pub piece_refused : A → State → Error → Type 0
  -- likewise the own bytes at a position
  pub own_fits : A → R → ℕ → Type 0
  pub own_refused : A → R → ℕ → Error → Type 0
  -- each table in it is filled by a fit, and each shared value in it has a key that denotes it
  pub suits : Fit → Keys → A → Type 0

-- the state when the data of a value is written
abbrev pub state_after : {A R : Type 0} → Spelling A R → A → State → State
state_after w x st = advanced (length (w.piece x st)) (w.met x st) st
