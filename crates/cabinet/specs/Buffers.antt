-- What a buffer and a count hold after a call that gives bytes.
use Rattle.std.specs.Prelude.{◌≡◌, ◌≤◌, ◌<◌, ℕ, List, ◌++◌, length, drop}
use Rattle.cabinet.specs.declared.calls.status.Status.{Status}
use Rattle.cabinet.specs.declared.calls.status.Status.TheVariants as status

-- Bytes that fit are at the front of the buffer, the rest of it stays, and the status is the one given with them. Where
-- they do not fit, all of the buffer stays, and the status is `Short`. In both cases the count is their number.
pub record Gives (bytes : List ℕ) (given : Status) (old new : List ℕ) (count : ℕ) (told : Status) : Type 0 where
  pub counted : count ≡ length bytes
  pub fits : length bytes ≤ length old → (new ≡ bytes ++ drop (length bytes) old) × (told ≡ given)
  pub short : length old < length bytes → (new ≡ old) × (told ≡ status.Short)

-- nothing is given: the buffer stays, and the count is 0
abbrev pub GivesNothing : (old new : List ℕ) → (count : ℕ) → Type 0
GivesNothing old new count = (new ≡ old) × (count ≡ 0)
