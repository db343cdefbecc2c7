-- Work that is done once for each number: a shared value is written once for its key, and read once from its position.
use Rattle.std.specs.Prelude.{◌≡◌, ◌≢◌, ℕ, Result, Ok, Err}
use Rattle.archive_shape_layout.specs.declared.error.Error.{Error}
use Rattle.archive_shape_layout.specs.declared.error.Error.TheVariants.{NotStarted, AlreadyFinished}

-- it was not seen, has begun, or has ended with an outcome
pub data Progress (A : Type 0) : Type 0 where
  unmet : Progress A
  begun : Progress A
  ended : A → Progress A

module _ {A : Type 0} (old new : ℕ → Progress A) where
  -- nothing changes
  abbrev pub IsSame : Type 0
  IsSame = (n : ℕ) → new n ≡ old n

  -- the progress of one number changes, and no other
  pub record IsSet (n : ℕ) (progress : Progress A) : Type 0 where
    pub here : new n ≡ progress
    pub elsewhere : (other : ℕ) → other ≢ n → new other ≡ old other

  -- starting begins what was not seen
  abbrev pub Begins : ℕ → Progress A → Type 0
  Begins n unmet = IsSet n begun
  Begins n begun = IsSame
  Begins n (ended x) = IsSame

  -- it returns the progress that it found
  pub record Starts (n : ℕ) (found : Progress A) : Type 0 where
    pub is_found : old n ≡ found
    pub begins : Begins n found

  -- finishing ends what has begun with this outcome, and refuses all else, where nothing changes
  abbrev pub Finishes : ℕ → A → Result (Unit {0}) Error → Progress A → Type 0
  Finishes n outcome result unmet = (result ≡ Err NotStarted) × IsSame
  Finishes n outcome result begun = (result ≡ Ok tt) × IsSet n (ended outcome)
  Finishes n outcome result (ended x) = (result ≡ Err AlreadyFinished) × IsSame
