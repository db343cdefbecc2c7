-- The members that a type which is hashed has by its bounds, as a record.
use Rattle.std.specs.Prelude.{ℕ, Bool, List}

-- of values that are hashed
abbrev pub HashMembers : Type 0 → Type 0
HashMembers T = record { eq : T → T → Bool; hash_input : T → List (List ℕ) }
