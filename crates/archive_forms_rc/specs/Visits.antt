-- The results of starting the check of what a counted pointer leads to.
use Rattle.std.specs.Prelude.{◌≡◌, ℕ, Bool, true, false, Some, None}
use Rattle.archive_shape_layout.specs.Shape.{Pointee}
use Rattle.archive_shape.specs.PartFault.{Entry, Clash}
use Rattle.archive_shape.specs.Kept.{Kept, with_entry}
use Rattle.archive_shape_layout.specs.declared.error.Error.{Error}

-- the first visit of a shared position is recorded; a later one finds the same shape and length, and changes nothing.
-- Its check has ended where the flavor forbids cycles
abbrev pub Visits : Bool → Kept → ℕ → Pointee → ℕ → Kept → Bool → Type 0
Visits cyclic old pos p len new true =
    (old.seen pos ≡ None) × (new ≡ with_entry old pos (record { pointee = p; len = len; done = false }))
Visits cyclic old pos p len new false =
    (done : Bool) × (old.seen pos ≡ Some (record { pointee = p; len = len; done = done })) × (cyclic ≡ false → done ≡ true) × (new ≡ old)

-- what was visited there differs, or its check has not ended where it has to
pub record ClashesAt (cyclic : Bool) (k : Kept) (pos : ℕ) (p : Pointee) (len : ℕ) (e : Error) : Type 0 where
  pub entry : Entry
  pub is_met : k.seen pos ≡ Some entry
  pub clash : Clash cyclic p len entry e
