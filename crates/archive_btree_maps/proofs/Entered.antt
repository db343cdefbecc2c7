-- Entries: a key, then a value.
use Rattle.std.proofs.Common.{◌≡◌, ℕ, suc, ◌+◌, List, [], ◌∷◌, Ok, Err, Result, refl}
use Rattle.archive_shape_layout.specs.Shape.{Shape, size_of}
use Rattle.archive_shape_layout.specs.Value.Value.{group}
use Rattle.archive_shape_layout.specs.Content.{Names, made, entries}
use Rattle.archive_shape_layout.specs.Content.Part.{at, entry}
use Rattle.archive_shape_layout.specs.Holds.{Visit, OpenShared}
use Rattle.archive_shape_layout.specs.Holds.Holds.{holds_plain}
use Rattle.archive_shape.specs.PartFault.PartFault.{fault_plain}
use Rattle.archive_shape.specs.PartFault.PartsFault.{fault_here}
use Rattle.archive_shape.specs.Kept.{Kept, Advances}
use Rattle.archive_shape.specs.Checks.{Checks, Checked, CheckedAll, Moves}
use Rattle.archive_shape_layout.specs.declared.error.Error.{Error}
use Rattle.archive_shape.proofs.Ordered.{advances_then, checked_records, more_checked, later_fault, one_checked}

pub moves_then : (k l m : Kept) (r : Result (Unit {0}) Error) → Advances k l → Moves l r m → Moves k r m
moves_then k l m (Ok x) h i = advances_then h i
moves_then k l m (Err e) h i = tt

module _ (names : Names) (bytes : List ℕ) (k v : Shape) (key value : ℕ) where
  entry_accepted : (inside : List OpenShared) (before : List Visit) (old new : Kept) → CheckedAll names bytes inside before (at key k ∷ at value v ∷ []) old new → Checked names bytes inside before (entry k key v value) old new
  unfolding made
  entry_accepted inside before old new below =
      let held = below.passes.accepts in
      record {
        passes = record {
          value = group below.passes.values;
          regions = below.passes.regions;
          after = below.passes.after;
          accepts = record { holds = holds_plain refl tt held.all refl; ascends = held.ascends; nests = held.nests };
        };
        seen = below.seen;
        moves = below.moves;
        records = below.records;
      }

  -- the key is refused
  pub key_refused : (old new : Kept) (r : Result (Unit {0}) Error) (e : Error) → r ≡ Err e → Checks names bytes (at key k) old (Err e) new → Checks names bytes (entry k key v value) old r new
  key_refused old new r e is h inside before records = rw is (λ other. fault_plain tt refl (fault_here (h inside before records other)))

  -- the key is accepted, and the check of the value decides
  pub value_decides :
      (old mid new : Kept) (r : Result (Unit {0}) Error) → Checks names bytes (at key k) old (Ok tt) mid → Checks names bytes (at value v) mid r new
      → Checks names bytes (entry k key v value) old r new
  value_decides old mid new (Ok x) first second inside before records =
      let one = first inside before records in
      let other = second inside one.passes.after (checked_records names bytes inside before one) in
      entry_accepted inside before old new (more_checked names bytes inside before one (one_checked names bytes inside one.passes.after other))
  value_decides old mid new (Err e) first second inside before records =
      let one = first inside before records in
      λ other. fault_plain tt refl (later_fault names bytes inside before one (fault_here (second inside one.passes.after (checked_records names bytes inside before one) other)))

-- ---- entries in order

pub entries_next : (n m : ℕ) (k : Shape) (key : ℕ) (v : Shape) (value : ℕ) → n ≡ suc m → entries n k key v value ≡ entry k key v value ∷ entries m k (key + size_of k) v (value + size_of v)
unfolding entries
entries_next n m k key v value e = rw e

pub entries_none : (n : ℕ) (k : Shape) (key : ℕ) (v : Shape) (value : ℕ) → n ≡ 0 → entries n k key v value ≡ []
unfolding entries
entries_none n k key v value e = rw e
