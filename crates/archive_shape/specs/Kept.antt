-- What a context of checks keeps: a range, its open pushes, and the shared positions that were seen.
use Rattle.std.specs.Prelude.{◌≡◌, ℕ, ◌≤◌, true, false, List, [], ◌∷◌, ◌++◌, length, Option, Some, None, Result, Ok, Err, MatchBool, ◌==◌, if◌then◌else◌}
use Rattle.archive_shape_layout.specs.Shape.{Pointee}
use Rattle.archive_shape_layout.specs.Holds.{Visit, OpenShared}
use Rattle.archive_shape.specs.Range.{Range}
use Rattle.archive_shape.specs.PartFault.{Entry, entry_at, Differs}
use Rattle.archive_shape.specs.declared.checking.context.PushedRange.{PushedRange}
use Rattle.archive_shape.specs.declared.checking.context.ValidationState.{ValidationState}
use Rattle.archive_shape.specs.declared.checking.context.ValidationState.TheVariants.{Started, Pending, Finished}
use Rattle.archive_shape_layout.specs.declared.error.Error.{Error}
use Rattle.archive_shape_layout.specs.declared.error.Error.TheVariants.{NotStarted, AlreadyFinished}

-- the entry of each shared position that was seen
abbrev pub Seen : Type 0
Seen = ℕ → Option Entry

-- with another entry at a position
unfoldable pub seen_with : Seen → ℕ → Entry → Seen
seen_with seen pos x other = if other == pos then Some x else seen other

-- the positions that are open and those that were visited, and no other
abbrev pub Records : Seen → List OpenShared → List Visit → Type 0
Records seen inside before = (pos : ℕ) → seen pos ≡ entry_at inside before pos

pub record Kept : Type 0 where
  pub start : ℕ
  pub end : ℕ
  -- how many pushes may nest
  pub most : ℕ
  -- the open ones, the last one last
  pub pushes : List PushedRange
  pub seen : Seen

abbrev pub range_of : Kept → Range
range_of k = record { start = k.start; end = k.end; most = k.most; level = length k.pushes }

-- it lies in n bytes
pub record IsWithin (k : Kept) (len : ℕ) : Type 0 where
  pub ordered : k.start ≤ k.end
  pub covered : k.end ≤ len

abbrev pub started_again : Kept → ℕ → Seen → Kept
started_again k pos seen = record { start = pos; end = k.end; most = k.most; pushes = k.pushes; seen = seen }

-- narrowed to the part before a region
abbrev pub pushed : Kept → PushedRange → Kept
pushed k r = record { start = k.start; end = r.pos; most = k.most; pushes = k.pushes ++ r ∷ []; seen = k.seen }

-- started again after the region of the last push, where the pushes before it are these
abbrev pub popped : Kept → PushedRange → List PushedRange → Kept
popped k r rest = record { start = r.end; end = r.outer; most = k.most; pushes = rest; seen = k.seen }

abbrev pub with_entry : Kept → ℕ → Entry → Kept
with_entry k pos x = started_again k k.start (seen_with k.seen pos x)

-- it was started again at or after where it began
pub record Advances (k l : Kept) : Type 0 where
  pub begins : k.start ≤ l.start
  pub ordered : l.start ≤ l.end
  pub frame : l ≡ started_again k l.start l.seen

-- ---- shared positions

-- what starting one records, and does to what is kept
abbrev pub StartsShared : Kept → ℕ → Pointee → ℕ → Kept → ValidationState → Type 0
StartsShared old pos p len new Started =
    (old.seen pos ≡ None) × (new ≡ with_entry old pos (record { pointee = p; len = len; done = false }))
StartsShared old pos p len new Pending = (old.seen pos ≡ Some (record { pointee = p; len = len; done = false })) × (new ≡ old)
StartsShared old pos p len new Finished = (old.seen pos ≡ Some (record { pointee = p; len = len; done = true })) × (new ≡ old)

-- why it is not started
pub record RefusesShared (k : Kept) (pos : ℕ) (p : Pointee) (len : ℕ) (e : Error) : Type 0 where
  pub entry : Entry
  pub is_met : k.seen pos ≡ Some entry
  pub differs : Differs p len entry e

-- ending one: it was not started or has ended already, and nothing changes; or it ends
abbrev pub FinishesShared : Kept → ℕ → Kept → Result (Unit {0}) Error → Option Entry → Type 0
FinishesShared old pos new result None = (result ≡ Err NotStarted) × (new ≡ old)
FinishesShared old pos new result (Some x) =
    MatchBool x.done
    ((result ≡ Err AlreadyFinished) × (new ≡ old))
    ((result ≡ Ok tt) × (new ≡ with_entry old pos (record { pointee = x.pointee; len = x.len; done = true })))
