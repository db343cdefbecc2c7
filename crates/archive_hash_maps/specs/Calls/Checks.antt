-- The check of a table, by its parts. `kept` is what a context keeps, `t` the members of the type of the items.
use Rattle.std.specs.Prelude.{◌≡◌, ◌≢◌, ℕ, ◌+◌, ◌-◌, ◌*◌, ◌≤◌, ◌==◌, nat_lt, nat_le, cond, Bool, List, slice_index, Option, Result, MatchOption, MatchResult}
use Rattle.archive_shape_layout.specs.Bytes.{window, word_at}
use Rattle.archive_shape_layout.specs.Shape.{Shape}
use Rattle.archive_shape_layout.specs.Shape.Shape.{table}
use Rattle.archive_shape_layout.specs.Content.{Names, Item, item, place, tagged_items}
use Rattle.archive_shape_layout.specs.Content.Part.{at, buckets}
use Rattle.archive_shape_layout.specs.declared.error.Error.{Error}
use Rattle.archive_shape_layout.specs.declared.error.Error.TheVariants.{OutOfMemory}
use Rattle.archive_shape.specs.Checks.{Checks, ChecksAll, ChecksAt}
use Rattle.archive_shape.specs.Kept.{Kept, range_of}
use Rattle.archive_shape.specs.Questions.{Question, AreAnswered, FirstUnanswered, questions_of_table}
use Rattle.archive_shape.specs.Range.{Range}
use Rattle.archive_shape.specs.declared.checking.context.PushedRange.{PushedRange}
use Rattle.archive_shape.specs.declared.references.refs.Ref.{Ref}
use Rattle.archive_shape.specs.declared.types.portable.Portable.{Ghosts as Portable}
use Rattle.archive_hash_maps.specs.Buckets.{claim_of_buckets, AreClaimed}
use Rattle.archive_hash_maps.specs.Heads.{HasHead}
use Rattle.archive_hash_maps.specs.declared.checking.head.TableHead.{TableHead}

-- ---- the own bytes

-- the own bytes of a table are read: a head, none where it has no items, or the first question answered by no
abbrev pub ReadsHead : (bytes : List ℕ) (pos : ℕ) (it : Item) (result : Result (Option TableHead) Error) → Type 0
ReadsHead bytes pos it result =
    MatchResult result
    (λ o. MatchOption o (word_at bytes (pos + 4) ≡ 0) (HasHead bytes pos))
    (λ e. (range : Range) (size : ℕ) → 12 ≤ size → FirstUnanswered range e (questions_of_table pos (window bytes pos size) it))

-- ---- the controls

-- whether a control from the capacity on repeats the one a capacity before it, or is empty from twice the capacity on
abbrev pub is_required : (controls : List ℕ) (cap index : ℕ) → Bool
is_required controls cap index =
    cond (nat_lt index (2 * cap)) (slice_index controls index == slice_index controls (index - cap)) (nat_le 128 (slice_index controls index))

-- the questions are asked in order, up to the first that is answered by no
abbrev pub Asks : (questions : List Question) (result : Result (Unit {0}) Error) → Type 0
Asks questions result =
    (range : Range) → MatchResult result (λ _. AreAnswered range questions) (λ e. FirstUnanswered range e questions)

-- ---- with a context

module _ {C : Type 0} (kept : C → Kept) where
  -- the buckets and controls are claimed
  abbrev pub ClaimsBuckets : (target cap : ℕ) (it : Item) (old : C) (result : Result PushedRange Error) (new : C) → Type 0
  ClaimsBuckets target cap it old result new =
      MatchResult result
      (λ r. AreClaimed target cap it (kept old) r (kept new))
      (λ e. e ≢ OutOfMemory → FirstUnanswered (range_of (kept old)) e (claim_of_buckets target cap it))

  -- the buckets of the numbers of entries and the controls are checked
  abbrev pub ChecksPlaces : (bytes : List ℕ) (target len cap : ℕ) (old : C) (result : Result (Unit {0}) Error) (new : C)
      → Type 0
  ChecksPlaces bytes target len cap old result new =
      (names : Names) → Checks names bytes (buckets target len cap (place len)) (kept old) result (kept new)

  module _ {T : Type 0} (t : Portable T) where
    -- the table that a reference leads to is checked
    abbrev pub ChecksTable : {M : Type 0} (this : Ref M) (old : C) (result : Result (Unit {0}) Error) (new : C) → Type 0
    ChecksTable this old result new = ChecksAt kept t.knows this.bytes.now this.pos (table t.shape) old result new

    -- its buckets and controls are checked
    abbrev pub ChecksBuckets : (bytes : List ℕ) (target len cap : ℕ) (old : C) (result : Result (Unit {0}) Error) (new : C)
        → Type 0
    ChecksBuckets bytes target len cap old result new =
        (names : Names) → t.knows names
        → Checks names bytes (buckets target len cap (item t.shape)) (kept old) result (kept new)

    -- the items whose controls are tags are checked
    abbrev pub ChecksItems : (bytes : List ℕ) (target : ℕ) (controls : List ℕ) (old : C) (result : Result (Unit {0}) Error)
        (new : C) → Type 0
    ChecksItems bytes target controls old result new =
        (names : Names) → t.knows names
        → ChecksAll names bytes (tagged_items target (item t.shape) 0 controls) (kept old) result (kept new)

-- the numbers of entries whose controls are tags are checked
abbrev pub ChecksNumbers : (bytes : List ℕ) (target : ℕ) (controls : List ℕ) (limit : ℕ)
    (result : Result (Unit {0}) Error) → Type 0
ChecksNumbers bytes target controls limit result =
    (names : Names) (kept : Kept) → ChecksAll names bytes (tagged_items target (place limit) 0 controls) kept result kept
