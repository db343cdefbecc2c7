-- Look-ups of the items of a table, by a hash and a comparison, and writes of its own bytes.
use denote.Ref.{Bor}
use Rattle.std.specs.Prelude.{◌≡◌, ℕ, ◌+◌, ◌^◌, ◌<◌, Bool, List, Option, Result, All, MatchOption, MatchResult}
use Rattle.archive_shape_layout.specs.Bytes.{word_at}
use Rattle.archive_shape_layout.specs.Shape.{Shape}
use Rattle.archive_shape_layout.specs.Content.{Names}
use Rattle.archive_shape_layout.specs.declared.error.Error.{Error}
use Rattle.archive_shape.specs.Bytes.{overwrite}
use Rattle.archive_shape.specs.declared.references.refs.Ref.{Ref}
use Rattle.archive_shape.specs.declared.references.place.Place.{Place}
use Rattle.archive_forms_values.specs.Parts.{HasValue}
use Rattle.archive_hash_maps.specs.Tables.{Buckets, no_buckets, IsTableAt, IsTable, item_positions}
use Rattle.archive_hash_maps.specs.Places.{held, LooksUp, FindsTheOnly, FindsAccepted, item_at, Answers}
use Rattle.archive_hash_maps.specs.Resolving.{own_bytes, IsWithinLimits, IsRefused}
use Rattle.archive_hash_maps.specs.declared.walking.buckets.BucketsAt.{BucketsAt}

-- ---- calls of a comparison

-- a call may be made with each value of a shape that the bytes have
abbrev pub MayCall : {T : Type 0} (s : Shape) (knows : Names → Type 0) (bytes : Bor (List ℕ)) (pre : Ref T → Type 0)
    → Type 0
MayCall s knows bytes pre = (at : ℕ) → HasValue s knows bytes.now at → pre (item_at bytes at)

-- the same, wherever these bytes are lent
abbrev pub MayCallWhereLent : {T : Type 0} (s : Shape) (knows : Names → Type 0) (bytes : List ℕ) (pre : Ref T → Type 0)
    → Type 0
MayCallWhereLent s knows bytes pre =
    (lent : Bor (List ℕ)) (at : ℕ) → lent.now ≡ bytes → HasValue s knows lent.now at → pre (item_at lent at)

-- ---- the table at a position

module _ (s : Shape) (bytes : List ℕ) (pos : ℕ) where
  -- its places are read, if it has any
  abbrev pub ReadsBuckets : (result : Option BucketsAt) → Type 0
  ReadsBuckets result =
      (b : Buckets) → IsTableAt bytes s pos b → MatchOption result
      (b ≡ no_buckets)
      (λ r. (b ≡ held r) × (word_at bytes (pos + 4) ≡ 0 → ⊥) × (r.capacity < 2 ^ 32) × (r.target < 2 ^ 64))

  -- a call may be made with the position of each item
  abbrev pub MayCallAtItems : (pre : ℕ → Type 0) → Type 0
  MayCallAtItems pre = (b : Buckets) → IsTableAt bytes s pos b → All pre (item_positions s b)

  module _ (says : ℕ → Bool → Type 0) where
    -- it is searched for an item of a hash
    abbrev pub LooksUpAt : (hash : ℕ) (found : Option ℕ) (strides : ℕ) → Type 0
    LooksUpAt hash found strides = (b : Buckets) → IsTableAt bytes s pos b → LooksUp says s b hash found strides

    -- what is found is an item that was accepted
    abbrev pub FindsAcceptedAt : (found : Option ℕ) → Type 0
    FindsAcceptedAt found = (b : Buckets) → IsTableAt bytes s pos b → FindsAccepted says s b found

    -- the only item that can be accepted is found
    abbrev pub FindsTheOnlyAt : (hash : ℕ) (found : Option ℕ) → Type 0
    FindsTheOnlyAt hash found = (b : Buckets) → IsTableAt bytes s pos b → FindsTheOnly says s b hash found

-- ---- the table that a reference leads to

module _ {T M : Type 0} (s : Shape) (says : Ref T → Bool → Type 0) (this : Ref M) (hash : ℕ) (found : Option (Ref T)) where
  -- an item of a hash is looked up, by this number of strides
  abbrev pub FindsItem : (strides : ℕ) → Type 0
  FindsItem strides =
      (b : Buckets) → IsTable s this b
      → Answers (λ at x. says (item_at this.bytes at) x) (item_at this.bytes) s b hash found strides

  -- the same, by some number of strides
  abbrev pub GetsItem : Type 0
  GetsItem =
      (b : Buckets) → IsTable s this b
      → (strides : ℕ) × Answers (λ at x. says (item_at this.bytes at) x) (item_at this.bytes) s b hash found strides

-- ---- writing

-- the own bytes of a table of `len` items are written, or a limit does not hold and nothing is written
abbrev pub ResolvesTable : {M : Type 0} (len : ℕ) (load_factor : ℕ × ℕ) (to : Option ℕ) (place : Place M)
    (out : List ℕ) (result : Result (Unit {0}) Error) → Type 0
ResolvesTable len load_factor to place out result =
    MatchResult result
    (λ _. IsWithinLimits len load_factor to place.pos
    × (out ≡ overwrite place.out.now place.start (own_bytes len load_factor to place.pos)))
    (λ e. IsRefused len load_factor to place.pos e × (out ≡ place.out.now))
