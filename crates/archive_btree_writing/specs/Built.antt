-- What calls guarantee that write search trees of entries which an iterator yields.
use Rattle.std.specs.Prelude.{◌≡◌, ℕ, ◌+◌, ◌-◌, ◌^◌, ◌<◌, ◌≤◌, ◌⊎◌, min, List, ◌++◌, length, take, Option, Some, None, Result, Ok, Err, MatchResult}
use Rattle.std.specs.Iterator.{Yields, Drains}
use Rattle.archive_shape_layout.specs.Shape.{Shape}
use Rattle.archive_shape_layout.specs.Writing.{WriterMembers}
use Rattle.archive_shape_layout.specs.declared.error.Error.{Error}
use Rattle.archive_shape_layout.specs.declared.error.Error.TheVariants.{IteratorLengthMismatch}
use Rattle.archive_forms_laws.specs.State.{State}
use Rattle.archive_forms_laws.specs.Spelling.{Spelling}
use Rattle.archive_forms_laws.specs.Serializing.{IsAt, LaysData, Serializes}
use Rattle.archive_btree_spelling.specs.Maps.{packed_spelling, btree_spelling}
use Rattle.archive_forms_laws.specs.Taking.{GivesAs}

module _ {C R W I : Type 0} (w : Spelling (List C) R) (members : WriterMembers W) (gives : I → Option C → I → Type 0) where
  -- n items came, and were written
  pub record IsBuilt (n : ℕ) (from to : I) (old new : W) (root : R) : Type 0 where
    pub items : List C
    pub came : Yields gives from items to
    pub counted : length items ≡ n
    pub written : Serializes w members items old new (Ok root)

  -- The iterator ended: no more than these items came, where more were claimed, and this is the error. `taken` items
  -- had come before them.
  pub record IsShort (claimed taken n : ℕ) (items : List C) (upto : I) (e : Error) : Type 0 where
    pub fewer : length items < n
    pub ended : (end : I) × gives upto None end
    pub tells : e ≡ IteratorLengthMismatch claimed (taken + length items)

  -- These items came, of n that are written and `behind` more that are expected after them. Regardless of what the
  -- others would have been, no more was written than of all; and then the iterator ended, or the call stopped as the
  -- writing of all may.
  pub record IsCutShort (claimed taken n behind : ℕ) (from : I) (old new : W) (e : Error) : Type 0 where
    pub items : List C
    pub upto : I
    pub came : Yields gives from items upto
    pub counted : length items ≤ n
    pub stopped :
        (others : List C) → length (items ++ others) ≡ n
        → (st : State) → IsAt members.pos members.known old st
        → LaysData {B = R} members old new (w.piece (items ++ others) st) (λ root. ⊥)
        (λ d. w.piece_refused (items ++ others) st d ⊎ IsShort claimed taken (n + behind) items upto d) (Err e)

module _ {A B R Q W I : Type 0} (most : ℕ) (k v : Shape) (keys : Spelling A R) (vals : Spelling B Q) (members : WriterMembers W) (gives : I → Option (A × B) → I → Type 0) where
  -- what a call guarantees that writes the packed tree of n items, which has at most `levels` levels
  abbrev pub Builds : (levels n claimed taken : ℕ) → I → I → W → W → Result (Option ℕ) Error → Type 0
  Builds levels n claimed taken from to old new result =
      let w = packed_spelling most k v keys vals levels in
      MatchResult result (IsBuilt w members gives n from to old new) (IsCutShort w members gives claimed taken n 0 from old new)

  -- more items came than were claimed: the tree of the first ones was written, and this is the error
  pub record IsExceeded (claimed : ℕ) (from : I) (old new : W) (e : Error) : Type 0 where
    pub items : List (A × B)
    pub came : Drains gives from items
    pub more : claimed < length items
    pub written : (root : Option ℕ) × Serializes (btree_spelling most k v keys vals) members (take claimed items) old new (Ok root)
    pub tells : e ≡ IteratorLengthMismatch claimed (min (length items) (2 ^ 64 - 1))

  -- What a call guarantees that writes the packed tree of all items, whose number is claimed, and whose result keeps
  -- the position of its root: that number came, and no more; or fewer came or the writing stopped; or more came.
  abbrev pub BuildsClaimedBy : {Z : Type 0} → (Z → Option ℕ) → ℕ → I → W → W → Result Z Error → Type 0
  BuildsClaimedBy root claimed from old new result =
      let w = btree_spelling most k v keys vals in
      MatchResult result
      (λ z. (xs : List (A × B)) × Drains gives from xs × (length xs ≡ claimed) × Serializes w members xs old new (Ok (root z)))
      (λ e. IsCutShort w members gives claimed 0 claimed 0 from old new e ⊎ IsExceeded claimed from old new e)

  -- the same of a call whose result is the position of its root
  abbrev pub BuildsClaimed : ℕ → I → W → W → Result (Option ℕ) Error → Type 0
  BuildsClaimed claimed from old new result = BuildsClaimedBy (λ (r : Option ℕ). r) claimed from old new result

-- the same of a call that takes the entry after the tree as well, where entries are seen as their keys and values
abbrev pub BuildsLesser : {A B R Q W I T : Type 0} (most : ℕ) (k v : Shape) (keys : Spelling A R) (vals : Spelling B Q) (members : WriterMembers W) (parts : T → A × B) (gives : I → Option T → I → Type 0)
    (levels n claimed taken : ℕ) → I → I → W → W → Result (Option ℕ × T) Error → Type 0
BuildsLesser {W = W} {I = I} most k v keys vals members parts gives levels n claimed taken from to old new result =
    let w = packed_spelling most k v keys vals levels in
    MatchResult result
    (λ r. (upto : I) × IsBuilt w members (GivesAs parts gives) n from upto old new r.0 × gives upto (Some r.1) to)
    (IsCutShort w members (GivesAs parts gives) claimed taken n 1 from old new)
