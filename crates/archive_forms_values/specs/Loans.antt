-- What is lent of values that may be written over, and what calls that they are lent to leave of the bytes.
use denote.Ref.{MutBor}
use Rattle.std.specs.Prelude.{◌≡◌, ℕ, List, [], ◌∷◌, length, take, drop, Option, Some, None, MatchOption}
use Rattle.archive_shape.specs.Bytes.{overwrite}
use Rattle.archive_shape.specs.declared.references.refs.Ref.{Ref}
use Rattle.archive_shape.specs.declared.references.own_seal.OwnSeal.{OwnSeal}

module _ {V : Type 0} (size : ℕ) (bytes : List ℕ) (place : ℕ) where
  -- the seal has the own bytes of the value at a position, which are `size` bytes
  pub record IsOwn (value : OwnSeal V) : Type 0 where
    pub own : value.own.now ≡ take size (drop place bytes)
    pub len : length value.own.now ≡ size
    pub pos : value.pos ≡ place

  -- the seal is lent to a call, which leaves other bytes: they have another value of the same length in its place, the
  -- one that the seal has, if the call left the seal there
  pub record LeavesOwn (calls : MutBor (OwnSeal V) → MutBor (OwnSeal V) → Type 0) (out : List ℕ) : Type 0 where
    pub value : MutBor (OwnSeal V)
    pub left : MutBor (OwnSeal V)
    pub own : List ℕ
    pub lent : IsOwn value.now
    pub called : calls value left
    pub as_long : length own ≡ size
    pub stays : left.now.own.ghost_name ≡ value.now.own.ghost_name → own ≡ left.now.own.now
    pub is : out ≡ overwrite bytes place own

module _ {K V : Type 0} (size : ℕ) (bytes : List ℕ) (key_place place : ℕ) where
  -- the seal has the own bytes of the value at a position; the key at another position is lent with it, and sees the
  -- bytes before the value
  pub record IsLent (key : Ref K) (value : OwnSeal V) : Type 0 where
    pub key_bytes : key.bytes.now ≡ take place bytes
    pub key_pos : key.pos ≡ key_place
    pub own_value : IsOwn size bytes place value

  -- a call may be lent both, where the key is there
  abbrev pub MayCallLent : (Ref K → Type 0) → (Ref K → MutBor (OwnSeal V) → Type 0) → Type 0
  MayCallLent there pre = (key : Ref K) (value : MutBor (OwnSeal V)) → there key → IsLent key value.now → pre key value

  -- both are lent to a call
  abbrev pub LeavesLent : (Ref K → MutBor (OwnSeal V) → MutBor (OwnSeal V) → Type 0) → List ℕ → Type 0
  LeavesLent calls out = LeavesOwn size bytes place (λ value left. (key : Ref K) × IsLent key value.now × calls key value left) out

-- a call is made at the place that is found, if there is one: the result is that of the call, else nothing changes
abbrev pub VisitsFound : {P R : Type 0} → (P → R → Type 0) → Type 0 → Option P → Option R → Type 0
VisitsFound {P} calls same found result = MatchOption result ((found ≡ None) × same) (λ answer. (p : P) × (found ≡ Some p) × calls p answer)

-- the next of the places that are left, if there is one, is passed: the result is that of a call there, else nothing
-- changes
abbrev pub VisitsNext : {P R : Type 0} → (P → R → Type 0) → Type 0 → (List P → Type 0) → List P → Option R → Type 0
VisitsNext {P} calls same left ps result =
    MatchOption result ((ps ≡ []) × same × left []) (λ answer. (p : P) × (rest : List P) × (ps ≡ p ∷ rest) × calls p answer × left rest)
