-- Loans of values of a buffer with only their own bytes.
use denote.Ref.{MutBor}
use Rattle.std.proofs.Common.{◌≡◌, ℕ, List, take, sym, subst}
use Rattle.archive_forms_values.specs.Loans.{IsLent, LeavesOwn, LeavesLent}
use Rattle.archive_shape.specs.declared.references.refs.Ref.{Ref}
use Rattle.archive_shape.specs.declared.references.own_seal.OwnSeal.{OwnSeal}

-- what holds of the key in the bytes before the value holds of the key that is lent
pub lent_there : {K V : Type 0} (P : List ℕ → ℕ → Type 0) (size : ℕ) (bytes : List ℕ) (key_place place : ℕ) (key : Ref K) (value : OwnSeal V) → IsLent size bytes key_place place key value
    → P (take place bytes) key_place → P key.bytes.now key.pos
lent_there P size bytes key_place place key value lent h = subst (λ b. P b key.pos) (sym lent.key_bytes) (subst (P (take place bytes)) (sym lent.key_pos) h)

-- what is left of these bytes and this position is left of equal ones
module _ {size : ℕ} {bytes others out : List ℕ} {place other : ℕ} (e : bytes ≡ others) (f : place ≡ other) where
  pub own_from : {V : Type 0} {calls : MutBor (OwnSeal V) → MutBor (OwnSeal V) → Type 0} → LeavesOwn size bytes place calls out → LeavesOwn size others other calls out
  own_from {V} {calls} h = subst (λ b. LeavesOwn size b other calls out) e (subst (λ p. LeavesOwn size bytes p calls out) f h)

  pub lent_from : {K V : Type 0} {key_place : ℕ} {calls : Ref K → MutBor (OwnSeal V) → MutBor (OwnSeal V) → Type 0} → LeavesLent size bytes key_place place calls out → LeavesLent size others key_place other calls out
  lent_from {K} {V} {key_place} {calls} h = subst (λ b. LeavesLent size b key_place other calls out) e (subst (λ p. LeavesLent size bytes key_place p calls out) f h)
