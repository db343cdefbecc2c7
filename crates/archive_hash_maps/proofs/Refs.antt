-- What holds of bytes and a position holds of a reference to them.
use denote.Ref.{Bor}
use Rattle.std.proofs.Common.{◌≡◌, ℕ, List, sym, subst}
use Rattle.archive_shape.specs.declared.references.refs.Ref.{Ref}

module _ {T : Type 0} (P : Bor (List ℕ) → ℕ → Type 0) (r : Ref T) (bytes : Bor (List ℕ)) (pos : ℕ) (same : r.bytes ≡ bytes) (there : r.pos ≡ pos) where
  pub at_ref : P bytes pos → P r.bytes r.pos
  at_ref h = subst (λ b. P b r.pos) (sym same) (subst (P bytes) (sym there) h)

  pub from_ref : P r.bytes r.pos → P bytes pos
  from_ref h = subst (λ b. P b pos) same (subst (P r.bytes) there h)
