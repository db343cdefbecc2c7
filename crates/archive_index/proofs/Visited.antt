-- What a call that an entry is lent to leaves, where the entry's position is known as another one.
use denote.Ref.{MutBor}
use Rattle.std.proofs.Common.{◌≡◌, ℕ, List, subst}
use Rattle.archive_shape_layout.specs.Shape.{Shape}
use Rattle.archive_shape_layout.specs.Shape.Shapes.{no_shapes}
use Rattle.archive_shape.specs.declared.references.refs.Ref.{Ref}
use Rattle.archive_shape.specs.declared.references.own_seal.OwnSeal.{OwnSeal}
use Rattle.archive_forms_values.specs.Fields.{field_position}
use Rattle.archive_forms_values.specs.Loans.{LeavesLent}

pub left_at : {K V : Type 0} {size : ℕ} {bytes out : List ℕ} {at other : ℕ} {calls : Ref K → MutBor (OwnSeal V) → MutBor (OwnSeal V) → Type 0} (k v : Shape) → at ≡ other
    → LeavesLent size bytes at (field_position k no_shapes v at) calls out → LeavesLent size bytes other (field_position k no_shapes v other) calls out
left_at {size = size} {bytes = bytes} {out = out} {calls = calls} k v e h = subst (λ p. LeavesLent size bytes p (field_position k no_shapes v p) calls out) e h
