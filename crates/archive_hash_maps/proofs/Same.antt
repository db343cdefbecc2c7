-- What look-ups of values state about the pairs of a map of std.
use denote.Ref.{Bor}
use Rattle.std.proofs.Common.{◌≡◌, ℕ, List, ◌∷◌, Option, Some, None, Contains, refl, ap, sym, subst, arith}
use Rattle.std.specs.Option.{option_map}
use Rattle.archive_shape_layout.specs.Shape.{Shape}
use Rattle.archive_shape.specs.declared.references.refs.Ref.{Ref}
use Rattle.archive_hash_maps.specs.Maps.{value_at}

-- a value that is found is in the map's bytes
pub found_in : {V : Type 0} (bytes : Bor (List ℕ)) (k v : Shape) (r : Ref V) (o : Option ℕ) → Some r ≡ option_map (value_at {V = V} bytes k v) o → r.bytes ≡ bytes
found_in bytes k v r None e = absurd cc
found_in bytes k v r (Some at) e = let is : r ≡ value_at bytes k v at = cc in ap (λ x. x.bytes) is

-- the first of what is left, and those after it, are among it
pub first_among : {A : Type 0} (x : A) (xs ys : List A) → ys ≡ x ∷ xs → Contains ys x
first_among x xs ys e = subst (λ s. Contains s x) (sym e) (0, omega arith, refl)
