-- The results of look-ups that return the number of an entry.
use denote.Ref.{Bor}
use Rattle.std.proofs.Common.{◌≡◌, ℕ, List, Some}
use Rattle.archive_shape.specs.declared.references.refs.Ref.{Ref}
use Rattle.archive_hash_maps.specs.Places.{item_at}
use Rattle.archive_hash_maps.proofs.Lookups.{item_is}

pub full_is :
    {K V : Type 0} (bytes : Bor (List ℕ)) (i p q : ℕ) (key : Ref K) (value : Ref V)
    → key.bytes ≡ bytes → key.pos ≡ p → value.bytes ≡ bytes → value.pos ≡ q
    → let made : ℕ × Ref K × Ref V = (i, key, value) in
    let there : ℕ × Ref K × Ref V = (i, item_at bytes p, item_at bytes q) in
    Some made ≡ Some there
full_is bytes i p q key value a b c d = let e = item_is bytes p key a b in let f = item_is bytes q value c d in cc
