-- The keys of entries that are found.
use denote.Ref.{Bor}
use Rattle.std.proofs.Common.{◌≡◌, ℕ, List, Option, Some, None, ap}
use Rattle.std.specs.Option.{option_map}
use Rattle.archive_shape.specs.declared.references.refs.Ref.{Ref}
use Rattle.archive_btree_layout.specs.Reading.{Place}
use Rattle.archive_btree_maps.specs.Refs.{key_at, entry_at}

pub key_found : {K V : Type 0} (bytes : Bor (List ℕ)) (o : Option (Ref K × Ref V)) (d : Option Place) → o ≡ option_map (entry_at bytes) d → option_map (λ e. e.0) o ≡ option_map (key_at bytes) d
key_found bytes o None e = ap (option_map (λ p. p.0)) e
key_found bytes o (Some x) e = ap (option_map (λ p. p.0)) e
