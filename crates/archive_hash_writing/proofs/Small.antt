-- Hashes of texts fit into 64 bits.
use Rattle.std.proofs.Common.{ℕ, ◌^◌, ◌<◌, List, [], ◌∷◌, map, sym, subst}
use Rattle.std.specs.Hash as fed
use Rattle.std.specs.List.{All}
use Rattle.std.proofs.lemmas.List.Elements.{All-nil, All-cons}
use Rattle.archive_shape_canonical.specs.Hash.{text_hash}
use Rattle.archive_hash_probing.proofs.Small.{input_hash_small}
use Rattle.archive_hash_writing.proofs.TextHash.{text_fed}

pub text_hash_small : (text : List ℕ) → text_hash text < 2 ^ 64
text_hash_small text = subst (λ n. n < 2 ^ 64) (sym (text_fed text)) (input_hash_small (fed.str text))

pub text_hashes_small : {A : Type 0} (key : A → List ℕ) (xs : List A) → All (λ h. h < 2 ^ 64) (map (λ x. text_hash (key x)) xs)
text_hashes_small key [] = All-nil (λ h. h < 2 ^ 64)
text_hashes_small key (x ∷ xs) = All-cons (λ h. h < 2 ^ 64) (text_hash (key x)) (map (λ y. text_hash (key y)) xs) (text_hash_small (key x)) (text_hashes_small key xs)
