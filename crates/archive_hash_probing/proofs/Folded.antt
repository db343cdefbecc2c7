-- The hash that `FxHasher64` gives is the fold over the words of each input.
use Rattle.std.proofs.Common.{◌≡◌, ℕ, List, [], ◌∷◌, refl}
use Rattle.std.specs.List.{fold}
use Rattle.archive_shape_canonical.specs.Hash.{hash_words, words_of}
use Rattle.archive_hash_probing.specs.declared.scanning.hashing.FxHasher64.{FxHasher64}

pub folded : (h : FxHasher64) (inputs : List (List ℕ))
    → (fold (λ (k : FxHasher64) bytes. record { state = hash_words k.state (words_of bytes) }) h inputs).state ≡ fold (λ n bytes. hash_words n (words_of bytes)) h.state inputs
folded h [] = refl
folded h (bytes ∷ inputs) = folded (record { state = hash_words h.state (words_of bytes) }) inputs
