-- The hash of a key that feeds several inputs to a hasher.
use Rattle.std.specs.Prelude.{ℕ, List}
use Rattle.std.specs.List.{fold}
use Rattle.archive_shape_canonical.specs.Hash.{hash_words, words_of}

-- a fold over the words of each input
unfoldable pub input_hash : List (List ℕ) → ℕ
input_hash inputs = fold (λ h bytes. hash_words h (words_of bytes)) 0 inputs
