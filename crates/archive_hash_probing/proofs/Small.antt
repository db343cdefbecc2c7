-- Hashes of keys fit into 64 bits.
use Rattle.std.proofs.Common.{ℕ, ◌^◌, ◌<◌, List, [], ◌∷◌, arith}
use Rattle.std.specs.List.{fold}
use Rattle.archive_shape_canonical.specs.Hash.{hash_word, hash_words, words_of}
use Rattle.archive_hash_probing.specs.Inputs.{input_hash}

word_small : (h w : ℕ) → hash_word h w < 2 ^ 64
unfolding hash_word
word_small h w = omega arith

words_small : (h : ℕ) (ws : List ℕ) → h < 2 ^ 64 → hash_words h ws < 2 ^ 64
words_small h [] small = small
words_small h (w ∷ ws) small = words_small (hash_word h w) ws (word_small h w)

inputs_small : (h : ℕ) (inputs : List (List ℕ)) → h < 2 ^ 64 → fold (λ k bytes. hash_words k (words_of bytes)) h inputs < 2 ^ 64
inputs_small h [] small = small
inputs_small h (bytes ∷ inputs) small = inputs_small (hash_words h (words_of bytes)) inputs (words_small h (words_of bytes) small)

pub input_hash_small : (inputs : List (List ℕ)) → input_hash inputs < 2 ^ 64
unfolding input_hash
input_hash_small inputs = inputs_small 0 inputs (omega arith)
