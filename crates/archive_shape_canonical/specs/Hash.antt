-- The hash of a text: a fold over its words of eight bytes.
use Rattle.std.specs.Prelude.{ℕ, ◌+◌, ◌*◌, ◌/◌, ◌%◌, ◌^◌, List, [], ◌∷◌, ◌++◌, map, drop, length, bit_xor}
use Rattle.std.specs.List.{range_with_len}
use Rattle.std.specs.Int.{w64, from_le_bytes, rotate_left}

-- one word more
unfoldable pub hash_word : ℕ → ℕ → ℕ
hash_word h word = bit_xor (rotate_left w64 h 5) word * 0x517cc1b727220a95 % 2 ^ 64

-- all words, in order
abbrev pub hash_words : ℕ → List ℕ → ℕ
hash_words h [] = h
hash_words h (word ∷ words) = hash_words (hash_word h word) words

-- n words of bytes from word i on: little endian, eight bytes each, with zeros for bytes past the end
unfoldable pub words_from : List ℕ → ℕ → ℕ → List ℕ
words_from bytes i n = map (λ k. from_le_bytes w64 (drop (8 * k) bytes)) (range_with_len i n)

-- all words, where a rest of fewer than eight bytes is one word
unfoldable pub words_of : List ℕ → List ℕ
words_of bytes = words_from bytes 0 ((length bytes + 7) / 8)

-- a text hashes its bytes, then the word ff
unfoldable pub text_hash : List ℕ → ℕ
text_hash text = hash_words 0 (words_of text ++ 255 ∷ [])
