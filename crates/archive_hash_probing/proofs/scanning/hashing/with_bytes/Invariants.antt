use Rattle.std.proofs.Common.{◌≡◌, ℕ, ◌+◌, ◌-◌, ◌*◌, ◌/◌, ◌≤◌, List, length}
use Rattle.archive_shape_canonical.specs.Hash.{hash_words, words_of, words_from}
use Rattle.archive_hash_probing.proofs.scanning.hashing.with_bytes.Given as goal

-- the words from word i on
abbrev pub words_left : List ℕ → ℕ → List ℕ
words_left bytes i = words_from bytes i ((length bytes + 7) / 8 - i)

abbrev pub invariant-loop-at : goal.invariant-loop-at
invariant-loop-at l = record {
  whole : l.at ≡ 8 * (l.at / 8);
  within : l.at ≤ length l.bytes;
  words : hash_words l.hash (words_left l.bytes (l.at / 8)) ≡ hash_words l.initial.hash (words_of l.bytes);
}

abbrev pub decreases-loop-at : goal.decreases-loop-at
decreases-loop-at l = length l.bytes + 1 - l.at
