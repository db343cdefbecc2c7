use Rattle.std.proofs.Common.{◌≡◌, ℕ, ◌+◌, ◌-◌, ◌*◌, ◌/◌, ◌<◌, suc, List, [], ◌∷◌, refl, arith, ap, sym, ◌∙◌, length, drop}
use Rattle.std.specs.Int.{w64, from_le_bytes}
use Rattle.archive_shape_canonical.specs.Hash.{hash_word, hash_words, words_of, words_from}
use Rattle.archive_hash_probing.proofs.scanning.hashing.with_bytes.Goals as goal
use Rattle.archive_hash_probing.proofs.scanning.hashing.with_bytes.Invariants.{words_left}

first_word : (bytes : List ℕ) (i m n : ℕ) → n ≡ suc m
    → words_from bytes i n ≡ from_le_bytes w64 (drop (8 * i) bytes) ∷ words_from bytes (i + 1) m
unfolding words_from
first_word bytes i m n e = ap (words_from bytes i) e ∙ refl

no_words : (bytes : List ℕ) (i n : ℕ) → n ≡ 0 → words_from bytes i n ≡ []
unfolding words_from
no_words bytes i n e = ap (words_from bytes i) e ∙ refl

-- the hash of the words from the one at index `at` on is that of those after it, once it is hashed
after_word : (bytes : List ℕ) (at i j h k : ℕ) → at ≡ 8 * i → j ≡ i + 1 → at < length bytes
    → k ≡ hash_word h (from_le_bytes w64 (drop at bytes))
    → hash_words k (words_left bytes j) ≡ hash_words h (words_left bytes i)
after_word bytes at i j h k whole next within is =
    let later : ℕ = (length bytes + 7) / 8 - (i + 1) in
    let e : (length bytes + 7) / 8 - i ≡ suc later = omega arith in
    ap (λ n. hash_words k (words_left bytes n)) next
    ∙ ap (λ x. hash_words x (words_left bytes (i + 1)))
    (is ∙ ap (λ n. hash_word h (from_le_bytes w64 (drop n bytes))) whole)
    ∙ sym (ap (hash_words h) (first_word bytes i later ((length bytes + 7) / 8 - i) e))

pub loop-at-init : goal.loop-at-init
unfolding words_of
loop-at-init c =
    let e : (length c.args.bytes.now + 7) / 8 - 0 ≡ (length c.args.bytes.now + 7) / 8 = omega arith in
    record {
      whole = refl;
      within = omega arith;
      words = ap (λ n. hash_words c.args.state (words_from c.args.bytes.now 0 n)) e;
    }

pub loop-at-preserved : goal.loop-at-preserved
loop-at-preserved c = record {
  whole = omega arith;
  within = omega arith;
  words = after_word c.args.bytes.now c.loop-at.at (c.loop-at.at / 8) ((c.loop-at.at + 8) / 8) c.loop-at.hash _
      c.loop-at.invariant.whole (omega arith) (omega arith)
      (c.with_word-hash.ensures ∙ ap (hash_word c.loop-at.hash) c.whole_word.ensures) ∙ c.loop-at.invariant.words;
}

pub returns-then-at-bytes : goal.returns-then-at-bytes
returns-then-at-bytes c =
    let bytes = c.args.bytes.now in
    let i = c.loop-at.at / 8 in
    let e : (length bytes + 7) / 8 - (i + 1) ≡ 0 = omega arith in
    let hash = c.with_word-hash-then-at-bytes.result in
    let is : hash ≡ hash_word c.loop-at.hash (from_le_bytes w64 (drop c.loop-at.at bytes)) =
    c.with_word-hash-then-at-bytes.ensures ∙ ap (hash_word c.loop-at.hash) c.last_word.ensures in
    sym (ap (hash_words hash) (no_words bytes (i + 1) _ e))
    ∙ after_word bytes c.loop-at.at i (i + 1) c.loop-at.hash hash c.loop-at.invariant.whole refl (omega arith) is
    ∙ c.loop-at.invariant.words

pub returns-else-at-bytes : goal.returns-else-at-bytes
returns-else-at-bytes c =
    let i = c.loop-at.at / 8 in
    let e : (length c.args.bytes.now + 7) / 8 - i ≡ 0 = omega arith in
    sym (ap (hash_words c.loop-at.hash) (no_words c.args.bytes.now i _ e)) ∙ c.loop-at.invariant.words
