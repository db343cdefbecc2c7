use Rattle.std.proofs.Common.{◌≡◌, ℕ, ◌+◌, ◌-◌, ◌*◌, ◌%◌, ◌^◌, ◌<◌, ◌≤◌, List, ◌∷◌, refl, arith, ap, sym, ◌∙◌, length, drop, get_or, bit_or, length-drop, get_or-drop}
use Rattle.std.proofs.lemmas.Grind.{or_after_shift}
use Rattle.std.proofs.lemmas.List.{drop_more, get_or_past}
use Rattle.std.specs.Int.{w64, from_le_bytes}
use Rattle.archive_hash_probing.proofs.scanning.hashing.last_word.Goals as goal

few_bytes_fit : (bytes : List ℕ) → ((i : ℕ) → get_or bytes i 0 < 256) → length bytes ≤ 7
    → from_le_bytes w64 bytes < 2 ^ 56
few_bytes_fit bytes each few =
    omega (arith, get_or_past bytes 7 0 few, each 0, each 1, each 2, each 3, each 4, each 5, each 6)

with_lowest_byte : (b : ℕ) (rest : List ℕ) → length rest ≤ 7
    → from_le_bytes w64 (b ∷ rest) ≡ from_le_bytes w64 rest * 256 + b
with_lowest_byte b rest few = omega (arith, get_or_past rest 7 0 few)

-- a word shifted by a byte, with the byte before its bytes, is the word from that byte on
byte_before : (bytes : List ℕ) (before end word : ℕ) → ((i : ℕ) → get_or bytes i 0 < 256) → end ≡ before + 1
    → end ≤ length bytes → length bytes ≤ before + 8 → word ≡ from_le_bytes w64 (drop end bytes)
    → bit_or (word * 256 % 2 ^ 64) (get_or bytes before 0) ≡ from_le_bytes w64 (drop before bytes)
byte_before bytes before end word each next within few is =
    let b = get_or bytes before 0 in
    let rest = drop end bytes in
    let few_left : length rest ≤ 7 = omega (arith, length-drop end bytes) in
    let fits = few_bytes_fit rest (λ i. rw get_or-drop (each (end + i))) few_left in
    let at_before : drop before bytes ≡ b ∷ rest =
    drop_more bytes before 0 (omega arith) ∙ ap (λ n. b ∷ drop n bytes) (sym next) in
    or_after_shift word 256 (2 ^ 64) b refl (each before) (omega arith) ∙ ap (λ n. n * 256 + b) is
    ∙ sym (with_lowest_byte b rest few_left) ∙ sym (ap (from_le_bytes w64) at_before)

pub loop-end-preserved : goal.loop-end-preserved
loop-end-preserved c = record {
  word_is = byte_before c.args.bytes.now (c.loop-end.end - 1) c.loop-end.end c.loop-end.word
      (λ i. omega (arith, c.type_inv.bytes i)) (omega arith) (omega arith) (omega arith) c.loop-end.invariant.word_is;
  after_start = omega arith;
  within = omega arith;
}
