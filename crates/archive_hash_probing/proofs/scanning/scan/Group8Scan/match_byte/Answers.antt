use Rattle.std.proofs.Common.{ℕ, ◌<◌, map, refl, ◌∙◌, arith, bit_xor, List}
use Rattle.std.specs.Int.{w64, to_le_bytes}
use Rattle.archive_hash_probing.specs.Words.{marks_from}
use Rattle.archive_hash_probing.proofs.WordLemmas.{xor_lanes, xor_AreBytes, word_is, word_AreBytes, words_match}
use Rattle.archive_hash_probing.proofs.scanning.scan.Group8Scan.match_byte.Goals as goal

pub returns : goal.returns
returns c =
    let word = c.args.self.word in
    let lanes : List ℕ = to_le_bytes w64 word in
    let tag = c.args.tag in
    let byte : tag < 256 = omega arith in
    let xs : List ℕ = map (λ x. bit_xor x tag) lanes in
    let e = (λ i. bit_xor (word_is word c.args.self.fits i) (c.repeated.ensures i)) ∙ xor_lanes lanes tag (word_AreBytes word) byte in
    (marks_from xs 0, c.gathered.ensures (marks_from xs 0) refl (c.marked.ensures xs refl (xor_AreBytes lanes tag (word_AreBytes word) byte) e), words_match lanes tag c.requires)
