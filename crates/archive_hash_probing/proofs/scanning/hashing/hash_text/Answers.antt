use Rattle.std.proofs.Common.{◌≡◌, ℕ, List, [], ◌∷◌, ◌++◌, refl, sym, ◌∙◌}
use Rattle.archive_shape_canonical.specs.Hash.{hash_word, hash_words, text_hash, words_of, words_from}
use Rattle.archive_hash_probing.proofs.scanning.hashing.hash_text.Goals as goal

hash_words-append : (h : ℕ) (ws vs : List ℕ) → hash_words h (ws ++ vs) ≡ hash_words (hash_words h ws) vs
hash_words-append h [] vs = refl
hash_words-append h (w ∷ ws) vs = hash_words-append (hash_word h w) ws vs

one_word : words_of (255 ∷ []) ≡ 255 ∷ []
unfolding words_of words_from
one_word = refl

pub returns : goal.returns
unfolding text_hash
returns c =
    let h = c.hash_value.ensures in
    let words = words_of c.args.text.now in
    h.2 ∙ (λ i. hash_words (hash_words (h.1 i) words) (one_word i)) ∙ sym (hash_words-append 0 words (255 ∷ []))
