-- The hash of a text is that of what a text feeds to a hasher.
use Rattle.std.proofs.Common.{◌≡◌, ◌∙◌, ℕ, List, [], ◌∷◌, ◌++◌, refl, ap}
use Rattle.std.specs.Hash as fed
use Rattle.archive_shape_canonical.specs.Hash.{hash_word, hash_words, text_hash, words_of, words_from}
use Rattle.archive_hash_probing.specs.Inputs.{input_hash}

words_appended : (h : ℕ) (ws vs : List ℕ) → hash_words h (ws ++ vs) ≡ hash_words (hash_words h ws) vs
words_appended h [] vs = refl
words_appended h (w ∷ ws) vs = words_appended (hash_word h w) ws vs

one_word : 255 ∷ [] ≡ words_of (255 ∷ [])
unfolding words_of words_from
one_word = refl

pub text_fed : (text : List ℕ) → text_hash text ≡ input_hash (fed.str text)
unfolding text_hash input_hash
text_fed text = words_appended 0 (words_of text) (255 ∷ []) ∙ ap (hash_words (hash_words 0 (words_of text))) one_word
