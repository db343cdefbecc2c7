use Rattle.std.proofs.Common.{refl, rules}
use Rattle.cabinet_text_reading.proofs.Cuts.{none_cut, one_word_cut, two_words_cut}
use Rattle.cabinet_text_reading.proofs.lines.leaf.split_head.Goals as goal

pub returns-then-eq-clause-cut : goal.returns-then-eq-clause-cut
returns-then-eq-clause-cut c =
    let words = c.split_word.ensures in
    none_cut _ _ _ words.whole words.word words.rest (search rules)

pub returns-in_default-clause-cut : goal.returns-in_default-clause-cut
returns-in_default-clause-cut c =
    let words = c.split_word.ensures in
    one_word_cut _ _ _ _ words.whole words.word words.rest (search rules) c.as_slice-2.ensures c.in_default.ensures

pub returns-clause-cut : goal.returns-clause-cut
returns-clause-cut c =
    let words = c.split_word.ensures in
    let arguments = c.split_word-2.ensures in
    let cut = c.split_at.ensures in
    two_words_cut _ _ _ _ _ _ _ _ _ _ words.whole (search rules) c.in-Some.ensures c.as_slice-2.ensures
    arguments.whole words.word arguments.word arguments.rest cut.front cut.back refl
