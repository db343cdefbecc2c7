use Rattle.cabinet_text_reading.proofs.Paths.{no_space, no_word, begins}
use Rattle.cabinet_text_reading.proofs.lines.path.next_step.Goals as goal

pub returns-in_default : goal.returns-in_default
returns-in_default c = no_space _ _ c.as_slice.ensures c.in_default.ensures

pub returns-in_default-read_step : goal.returns-in_default-read_step
returns-in_default-read_step c =
    no_word _ _ _ _ _ c.as_slice.ensures c.in-Some.ensures c.split_word.ensures.whole c.split_word.ensures.word c.split_word.ensures.rest c.in_default-read_step.ensures

pub returns : goal.returns
returns c =
    (c.in-Some-read_step.ensures.0, begins _ _ _ _ _ _ c.as_slice.ensures c.in-Some.ensures c.split_word.ensures.whole c.split_word.ensures.word c.split_word.ensures.rest c.in-Some-read_step.ensures.1)
