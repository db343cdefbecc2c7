-- The outcome of an edit, as an answer.
use Rattle.cabinet_text_grammar.specs.Answering.{Answer, missing, done, refused}
use Rattle.cabinet_text_nodes.specs.declared.answer.EditAnswer.{EditAnswer}
use Rattle.cabinet_text_nodes.specs.declared.answer.EditAnswer.TheVariants.{Done, Missing, Refused}

abbrev pub outcome_of : EditAnswer → Answer
outcome_of Done = done
outcome_of Missing = missing
outcome_of Refused = refused
