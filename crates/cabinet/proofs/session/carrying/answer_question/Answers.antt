use Rattle.cabinet_text_nodes.specs.View.{line_of}
use Rattle.cabinet_text.proofs.Questions.{question_done}
use Rattle.cabinet.proofs.Sessions.{edited_by_question}
use Rattle.cabinet.proofs.session.carrying.answer_question.Goals as goal

pub returns-in-Ok : goal.returns-in-Ok
returns-in-Ok g c = record {
  unedited = edited_by_question _ (line_of c.args.question.now) c.requires.question;
  undone = λ t. question_done t (line_of c.args.question.now) c.requires.question;
  written = c.in-Ok.ensures.written;
  counted = c.in-Ok.ensures.counted;
}

pub returns-in-Err : goal.returns-in-Err
returns-in-Err g c = record {
  unedited = edited_by_question _ (line_of c.args.question.now) c.requires.question;
  undone = λ t. question_done t (line_of c.args.question.now) c.requires.question;
  written = c.in-Err.ensures.written;
  counted = c.in-Err.ensures.counted;
}
