use Rattle.cabinet_text.proofs.Questions.{question_replied}
use Rattle.cabinet_text.proofs.session.editing.Reply.edits.Goals as goal

pub returns-in-Question : goal.returns-in-Question
returns-in-Question c = question_replied c.args.document.now c.in-Question.field-0 c.args.self.now c.in-Question.is c.requires
