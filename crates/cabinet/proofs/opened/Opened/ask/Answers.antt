use Rattle.cabinet_text_grammar.specs.Answering.{answer}
use Rattle.cabinet_text_nodes.specs.Answers.{Tells}
use Rattle.cabinet_text_nodes.specs.View.{line_of}
use Rattle.cabinet.proofs.Roots.{of_accepted, answer_of_accepted}
use Rattle.cabinet.proofs.opened.Opened.ask.Goals as goal

pub returns-clause-written : goal.returns-clause-written
returns-clause-written g c = λ t a. of_accepted c.args.self.now.bytes.now _ _ t _ c.root.ensures.bytes c.root.ensures.position a c.ask.ensures.written

pub returns-clause-asked : goal.returns-clause-asked
returns-clause-asked g c =
    answer_of_accepted c.args.self.now.bytes.now _ _ (λ asked t. Tells asked (answer t (line_of c.args.line.now))) c.ask.result c.root.ensures.bytes c.root.ensures.position
    c.ask.ensures.asked
