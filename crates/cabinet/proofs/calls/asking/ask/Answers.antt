use Rattle.std.proofs.Common.{None, refl}
use Rattle.cabinet_text_grammar.specs.Answering.{answer}
use Rattle.cabinet_text_nodes.specs.View.{line_of}
use Rattle.cabinet.specs.ByteCalls.Asks.{answers, out_of_memory}
use Rattle.cabinet.proofs.CallsGiven.{written_alone}
use Rattle.cabinet.proofs.CallsLines.{is_edit, asks_question, asks_edit, question_takes, read_takes}
use Rattle.cabinet.proofs.calls.asking.ask.Goals as goal

pub returns-in-Err-Bad-clause-asks : goal.returns-in-Err-Bad-clause-asks
returns-in-Err-Bad-clause-asks c = answers None (rw c.in-Err-Bad.field-0-is at c.in-Err-Bad.ensures.refused) (λ t a. ((refl, refl), refl))

pub returns-in-Err-OutOfMemory-clause-asks : goal.returns-in-Err-OutOfMemory-clause-asks
returns-in-Err-OutOfMemory-clause-asks c =
    let h = rw c.in-Err-OutOfMemory.field-0-is at c.in-Err-OutOfMemory.ensures.refused in
    out_of_memory h.0 h.1 (read_takes h.0 h.2) (refl, refl) refl

pub returns-then-not-is_question-clause-asks : goal.returns-then-not-is_question-clause-asks
returns-then-not-is_question-clause-asks c =
    asks_edit _ _ _ _ _ _ (line_of c.in-Ok.question) (is_edit _ _ c.is_question.ensures c.if-not-is_question.true) c.in-Ok.ensures.said (refl, refl) refl

pub returns-in-Ok-ask-clause-asks : goal.returns-in-Ok-ask-clause-asks
returns-in-Ok-ask-clause-asks c =
    let e = c.in-Ok-ask.ensures in
    let q = line_of c.in-Ok.question in
    asks_question _ _ _ _ _ _ _ _ q (c.is_question.ensures.0 c.if-not-is_question.false) c.in-Ok.ensures.said
    (λ t a. written_alone _ _ _ _ c.as_slice.ensures.value ((e.written t (rw c.new-opened.ensures.contents a)).gains refl) c.new-answer.ensures.items)
    (λ t a. c.of_asked.ensures (answer t q) (e.asked t (rw c.new-opened.ensures.contents a)))
    c.put.ensures

pub returns-clause-asks : goal.returns-clause-asks
returns-clause-asks c =
    let q = line_of c.in-Ok.question in
    out_of_memory q c.in-Ok.ensures.said (question_takes q (c.is_question.ensures.0 c.if-not-is_question.false)) (refl, refl) refl
