use Rattle.std.proofs.Common.{rules}
use Rattle.cabinet_text_grammar.specs.Wholes.{wholes_of}
use Rattle.cabinet_text.proofs.answering.question.answer.Goals as goal

pub returns-in-Keys-clause-written : goal.returns-in-Keys-clause-written
returns-in-Keys-clause-written g c = let told = c.answer_keys.ensures.written (wholes_of c.args.document.now) in search rules

pub returns-in-Keys-clause-asked : goal.returns-in-Keys-clause-asked
returns-in-Keys-clause-asked g c = let told = c.answer_keys.ensures.asked (wholes_of c.args.document.now) in search rules

pub returns-in-Range-line-clause-written : goal.returns-in-Range-line-clause-written
returns-in-Range-line-clause-written g c = let told = c.answer_range.ensures.written (wholes_of c.args.document.now) in search rules

pub returns-in-Range-line-clause-asked : goal.returns-in-Range-line-clause-asked
returns-in-Range-line-clause-asked g c = let told = c.answer_range.ensures.asked (wholes_of c.args.document.now) in search rules

pub returns-in-Get-line-clause-written : goal.returns-in-Get-line-clause-written
returns-in-Get-line-clause-written g c = let told = c.answer_head.ensures.written (wholes_of c.args.document.now) in search rules

pub returns-in-Get-line-clause-asked : goal.returns-in-Get-line-clause-asked
returns-in-Get-line-clause-asked g c = let told = c.answer_head.ensures.asked (wholes_of c.args.document.now) in search rules
