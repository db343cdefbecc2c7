-- The outcomes of edits of documents are the answers to the lines that request them.
use Rattle.std.proofs.Common.{◌≡◌, Ok, refl, subst}
use Rattle.std.specs.Prelude.{Result}
use Rattle.std.specs.declared.alloc.AllocError.{AllocError}
use Rattle.cabinet_text_grammar.specs.EditLine.{outcome_of_edit, edited_or}
use Rattle.cabinet_text_grammar.specs.Restructuring.{Edited, edited, missing, refused}
use Rattle.cabinet_text_grammar.specs.Tree.{Tree}
use Rattle.cabinet_text_nodes.specs.Outcomes.{outcome_of}
use Rattle.cabinet_text_nodes.specs.Restructures.{Becomes, BecomesOrStays}
use Rattle.cabinet_text_nodes.specs.declared.answer.EditAnswer.{EditAnswer}
use Rattle.cabinet_text_nodes.specs.declared.answer.EditAnswer.TheVariants.{Done, Missing, Refused}

pub becomes : (e : Edited Tree) (answer : EditAnswer) (old new : Tree) → Becomes e answer old new
    → (outcome_of answer ≡ outcome_of_edit e) × (new ≡ edited_or old e)
becomes (edited t) Done old new h = (refl, h)
becomes (edited t) Missing old new h = absurd h
becomes (edited t) Refused old new h = absurd h
becomes missing Done old new h = absurd h
becomes missing Missing old new h = (refl, h)
becomes missing Refused old new h = absurd h
becomes refused Done old new h = absurd h
becomes refused Missing old new h = absurd h
becomes refused Refused old new h = (refl, h)

pub becomes_or_stays : (e : Edited Tree) (result : Result EditAnswer AllocError) (answer : EditAnswer) (old new : Tree) → result ≡ Ok answer
    → BecomesOrStays e result old new → (outcome_of answer ≡ outcome_of_edit e) × (new ≡ edited_or old e)
becomes_or_stays e result answer old new is h = becomes e answer old new (subst (λ r. BecomesOrStays e r old new) is h)
