-- The result of a session in the image of a document.
use Rattle.std.proofs.Common.{◌≡◌, ◌≤◌, ◌++◌, ℕ, List, length, take, drop, Ok, Err, subst, sym, ap, ◌∙◌, append-nil, arith}
use Rattle.std.specs.Prelude.{Bool, Result, IfOk, IfErr}
use Rattle.std.proofs.lemmas.List.{take_all, drop_all}
use Rattle.cabinet_text_grammar.specs.Tree.{Tree}
use Rattle.cabinet_documents.specs.Accepted.{Accepted}
use Rattle.cabinet_documents.specs.Image.{Image}
use Rattle.cabinet.specs.Steps.{Carried, CarriedCut, CarriedUpTo, Completed, Faulted}
use Rattle.cabinet_text.specs.Session.{lines_in_place}
use Rattle.cabinet_text.specs.Working.{AnswersAsDocument, AnswersCut, AnswersUpTo}
use Rattle.cabinet.specs.Headline.{WorksInPlace}
use Rattle.cabinet_text.specs.declared.session.Count.{Count}
use Rattle.cabinet_text.specs.declared.session.RunFault.{RunFault}
use Rattle.cabinet_text.specs.declared.session.RunCause.{RunCause}
use Rattle.cabinet_text.specs.declared.session.RunCause.TheVariants.{Read, Write, OutOfMemory, LineTooLong, InputTooLong}

module _ (counts : Bool) (t : Tree) (input left x y old new : List ℕ) (i : Image t x) where
  a : Accepted x t
  a = i.accepted

  abbrev Leaves : Tree → Type 0
  Leaves u = Image u y

  carried_answers : (lines edited : ℕ) → Carried input x y old new lines edited → AnswersAsDocument lines_in_place Leaves t input old new lines edited
  carried_answers lines edited c = record {
    said = c.said;
    say = c.say;
    count = c.count;
    short = c.short;
    written = c.answered t a;
    leaves = c.edits_done.image t i;
    edits_counted = c.edits_counted t a;
  }

  cut_answers : (lines edited : ℕ) → CarriedCut counts input x y old new lines edited → AnswersCut lines_in_place Leaves counts t input old new lines edited
  cut_answers lines edited c = record {
    before = c.before;
    last = c.last;
    say = c.say;
    count = c.count;
    short = c.short;
    written = c.answered t a;
    lost = λ u. c.lost u t a;
    leaves = c.edits_done.image t i;
    edits_counted = c.edits_counted t a;
  }

  answers_up_to : (lines edited : ℕ) (cause : RunCause) → CarriedUpTo counts cause input x y old new lines edited
      → AnswersUpTo lines_in_place Leaves counts cause t input old new lines edited
  answers_up_to lines edited Read c = carried_answers lines edited c
  answers_up_to lines edited Write c = cut_answers lines edited c
  answers_up_to lines edited OutOfMemory c = carried_answers lines edited c
  answers_up_to lines edited LineTooLong c = carried_answers lines edited c
  answers_up_to lines edited InputTooLong c = carried_answers lines edited c

  pub works : (r : Result Count RunFault)
      → IfOk r (λ n. Completed input x y old new n.lines n.edits)
      → IfErr r (λ f. Faulted counts input left x y old new f.lines f.edits f.cause)
      → WorksInPlace counts t input left old new y r
  works (Ok n) done fault = (carried_answers n.lines n.edits done.carried, done.all, done.short)
  works (Err f) done fault = (answers_up_to f.lines f.edits f.cause fault.0, fault.1)

-- bytes that are those of an archive are an archive
pub accepted-along : (x y : List ℕ) → x ≡ y → ∥ ((s : Tree) × Accepted y s) ∥₁ → ∥ ((s : Tree) × Accepted x s) ∥₁
accepted-along x y same accepted =
    let P : List ℕ → Type 0 = λ bytes. ∥ ((s : Tree) × Accepted bytes s) ∥₁ in subst P (sym same) accepted

-- a slice of a whole list, written back
pub whole_back : (n : ℕ) (x y : List ℕ) → length y ≡ length x → length y ≤ n → take n (y ++ drop (length y) x) ≡ y
whole_back n x y e h =
    ap (λ d. take n (y ++ d)) (drop_all (length y) x (omega arith)) ∙ ap (take n) (append-nil y) ∙ take_all n y h
