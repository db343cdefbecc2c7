-- What the calls leave that are given a line.
use Rattle.std.proofs.Common.{◌≡◌, ◌↔◌, ℕ, Bool, true, false, IsTrue, List, [], ◌∷◌, Some, None, subst, sym, ap, ◌∙◌}
use Rattle.std.proofs.Math.Logic.{∥∥₁_map}
use Rattle.cabinet_text_grammar.specs.Tree.{Tree, Leaf}
use Rattle.cabinet_text_grammar.specs.Path.{Step}
use Rattle.cabinet_text_grammar.specs.Line.{Line, get, keys, range, set, Says}
use Rattle.cabinet_text_grammar.specs.Answering.{Answer, answer, change, spelled_answer}
use Rattle.cabinet_text_nodes.specs.Lines.{IsQuestion}
use Rattle.cabinet_text_reading.specs.Reading.{TakesMemory}
use Rattle.cabinet_documents.specs.Accepted.{Accepted}
use Rattle.cabinet.specs.Editing.{Edited}
use Rattle.cabinet.specs.Buffers.{Gives, GivesNothing}
use Rattle.cabinet.specs.ByteCalls.{Answers, AskTakesMemory, Asks, answers, CarriesOut, Sets, carries_out, out_of_memory}
use Rattle.cabinet.specs.Codes.{status_of_answer}
use Rattle.cabinet.specs.declared.calls.status.Status.{Status}
use Rattle.cabinet.specs.declared.calls.status.Status.TheVariants.{Bad}

-- ---- whether a line is a question

pub is_edit : (q : Line) (b : Bool) → IsTrue b ↔ IsQuestion q → b ≡ false → IsQuestion q → ⊥
is_edit q b h e is = let told : b ≡ true = h.1 is in cc

-- ---- asked

-- the answer to a question is given
question_answers : (t : Tree) (q : Line) (old new : List ℕ) (count : ℕ) (told : Status) → IsQuestion q
    → Gives (spelled_answer (answer t q)) (status_of_answer (answer t q)) old new count told
    → Answers t (Some q) old new count told
question_answers t (get path) old new count told is given = given
question_answers t (keys path) old new count told is given = given
question_answers t (range low high path) old new count told is given = given
question_answers t (set path l) old new count told is given = absurd is

-- the bytes that were written are those of the answer, and the status is that of the answer
pub asks_question : (archive line old new bytes : List ℕ) (count : ℕ) (given told : Status) (q : Line) → IsQuestion q → Says line (Some q)
    → ((t : Tree) → Accepted archive t → bytes ≡ spelled_answer (answer t q))
    → ((t : Tree) → Accepted archive t → given ≡ status_of_answer (answer t q))
    → Gives bytes given old new count told
    → Asks archive line old new count told
asks_question archive line old new bytes count given told q is says spelled status gives =
    answers (Some q) says (λ t a. question_answers t q old new count told is
    (subst (λ b. Gives b (status_of_answer (answer t q)) old new count told) (spelled t a)
    (subst (λ s. Gives bytes s old new count told) (status t a) gives)))

-- nothing is given for an edit
edit_answers : (t : Tree) (q : Line) (old new : List ℕ) (count : ℕ) (told : Status) → (IsQuestion q → ⊥) → GivesNothing old new count → told ≡ Bad
    → Answers t (Some q) old new count told
edit_answers t (get path) old new count told is nothing bad = absurd (is tt)
edit_answers t (keys path) old new count told is nothing bad = absurd (is tt)
edit_answers t (range low high path) old new count told is nothing bad = absurd (is tt)
edit_answers t (set path l) old new count told is nothing bad = (nothing, bad)

pub asks_edit : (archive line old new : List ℕ) (count : ℕ) (told : Status) (q : Line) → (IsQuestion q → ⊥) → Says line (Some q) → GivesNothing old new count
    → told ≡ Bad
    → Asks archive line old new count told
asks_edit archive line old new count told q is says nothing bad = answers (Some q) says (λ t a. edit_answers t q old new count told is nothing bad)

-- an answer takes memory, and so does a line that is read with some
pub question_takes : (q : Line) → IsQuestion q → AskTakesMemory q
question_takes (get path) is = tt
question_takes (keys path) is = tt
question_takes (range low high path) is = tt
question_takes (set path l) is = absurd is

pub read_takes : (q : Line) → TakesMemory q → AskTakesMemory q
read_takes (get path) takes = tt
read_takes (keys path) takes = tt
read_takes (range low high path) takes = tt
read_takes (set path l) takes = takes

-- ---- carried out

pub sets_edit : (line x y : List ℕ) (told : Status) (path : List Step) (l : Leaf) (r : Answer) → Says line (Some (set path l)) → told ≡ status_of_answer r
    → ((t : Tree) → Accepted x t → r ≡ answer t (set path l))
    → Edited x y (Some (set path l) ∷ [])
    → Sets line x y told
sets_edit line x y told path l r says status answered edited =
    carries_out (Some (set path l)) says (edited, λ t a. status ∙ ap status_of_answer (answered t a))

-- the bytes before and after it, by other names
pub sets_along : (line x y x' y' : List ℕ) (told : Status) → Sets line x' y' told → x' ≡ x → y' ≡ y → Sets line x y told
sets_along line x y x' y' told h e f = subst (λ b. Sets line b y told) e (subst (λ b. Sets line x' b told) f h)

question_carries_out : (q : Line) (x y : List ℕ) (told : Status) → IsQuestion q → y ≡ x → told ≡ Bad → CarriesOut (Some q) x y told
question_carries_out (get path) x y told is same bad = (same, bad)
question_carries_out (keys path) x y told is same bad = (same, bad)
question_carries_out (range low high path) x y told is same bad = (same, bad)
question_carries_out (set path l) x y told is same bad = absurd is

pub sets_question : (line x y : List ℕ) (told : Status) (q : Line) → IsQuestion q → Says line (Some q) → y ≡ x → told ≡ Bad → Sets line x y told
sets_question line x y told q is says same bad = carries_out (Some q) says (question_carries_out q x y told is same bad)

-- ---- accepted bytes stay accepted

stays : (x y : List ℕ) → y ≡ x → ∥ ((t : Tree) × Accepted x t) ∥₁ → ∥ ((t : Tree) × Accepted y t) ∥₁
stays x y same k = subst (λ b. ∥ ((t : Tree) × Accepted b t) ∥₁) (sym same) k

pub sets_keeps : (line x y : List ℕ) (told : Status) → Sets line x y told → ∥ ((t : Tree) × Accepted x t) ∥₁ → ∥ ((t : Tree) × Accepted y t) ∥₁
sets_keeps line x y told (carries_out None says h) k = stays x y h.0 k
sets_keeps line x y told (carries_out (Some (get path)) says h) k = stays x y h.0 k
sets_keeps line x y told (carries_out (Some (keys path)) says h) k = stays x y h.0 k
sets_keeps line x y told (carries_out (Some (range low high path)) says h) k = stays x y h.0 k
sets_keeps line x y told (carries_out (Some (set path l)) says h) k = ∥∥₁_map k (λ p. (change p.0 path l, h.0.document p.0 p.1))
sets_keeps line x y told (out_of_memory said says takes same e) k = stays x y same k
