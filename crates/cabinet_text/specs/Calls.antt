-- What the calls of a session on a document ensure, where that is longer than a line.
use Rattle.std.specs.Prelude.{◌≡◌, ◌≢◌, ℕ, ◌+◌, List, [], Option, Result, Ok, Err, MatchResult}
use Rattle.archive_shape_layout.specs.Writing.{WriterMembers, Written, Failed}
use Rattle.archive_shape_layout.specs.declared.error.Error.{Error}
use Rattle.cabinet_text_grammar.specs.Answering.{Answer, answer, bad, spelled_answer}
use Rattle.cabinet_text_grammar.specs.EditLine.{SaysEdit, edit_reply, after_edit}
use Rattle.cabinet_text_grammar.specs.EditLine as grammar
use Rattle.cabinet_text_grammar.specs.Tree.{Tree}
use Rattle.cabinet_text_nodes.specs.Outcomes.{outcome_of}
use Rattle.cabinet_text_nodes.specs.Lines.{IsQuestion}
use Rattle.cabinet_text_nodes.specs.View.{line_of}
use Rattle.cabinet_text.specs.Failures.{ReaderFails, WriterFails}
use Rattle.cabinet_text.specs.Session.{one_if_done}
use Rattle.cabinet_text.specs.declared.session.Count.{Count}
use Rattle.cabinet_text.specs.declared.session.RunCause.{RunCause}
use Rattle.cabinet_text.specs.declared.session.RunCause.TheVariants.{Write, OutOfMemory}
use Rattle.cabinet_text.specs.declared.session.RunFault.{RunFault}
use Rattle.cabinet_text.specs.declared.session.editing.Reply.{Reply}
use Rattle.cabinet_text.specs.declared.session.editing.Reply.TheVariants as reply
use Rattle.cabinet_text.specs.declared.source.Source.{Ghosts}
use Rattle.std.specs.declared.alloc.AllocError.{AllocError}

-- the answer of a document that a reply has or asks for
abbrev pub answer_by : Tree → Reply → Answer
answer_by t reply.Bad = bad
answer_by t (reply.Question q) = answer t (line_of q)
answer_by t (reply.Edit outcome) = outcome_of outcome

-- only a question is left to be answered
abbrev pub IsReply : Reply → Type 0
IsReply (reply.Question q) = IsQuestion (line_of q)
IsReply _ = Unit {0}

-- what a line says is carried out and is replied to, or without memory the document stays as it is
abbrev pub Edits : Option grammar.EditLine → Result Reply AllocError → (old new : Tree) → Type 0
Edits said result old new =
    MatchResult result
    (λ r. (answer_by new r ≡ edit_reply old said) × (new ≡ after_edit old said))
    (λ _. new ≡ old)

-- what bytes say was carried out in a document
pub record CarriesOut (bytes : List ℕ) (said : Option grammar.EditLine) (old new : Tree) (before after : Count) : Type 0 where
  pub says : SaysEdit bytes said
  pub document : new ≡ after_edit old said
  pub lines : after.lines ≡ before.lines + 1
  pub edits : after.edits ≡ before.edits + one_if_done (edit_reply old said)

-- the answer is written, or the writer fails in it; without memory, which a line without bytes does not need, all stays
abbrev pub AnswersLine : {W A : Type 0} → WriterMembers W → (bytes : List ℕ) (old new : Tree) (early late : W) (before after : Count)
    → Result A RunCause → Type 0
AnswersLine w bytes old new early late before after (Ok done) =
    (said : Option grammar.EditLine) × CarriesOut bytes said old new before after
    × Written w.OBSERVABLE w.COUNTS w.contents w.pos w.failures w.last_error w.known early late (spelled_answer (edit_reply old said))
AnswersLine w bytes old new early late before after (Err Write) =
    (said : Option grammar.EditLine) × CarriesOut bytes said old new before after
    × (e : Error) × Failed w.OBSERVABLE w.COUNTS w.contents w.pos w.failures w.last_error w.known early late (spelled_answer (edit_reply old said)) e
AnswersLine w bytes old new early late before after (Err OutOfMemory) =
    (bytes ≢ []) × (new ≡ old) × (late ≡ early) × (after ≡ before)
AnswersLine w bytes old new early late before after (Err _) = ⊥

-- the reader failed once if that ended the session, and otherwise never
abbrev pub ReaderEndsRun : {R : Type 0} → Ghosts R → (early late : R) → Result Count RunFault → Type 0
ReaderEndsRun r early late result =
    MatchResult result (λ _. r.failures late ≡ r.failures early) (λ f. ReaderFails f.cause (r.failures early) (r.failures late))

-- the writer failed once if that ended the session and it counts its failures, and otherwise never
abbrev pub WriterEndsRun : {W : Type 0} → WriterMembers W → (early late : W) → Result Count RunFault → Type 0
WriterEndsRun w early late result =
    MatchResult result (λ _. w.failures late ≡ w.failures early) (λ f. WriterFails w.COUNTS f.cause (w.failures early) (w.failures late))

-- the same of a call that may end the session
abbrev pub WriterEndsCall : {W A : Type 0} → WriterMembers W → (early late : W) → Result A RunCause → Type 0
WriterEndsCall w early late result =
    MatchResult result (λ _. w.failures late ≡ w.failures early) (λ cause. WriterFails w.COUNTS cause (w.failures early) (w.failures late))
