-- What each function ensures, where that is longer than a line. Of a source or a writer that is not observable nothing is
-- said but its failures.
use Rattle.std.specs.Prelude.{◌≡◌, ℕ, ◌+◌, ◌≤◌, Bool, List, ◌∷◌, length, drop, IsTrue, Option, option_map, Result, IfOk, IfErr, MatchResult, Vec}
use Rattle.std.specs.declared.alloc.Global.{Global}
use Rattle.archive_shape.specs.declared.steps.Steps.{Steps}
use Rattle.archive_shape_layout.specs.Holds.{root_position}
use Rattle.archive_shape_layout.specs.Writing.{WriterMembers, Writes}
use Rattle.archive_shape_layout.specs.declared.error.Error.{Error}
use Rattle.cabinet_text_grammar.specs.Answering.{answer, change, reply, spelled_answer}
use Rattle.cabinet_text_grammar.specs.Line as line
use Rattle.cabinet_text_grammar.specs.Path.{node_at}
use Rattle.cabinet_text_grammar.specs.Spelling.{text_of}
use Rattle.cabinet_text_grammar.specs.Tree.{Tree}
use Rattle.cabinet_text_nodes.specs.Answers.{Tells}
use Rattle.cabinet_text_nodes.specs.Kinds.{kind_of}
use Rattle.cabinet_text_nodes.specs.Outcomes.{outcome_of}
use Rattle.cabinet_text_nodes.specs.View.{leaf_of, line_of, path_of}
use Rattle.cabinet_text_nodes.specs.declared.answer.Asked.{Asked}
use Rattle.cabinet_text_nodes.specs.declared.answer.EditAnswer.{EditAnswer}
use Rattle.cabinet_text_nodes.specs.declared.leaf.Leaf.{Leaf}
use Rattle.cabinet_text_nodes.specs.declared.line.Line.{Line}
use Rattle.cabinet_text_nodes.specs.declared.line.Step.{Step}
use Rattle.cabinet_text_nodes.specs.declared.node.Kind.{Kind}
use Rattle.cabinet_text.specs.Input.{lines_of, longest_line}
use Rattle.cabinet_text.specs.Session.{lines_in_place, edit_lines, answer_to, one_if_done}
use Rattle.cabinet_text.specs.Working.{WorksAsDocument, LeftByRun}
use Rattle.cabinet_documents.specs.Accepted.{Accepted}
use Rattle.cabinet_documents.specs.Audit.{IsRefusedFor}
use Rattle.cabinet_documents.specs.Image.{Image}
use Rattle.cabinet_documents.specs.Node.{node_shape}
use Rattle.cabinet_archives.specs.Cost.{PathTakes}
use Rattle.cabinet_archives.specs.Refused.{refusal_of}
use Rattle.cabinet_archives.specs.Saving.{HasNoImageFor, IsWithinLimits}
use Rattle.cabinet_archives.specs.Setting.{EditLeaves}
use Rattle.cabinet_archives.specs.declared.opening.refusal.OpenRefusal.{OpenRefusal}
use Rattle.cabinet_archives.specs.declared.saving.saving.SaveRefusal.{SaveRefusal}
use Rattle.cabinet.specs.declared.editing.EditedArchive.{EditedArchive}
use Rattle.cabinet.specs.Editing.{EditedByLines}
use Rattle.cabinet.specs.Steps.{Carried, Completed, Faulted}
use Rattle.cabinet_text.specs.declared.session.Count.{Count}
use Rattle.cabinet_text.specs.declared.session.RunCause.{RunCause}
use Rattle.cabinet_text.specs.declared.session.RunFault.{RunFault}
use Rattle.cabinet_text.specs.declared.source.Source.{Ghosts}

-- ---- questions and edits of the document whose archive the bytes are

-- the answer to a question is written
abbrev pub WritesAnswer : {W A : Type 0} → WriterMembers W → (bytes : List ℕ) → Line → (early late : W) → Result A Error → Type 0
WritesAnswer w bytes question early late result =
    (t : Tree) → Accepted bytes t → Writes w early late (spelled_answer (answer t (line_of question))) result

-- what the call returns agrees with the answer
abbrev pub TellsAnswer : (bytes : List ℕ) → Line → Asked → Type 0
TellsAnswer bytes question asked = (t : Tree) → Accepted bytes t → Tells asked (answer t (line_of question))

-- the kind of the node that a path leads to, if it leads to one
abbrev pub FindsKind : (bytes : List ℕ) → List Step → Option Kind → Type 0
FindsKind bytes path result = (t : Tree) → Accepted bytes t → result ≡ option_map kind_of (node_at t (path_of path))

-- what the look-ups on the path took
abbrev pub CountsSteps : (bytes : List ℕ) → List Step → Steps → Type 0
CountsSteps bytes path result =
    PathTakes bytes (root_position (length bytes) node_shape) (path_of path) result.comparisons result.strides

-- the outcome of setting a leaf is the document's answer to that edit
abbrev pub AnswersEdit : (bytes : List ℕ) → List Step → Leaf → EditAnswer → Type 0
AnswersEdit bytes path leaf result =
    (t : Tree) → Accepted bytes t → outcome_of result ≡ answer t (line.set (path_of path) (leaf_of leaf))

-- the edit writes the own bytes of its leaf if it is done, and no others
abbrev pub WritesEdit : (old : List ℕ) → List Step → Leaf → EditAnswer → (new : List ℕ) → Type 0
WritesEdit old path leaf result new =
    (t : Tree) (a : Accepted old t) → EditLeaves old a.value (path_of path) (leaf_of leaf) (outcome_of result) new

-- the bytes are then the archive of the changed document
abbrev pub ChangesArchive : (old : List ℕ) → List Step → Leaf → (new : List ℕ) → Type 0
ChangesArchive old path leaf new = (t : Tree) → Accepted old t → Accepted new (change t (path_of path) (leaf_of leaf))

-- an image of the document is then that of the changed one
abbrev pub ChangesImage : (old : List ℕ) → List Step → Leaf → (new : List ℕ) → Type 0
ChangesImage old path leaf new = (t : Tree) → Image t old → Image (change t (path_of path) (leaf_of leaf)) new

-- the document's text is written, and nothing where the bytes are refused
abbrev pub WritesDocument : {W A : Type 0} → WriterMembers W → (bytes : List ℕ) (early late : W) → Result (Result A Error) OpenRefusal → Type 0
WritesDocument w bytes early late result =
    MatchResult result
    (λ written. (t : Tree) × Accepted bytes t × Writes w early late (text_of t) written)
    (λ refusal. IsRefusedFor bytes (refusal_of refusal) × (late ≡ early))

-- ---- runs

-- as many lines as the result tells were carried out, which changed the bytes
abbrev pub EditedByRun : (old new : List ℕ) → Result Count RunFault → Type 0
EditedByRun old new result = MatchResult result (λ n. EditedByLines old new n.lines n.edits) (λ f. EditedByLines old new f.lines f.edits)

-- the same of the bytes that a document was saved as
abbrev pub EditsSaved : Tree → (new : List ℕ) → Result Count RunFault → Type 0
EditsSaved t new result = (image : List ℕ) × Image t image × EditedByRun image new result

-- the whole input was carried out, if no fault ended the run
abbrev pub RunsAll : {R W : Type 0} → Ghosts R → WriterMembers W → (reader : R) (old new : List ℕ) (early late : W) → Result Count RunFault
    → Type 0
RunsAll r w reader old new early late result =
    IsTrue r.OBSERVABLE → IsTrue w.OBSERVABLE
    → IfOk result (λ n. Completed (r.left reader) old new (w.contents early) (w.contents late) n.lines n.edits)

-- the lines before the fault were carried out, if one ended the run
abbrev pub RunsToFault : {R W : Type 0} → Ghosts R → WriterMembers W → (reader rest : R) (old new : List ℕ) (early late : W)
    → Result Count RunFault → Type 0
RunsToFault r w reader rest old new early late result =
    IsTrue r.OBSERVABLE → IsTrue w.OBSERVABLE
    → IfErr result (λ f. Faulted w.COUNTS (r.left reader) (r.left rest) old new (w.contents early) (w.contents late) f.lines f.edits f.cause)

-- ---- archives of documents that grow

-- the bytes are the image of a document, or it was not saved
abbrev pub SavesAs : Result (Vec ℕ Global) SaveRefusal → Tree → Type 0
SavesAs archive t = MatchResult archive (λ bytes. Image t bytes.items × IsWithinLimits t) (HasNoImageFor t)

-- the answers are those of the document of the archive, and the document after the lines is saved
abbrev pub EditsDocument : (counts : Bool) (old : List ℕ) (input left early late : List ℕ) → EditedArchive → Type 0
EditsDocument counts old input left early late e =
    (t : Tree) × Accepted old t × WorksAsDocument edit_lines (SavesAs e.archive) counts t input left early late e.outcome

-- as many lines as the outcome tells were carried out, and the document after them is saved
abbrev pub SavesEdits : (old : List ℕ) → EditedArchive → Type 0
SavesEdits old e = (t : Tree) × Accepted old t × LeftByRun edit_lines (SavesAs e.archive) t e.outcome

-- ---- lines

-- the answer to what a line says is written
abbrev pub WritesReply : {W A : Type 0} → WriterMembers W → (bytes : List ℕ) → Option Line → (early late : W) → Result A Error → Type 0
WritesReply w bytes said early late result =
    (t : Tree) → Accepted bytes t → Writes w early late (answer_to lines_in_place t (option_map line_of said)) result

-- one more edit is counted, if the line is one that is done
abbrev pub CountsEdit : (bytes : List ℕ) → Option Line → (before after : ℕ) → Type 0
CountsEdit bytes said before after =
    (t : Tree) → Accepted bytes t → after ≡ before + one_if_done (reply t (option_map line_of said))

-- the next line of the input is carried out too, or the run ends in it
abbrev pub CarriesLine : {W A : Type 0} → WriterMembers W → (text : List ℕ) (old new : List ℕ) (early late : W) (before after : Count)
    → Result A RunCause → Type 0
CarriesLine w text old new early late before after result =
    IsTrue w.OBSERVABLE → (input x first left : List ℕ) (more : List (List ℕ))
    → Carried input x old first (w.contents early) before.lines before.edits → drop before.lines (lines_of input) ≡ text ∷ more
    → length text ≤ longest_line
    → MatchResult result
    (λ _. Carried input x new first (w.contents late) after.lines after.edits)
    (λ cause. Faulted w.COUNTS input left x new first (w.contents late) after.lines after.edits cause)

-- A line changes the bytes from y to z: if the lines counted before changed any bytes to y, the lines counted after change
-- those bytes to z.
abbrev pub KeepsEdits : (y z : List ℕ) → Count → Count → Type 0
KeepsEdits y z before after =
    (x : List ℕ) → EditedByLines x y before.lines before.edits → EditedByLines x z after.lines after.edits
